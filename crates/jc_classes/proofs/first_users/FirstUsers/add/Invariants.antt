use Rattle.std.proofs.Common.{take}
use Rattle.std.specs.List.{list_any}
use Rattle.jc_classes.specs.Users.{names_constant}
use Rattle.jc_classes.specs.UsedConstants.{is_among}
use Rattle.jc_classes.specs.inside.Using.{Marks}
use Rattle.jc_classes.specs.inside.FirstUsers.{AreSeen, SetsFirst}
use Rattle.jc_classes.proofs.first_users.FirstUsers.add.Given as goal

abbrev pub invariant-loop-index : goal.invariant-loop-index
invariant-loop-index l = record {
  seen : AreSeen l.class l.self;
  marks : Marks (is_among (take l.index-index l.names)) l.fn.self.seen.items l.self.seen.items;
  added : SetsFirst (λ i. list_any (names_constant l.class i) (take l.index-index l.names)) l.method l.fn.self.numbers.items l.self.numbers.items;
}
