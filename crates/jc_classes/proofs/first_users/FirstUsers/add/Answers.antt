use Rattle.std.proofs.Common.{List, rules, subst}
use Rattle.std.specs.List.{list_any}
use Rattle.std.proofs.lemmas.List.{take_all}
use Rattle.jc_view.specs.declared.constant_pool.ConstantIndex.{ConstantIndex}
use Rattle.jc_classes.specs.Users.{names_constant}
use Rattle.jc_classes.specs.inside.FirstUsers.{SetsFirst}
use Rattle.jc_classes.specs.UsedConstants.{is_among}
use Rattle.jc_classes.specs.inside.Using.{Marks}
use Rattle.jc_classes.proofs.using.FirstUsers.{sets_more, sets_nothing}
use Rattle.jc_classes.proofs.using.Marking.{marks_more, marks_nothing}
use Rattle.jc_classes.proofs.first_users.FirstUsers.add.Goals as goal

pub loop-index-init : goal.loop-index-init
loop-index-init c = record { seen = c.requires; marks = marks_nothing c.args.self.now.seen.items; added = sets_nothing c.args.method c.args.self.now.numbers.items }

pub add_name-requires : goal.add_name-requires
add_name-requires c = c.loop-index.invariant.seen

pub loop-index-preserved : goal.loop-index-preserved
loop-index-preserved c = record {
  seen = c.add_name.ensures.seen;
  marks = marks_more c.args.names.now c.loop-index.index-index _ _ _ _ (search rules) (search rules) c.loop-index.invariant.marks c.add_name.ensures.marks;
  added = sets_more c.args.class.now c.args.method c.loop-index.index-index c.args.names.now _ _ _ _ (search rules) (search rules) c.loop-index.invariant.added c.add_name.ensures.added;
}

pub returns-clause-seen : goal.returns-clause-seen
returns-clause-seen c = c.loop-index.invariant.seen

pub returns-clause-marks : goal.returns-clause-marks
returns-clause-marks c =
    subst (λ (names : List ConstantIndex). Marks (is_among names) c.args.self.now.seen.items c.loop-index.self.seen.items)
    (take_all c.loop-index.index-index c.args.names.now (search rules)) c.loop-index.invariant.marks

pub returns-clause-added : goal.returns-clause-added
returns-clause-added c =
    subst (λ (names : List ConstantIndex). SetsFirst (λ i. list_any (names_constant c.args.class.now i) names) c.args.method c.args.self.now.numbers.items c.loop-index.self.numbers.items)
    (take_all c.loop-index.index-index c.args.names.now (search rules)) c.loop-index.invariant.added
