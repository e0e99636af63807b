use Rattle.std.proofs.Common.{◌≡◌, map, take}
use Rattle.jc_classes.proofs.using.UsersOf.{entry_user}
use Rattle.jc_classes.proofs.users.users.Given as goal

abbrev pub invariant-loop-entry : goal.invariant-loop-entry
invariant-loop-entry l = l.users.items ≡ map (entry_user l.class) (take l.entry-index l.references)
