use Rattle.jc_linkage.specs.inside.SwitchedNames.{AreUsers, switches_by}
use Rattle.jc_linkage.proofs.prefixes.users_of_switched.Given as goal

-- the users of the names so far
abbrev pub invariant-loop-name : goal.invariant-loop-name
invariant-loop-name l = AreUsers (switches_by l.fn.kept l.fn.old l.fn.new) l.fn.dependants.reach l.name-iterator l.found
