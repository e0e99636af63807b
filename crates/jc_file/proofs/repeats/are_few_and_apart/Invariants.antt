use Rattle.jc_file.proofs.sets.KeysApart.{DecideAll}
use Rattle.jc_file.proofs.repeats.are_few_and_apart.Given as goal

-- what is left decides
abbrev pub invariant-loop-member : goal.invariant-loop-member
invariant-loop-member l = DecideAll l.fn.members l.keys.items l.member-iterator
