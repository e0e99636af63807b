use Rattle.std.proofs.Common.{◌≡◌, ◌++◌, drop}
use Rattle.std.specs.List.{flat_map}
use Rattle.jc_code.specs.inside.Found.{insn_faults}
use Rattle.jc_code.proofs.faults.add_jump_faults.Given as goal

-- the faults so far, and those of the instructions that are left, are all
abbrev pub invariant-loop-jump : goal.invariant-loop-jump
invariant-loop-jump l = l.found.items ++ flat_map (insn_faults l.scope) (drop l.jump-index l.jumps) ≡ l.fn.found.items ++ flat_map (insn_faults l.scope) l.jumps
