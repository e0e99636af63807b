use Rattle.std.proofs.Common.{refl}
use Rattle.jc_code.specs.Opcodes.{groups}
use Rattle.jc_code.proofs.decoding.Opcodes.{length-opcodes}
use Rattle.jc_code.proofs.decoding.Lengths.{spelling_length}
use Rattle.jc_code.proofs.laws.opcode_table.Goals as goal

pub returns-clause-count : goal.returns-clause-count
returns-clause-count c = length-opcodes

pub returns-clause-groups : goal.returns-clause-groups
unfolding groups
returns-clause-groups c = refl

pub returns-clause-lengths : goal.returns-clause-lengths
returns-clause-lengths c = λ at insn opcode s spelled what is sized. spelling_length at insn opcode s what spelled is sized
