use Rattle.std.proofs.Common.{slice_get, ap, ◌∙◌}
use Rattle.jc_code.specs.Opcodes.{groups, opcodes}
use Rattle.jc_code.proofs.opcode.Opcode.entry.Goals as goal

pub returns : goal.returns
unfolding groups opcodes
returns c = c.row.ensures ∙ ap (slice_get opcodes) c.self.view_is
