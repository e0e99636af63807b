use Rattle.std.proofs.Common.{◌≡◌, Some, refl, sym, ap, ◌∙◌}
use Rattle.jc_code.specs.Opcodes.{operands_of}
use Rattle.jc_code.specs.InsnReading.{first_operands}
use Rattle.jc_code.proofs.decoding.Opcodes.{opcode_is, some_operands}
use Rattle.jc_code.proofs.decoding.Reading.{no_first, insn_cut, insn_lends_at, first_operands_are}
use Rattle.jc_code.proofs.decoder.read_insn.Goals as goal

pub returns-in_err-opcode : goal.returns-in_err-opcode
returns-in_err-opcode c =
    let byte = c.in_ok-u1.ensures in
    let xs = c.args.cursor.now.rest in
    rw c.from_residual-in_err-opcode.ensures (insn_cut c.args.cursor.now.place xs (no_first xs c.in_ok-u1.field-0 (byte.some.0 refl) byte.number c.in_err-opcode.ensures))

pub returns : goal.returns
returns c =
    let byte = c.in_ok-u1.ensures in
    let old = c.args.cursor.now in
    let opcode = c.in_ok-opcode.opcode in
    let is_opcode = opcode_is c.in_ok-u1.field-0 opcode c.in_ok-opcode.ensures in
    let what = some_operands opcode is_opcode.1 in
    let first : first_operands old.rest ≡ Some what.0 = first_operands_are old.rest (byte.some.0 refl) ∙ ap operands_of (sym byte.number ∙ is_opcode.0) ∙ what.1 in
    insn_lends_at old c.read_operands.new.cursor what.0 first (byte.some.0 refl) c.place-place.result opcode c.u1.new.self c.read_operands.result c.place-place.ensures (sym is_opcode.0 ∙ byte.number) byte.moved (c.read_operands.ensures what.0 what.1)
