use Rattle.std.proofs.Common.{◌≡◌, Some, None, refl, sym, ap, ◌∙◌}
use Rattle.jc_code.specs.Opcodes.{operands_of}
use Rattle.jc_code.specs.InsnReading.{first_operands}
use Rattle.jc_code.proofs.decoding.Opcodes.{opcode_is, some_operands}
use Rattle.jc_code.proofs.decoding.Reading.{no_first, wide_lends_at, first_operands_are}
use Rattle.jc_code.proofs.decoder.read_wide.Goals as goal

pub returns-in_err-opcode : goal.returns-in_err-opcode
returns-in_err-opcode c =
    let byte = c.in_ok-u1.ensures in
    let none : first_operands c.args.cursor.now.rest ≡ None = no_first c.args.cursor.now.rest c.in_ok-u1.field-0 (byte.some.0 refl) byte.number c.in_err-opcode.ensures in
    rw (c.from_residual-in_err-opcode.ensures, none) refl

pub returns : goal.returns
returns c =
    let byte = c.in_ok-u1.ensures in
    let old = c.args.cursor.now in
    let opcode = c.in_ok-opcode.opcode in
    let is_opcode = opcode_is c.in_ok-u1.field-0 opcode c.in_ok-opcode.ensures in
    let what = some_operands opcode is_opcode.1 in
    let first : first_operands old.rest ≡ Some what.0 = first_operands_are old.rest (byte.some.0 refl) ∙ ap operands_of (sym byte.number ∙ is_opcode.0) ∙ what.1 in
    wide_lends_at old c.read_widened.new.cursor what.0 first (byte.some.0 refl) opcode c.u1.new.self c.read_widened.result (sym is_opcode.0 ∙ byte.number) byte.moved (c.read_widened.ensures what.0 what.1)
