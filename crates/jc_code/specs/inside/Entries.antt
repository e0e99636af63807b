-- A row of the table of opcodes as data.
use Rattle.jc_code.specs.declared.opcode.Entry as code
use Rattle.jc_code.specs.Opcodes.{Entry}

abbrev pub entry_of : code.Entry → Entry
entry_of entry = record { mnemonic = entry.0.now; operands = entry.1 }
