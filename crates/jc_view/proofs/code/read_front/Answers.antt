use Rattle.jc_view.specs.declared.code.CodeBody.{CodeBody}
use Rattle.jc_view.proofs.places.CodeEntries.{code_read, code_body}
use Rattle.jc_view.proofs.code.read_front.Goals as goal

abbrev read : (c : goal.In_ok-attributes) → CodeBody
read c = record { instructions = c.in_ok-instructions.instructions; handlers = c.in_ok-handlers.handlers; attributes = c.in_ok-attributes.attributes }

pub returns-clause-code : goal.returns-clause-code
returns-clause-code c = code_read c.args.cursor.now c.read_instructions.new.cursor c.skip_handlers.new.cursor c.skip_attributes.new.cursor (read c) c.in_ok-instructions.ensures c.in_ok-handlers.ensures c.in_ok-attributes.ensures

pub returns-clause-body : goal.returns-clause-body
returns-clause-body c = code_body c.args.cursor.now c.read_instructions.new.cursor c.skip_handlers.new.cursor c.skip_attributes.new.cursor (read c) c.in_ok-instructions.ensures c.in_ok-handlers.ensures c.in_ok-attributes.ensures
