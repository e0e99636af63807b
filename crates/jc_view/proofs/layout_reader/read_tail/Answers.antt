use Rattle.jc_view.specs.declared.layout_reader.ClassTables.{ClassTables}
use Rattle.jc_view.proofs.reading.BehindConstants.{has_tables}
use Rattle.jc_view.proofs.layout_reader.read_tail.Goals as goal

abbrev read : (c : goal.In_ok-attributes) → ClassTables
read c = record { interfaces = c.in_ok-interfaces.interfaces; fields = c.in_ok-fields.fields; methods = c.in_ok-methods.methods; attributes = c.in_ok-attributes.attributes }

pub returns-clause-tables : goal.returns-clause-tables
returns-clause-tables c =
    has_tables c.args.cursor.now c.read_numbers.new.cursor c.skip_indexes.new.cursor c.skip_members.new.cursor c.skip_members-2.new.cursor c.skip_attributes.new.cursor (read c)
    c.in_ok-numbers.ensures.0 c.in_ok-numbers.ensures.1 c.in_ok-interfaces.ensures c.in_ok-fields.ensures c.in_ok-methods.ensures c.in_ok-attributes.ensures
