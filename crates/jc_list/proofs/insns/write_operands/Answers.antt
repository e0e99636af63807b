use Rattle.std.proofs.Common.{◌∙◌, ◌++◌, ap, sym, rules, w16, w64}
use Rattle.std.proofs.lemmas.Int.{to_z-of_z}
use Rattle.jc_text.proofs.Sending.{sends_equal, sends_nothing}
use Rattle.jc_list.specs.InsnLines.{blank_decimal, blank_signed, operands_text}
use Rattle.jc_list.proofs.lines.Signed.{same_blank}
use Rattle.jc_list.proofs.insns.write_operands.Goals as goal

pub returns-in-Plain : goal.returns-in-Plain
returns-in-Plain g c = sends_equal (ap (operands_text c.args.class.now) (sym c.in-Plain.is)) (sends_nothing _ _ _)

pub returns-in-Push : goal.returns-in-Push
returns-in-Push g c =
    sends_equal (same_blank w16 c.in-Push.value (search rules) ∙ ap (operands_text c.args.class.now) (sym c.in-Push.is)) c.write_number.ensures

pub returns-in-Local : goal.returns-in-Local
returns-in-Local g c = sends_equal (ap (operands_text c.args.class.now) (sym c.in-Local.is)) c.write_number-in-Local.ensures

pub returns-in-Increment : goal.returns-in-Increment
returns-in-Increment g c =
    let amount = ap (λ v. blank_decimal c.in-Increment.index ++ blank_signed v) (to_z-of_z w16 c.in-Increment.amount (search rules)) in
    sends_equal (amount ∙ ap (operands_text c.args.class.now) (sym c.in-Increment.is)) c.write_increment.ensures

pub returns-in-Branch : goal.returns-in-Branch
returns-in-Branch g c =
    sends_equal (same_blank w64 c.in-Branch.target (search rules) ∙ ap (operands_text c.args.class.now) (sym c.in-Branch.is)) c.write_number-in-Branch.ensures

pub returns-in-TableSwitch : goal.returns-in-TableSwitch
returns-in-TableSwitch g c = sends_equal (ap (operands_text c.args.class.now) (sym c.in-TableSwitch.is)) c.write_table_switch.ensures

pub returns-in-LookupSwitch : goal.returns-in-LookupSwitch
returns-in-LookupSwitch g c = sends_equal (ap (operands_text c.args.class.now) (sym c.in-LookupSwitch.is)) c.write_lookup_switch.ensures

pub returns-in-InvokeInterface : goal.returns-in-InvokeInterface
returns-in-InvokeInterface g c = sends_equal (search rules) c.write_counted_entry.ensures

pub returns-in-NewArray : goal.returns-in-NewArray
returns-in-NewArray g c = sends_equal (ap (operands_text c.args.class.now) (sym c.in-NewArray.is)) c.write_number-in-NewArray.ensures

pub returns-in-Ldc : goal.returns-in-Ldc
returns-in-Ldc g c = sends_equal (search rules) c.write_entry.ensures
