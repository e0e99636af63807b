use Rattle.std.proofs.Common.{ap, sym}
use Rattle.jc_text.proofs.Sending.{sends_equal, sends_nothing}
use Rattle.jc_list.specs.InsnLines.{switch_lines}
use Rattle.jc_list.proofs.lines.Plain.{no_switch}
use Rattle.jc_list.proofs.insns.write_switch_lines.Goals as goal

pub returns-in-TableSwitch : goal.returns-in-TableSwitch
returns-in-TableSwitch g c = sends_equal (ap switch_lines (sym c.in-TableSwitch.is)) c.write_target_lines.ensures

pub returns-in-LookupSwitch : goal.returns-in-LookupSwitch
returns-in-LookupSwitch g c = sends_equal (ap switch_lines (sym c.in-LookupSwitch.is)) c.write_case_lines.ensures

pub returns-in_default : goal.returns-in_default
returns-in_default g c = sends_equal (sym (no_switch c.args.insn.now c.in_default.not-TableSwitch c.in_default.not-LookupSwitch)) (sends_nothing _ _ _)
