use Rattle.std.proofs.Common.{◌∙◌, ap, sym, rules, w32}
use Rattle.std.proofs.lemmas.Int.{to_z-of_z}
use Rattle.std.specs.List.{flat_map}
use Rattle.jc_text.proofs.Sending.{part_sent, all_sent, sends_equal}
use Rattle.jc_list.specs.InsnLines.{case_line}
use Rattle.jc_list.proofs.lines.Joined.{all_left}
use Rattle.jc_list.proofs.lines.Signed.{same_switch_line}
use Rattle.jc_list.proofs.switches.write_case_lines.Goals as goal

pub loop-case-init : goal.loop-case-init
loop-case-init g c =
    let from = c.into_iter-case-iterator.ensures.into_iter_gives ∙ c.cases-case-items.ensures in
    all_left (sym (ap (λ it. flat_map case_line it.left) from))

pub loop-case-preserved : goal.loop-case-preserved
loop-case-preserved g c =
    let value = c.from.ensures ∙ to_z-of_z w32 c.in-Some.case.value (search rules) in
    let line = same_switch_line c.from.result c.in-Some.case.target c.in-Some.case.value (search rules) (search rules) value in
    part_sent c.loop-case.invariant (ap (flat_map case_line) c.in-Some.ensures.steps.1) (sends_equal line c.write_switch_line.ensures)

pub returns : goal.returns
returns g c = all_sent c.loop-case.invariant (ap (flat_map case_line) c.in-None.ensures.steps.1.0)
