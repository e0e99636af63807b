use Rattle.std.proofs.Common.{ap, ◌∙◌}
use Rattle.std.specs.List.{flat_map}
use Rattle.jc_text.proofs.Sending.{◌⟫◌, sends_equal}
use Rattle.jc_resolve.specs.Answers.{loading_of}
use Rattle.jc_report.specs.PartText.{answer_lines, format_fault_line, link_line, load_line, method_fault_line, part_text}
use Rattle.jc_report.proofs.part_text.write_part.Goals as goal

pub returns : goal.returns
unfolding part_text
returns g c =
    let name = ap (λ n. load_line n (loading_of c.load.result.now)) c.name.ensures ∙ ap (load_line c.args.facts.now.name) c.load.ensures in
    sends_equal name c.write_load_line.ensures
    ⟫ sends_equal (ap (flat_map format_fault_line) c.format_faults.ensures) c.write_format_faults.ensures
    ⟫ sends_equal (ap (flat_map method_fault_line) c.code_faults.ensures) c.write_code_faults.ensures
    ⟫ sends_equal (ap (flat_map link_line) c.links.ensures) c.write_links.ensures
    ⟫ sends_equal (ap (answer_lines c.args.facts.now.references) c.answers.ensures) c.write_answers.ensures
