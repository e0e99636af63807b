use Rattle.std.proofs.Common.{◌∙◌, [], ap}
use Rattle.std.specs.Prelude.{slice_index_or}
use Rattle.std.specs.List.{flat_map}
use Rattle.jc_text.proofs.Sending.{◌⟫◌, sends_equal}
use Rattle.jc_list.specs.FaultLines.{format_line}
use Rattle.jc_resolve.specs.Answers.{loading_of}
use Rattle.jc_report.specs.ErrorsText.{answer_errors, code_error, link_error, load_error, of_class, part_errors}
use Rattle.jc_report.proofs.errors_text.write_part_errors.Goals as goal

pub returns : goal.returns
unfolding part_errors
returns g c =
    let x = c.args.class.now in
    let f = c.facts-facts.result.now in
    let p = c.part-part.result.now in
    let name = f.name in
    let methods = slice_index_or c.args.unimplemented.now c.args.place [] in
    sends_equal
    (ap (λ f. part_errors c.args.used_only f p c.args.inheritance.now methods) c.facts-facts.ensures
    ∙ ap (λ p. part_errors c.args.used_only x.facts p c.args.inheritance.now methods) c.part-part.ensures)
    (
    sends_equal (ap (λ n. load_error n (loading_of c.load.result.now)) c.name.ensures ∙ ap (load_error name) c.load.ensures) c.write_load_error.ensures
    ⟫ sends_equal (ap (λ n. flat_map (λ fault. of_class n (format_line fault)) c.format_faults.result.now) c.name-2.ensures ∙ ap (flat_map (λ fault. of_class name (format_line fault))) c.format_faults.ensures) c.write_format_errors.ensures
    ⟫ sends_equal (ap (flat_map (code_error f)) c.code_faults.ensures) c.write_code_errors.ensures
    ⟫ sends_equal (ap (flat_map (link_error f)) c.links.ensures) c.write_link_errors.ensures
    ⟫ c.write_inheritance_errors.ensures
    ⟫ sends_equal (ap (answer_errors c.args.used_only f 0 f.references) c.answers.ensures) c.write_answer_errors.ensures
    )
