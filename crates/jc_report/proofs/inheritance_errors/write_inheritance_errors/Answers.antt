use Rattle.std.proofs.Common.{◌∙◌, [], ap}
use Rattle.std.specs.Prelude.{slice_index_or}
use Rattle.std.specs.List.{flat_map}
use Rattle.jc_text.proofs.Sending.{◌⟫◌, sends_equal}
use Rattle.jc_report.specs.ErrorsText.{overridden_error, unimplemented_error}
use Rattle.jc_report.proofs.inheritance_errors.write_inheritance_errors.Goals as goal

pub returns : goal.returns
returns g c =
    let name = c.args.facts.now.name in
    c.write_final_superclass.ensures
    ⟫ sends_equal
    (ap (λ n. flat_map (overridden_error n) c.overridden.result.now) c.name.ensures ∙ ap (flat_map (overridden_error name)) c.overridden.ensures)
    c.write_overridden.ensures
    ⟫ sends_equal (ap (λ n. flat_map (unimplemented_error n) (slice_index_or c.args.unimplemented.now c.args.place [])) c.name-2.ensures)
    c.write_unimplemented.ensures
