use Rattle.std.proofs.Common.{◌∙◌, ◌==◌, None, Some, ap, option_map, sym}
use Rattle.std.specs.Prelude.{option_and_then}
use Rattle.std.proofs.lemmas.Bool.{cond-false, cond-true, eq-eqb, ne_eqb}
use Rattle.jc_classes.specs.Lent.{reference_lent}
use Rattle.jc_report.proofs.rows.ReferencesFound.{found_reference, if_index}
use Rattle.jc_report.proofs.reference_place.reference_by_index.Goals as goal

pub returns-in_err-reference : goal.returns-in_err-reference
returns-in_err-reference c =
    let there = option_and_then (if_index c.args.index) in
    ap (option_map reference_lent) c.from_residual.ensures ∙ ap there c.in_err-reference.ensures
    ∙ found_reference c.args.index c.args.facts.now.references c.place_of.result c.are_in_order.ensures.references c.place_of.ensures

pub returns-then-reference-index : goal.returns-then-reference-index
returns-then-reference-index c =
    let there = option_and_then (if_index c.args.index) in
    let r = reference_lent c.in_ok-reference.reference in
    sym (cond-true (r.index == c.args.index) (Some r) None (eq-eqb r.index c.args.index c.if-reference-index.true))
    ∙ ap there c.in_ok-reference.ensures
    ∙ found_reference c.args.index c.args.facts.now.references c.place_of.result c.are_in_order.ensures.references c.place_of.ensures

pub returns-else-reference-index : goal.returns-else-reference-index
returns-else-reference-index c =
    let there = option_and_then (if_index c.args.index) in
    let r = reference_lent c.in_ok-reference.reference in
    sym (cond-false (r.index == c.args.index) (Some r) None (ne_eqb r.index c.args.index c.if-reference-index.false))
    ∙ ap there c.in_ok-reference.ensures
    ∙ found_reference c.args.index c.args.facts.now.references c.place_of.result c.are_in_order.ensures.references c.place_of.ensures
