use Rattle.std.proofs.Common.{◌∷◌, ◌∙◌, sym, ap}
use Rattle.std.specs.List.{flat_map}
use Rattle.jc_text.specs.Escapes.{unit_text}
use Rattle.jc_text.proofs.Sending.{none_sent, part_sent, all_sent}
use Rattle.jc_text.proofs.texts.PlainRuns.{plain_units_split, fewer_units}
use Rattle.jc_text.proofs.text_writer.TextWriter.units.Goals as goal

pub loop-unit-init : goal.loop-unit-init
loop-unit-init g c = none_sent _ _ _ _

pub returns-in_default : goal.returns-in_default
returns-in_default g c =
    let split = plain_units_split c.loop-unit.left.now _ _ c.split_plain.ensures.plain c.split_plain.ensures.escaped in
    all_sent (part_sent c.loop-unit.invariant split c.text.ensures) (ap (flat_map unit_text) (sym c.new-units.ensures ∙ c.in_default.ensures.steps.0))

pub loop-unit-smaller : goal.loop-unit-smaller
loop-unit-smaller g c =
    let next = sym c.new-units.ensures ∙ c.in-Some.ensures.steps ∙ ap (λ us. c.in-Some.unit ∷ us) (sym c.rest-left.ensures) in
    fewer_units c.loop-unit.left.now c.split_plain.result.1.now c.rest-left.result.now c.in-Some.unit c.split_plain.ensures.escaped next

pub loop-unit-preserved : goal.loop-unit-preserved
loop-unit-preserved g c =
    let split = plain_units_split c.loop-unit.left.now _ _ c.split_plain.ensures.plain c.split_plain.ensures.escaped in
    let next = sym c.new-units.ensures ∙ c.in-Some.ensures.steps ∙ ap (λ us. c.in-Some.unit ∷ us) (sym c.rest-left.ensures) in
    part_sent (part_sent c.loop-unit.invariant split c.text.ensures) (ap (flat_map unit_text) next) c.unit.ensures
