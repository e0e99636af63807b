use Rattle.std.proofs.Common.{length, sym, ap, ◌∙◌, ◌∷◌, rules}
use Rattle.std.proofs.lemmas.List.{take_rest}
use Rattle.jc_base.specs.CodeUnits.{units_before}
use Rattle.jc_base.proofs.texts.UnitsBefore.{units_before-none, units_before-some}
use Rattle.jc_base.proofs.code_units.UnitsIterator.next.Goals as goal

pub returns-in_err-unit-clause-steps : goal.returns-in_err-unit-clause-steps
returns-in_err-unit-clause-steps c =
    let none = sym c.self.view_is ∙ units_before-none c.self.inside.rest.now (sym c.unit_at.ensures.value ∙ c.in_err-unit.was) in
    rw c.from_residual.ensures (none, none)

pub returns-clause-steps : goal.returns-clause-steps
returns-clause-steps c =
    let rest = c.self.inside.rest.now in
    sym c.self.view_is ∙ units_before-some rest c.in_ok-unit.unit c.in_ok-unit.size (sym c.unit_at.ensures.value ∙ c.in_ok-unit.was)
    ∙ ap (λ xs. c.in_ok-unit.unit ∷ units_before xs) (sym (take_rest rest c.in_ok-unit.size))

pub returns-clause-goes : goal.returns-clause-goes
returns-clause-goes c =
    let rest = c.self.inside.rest.now in
    let step = sym c.self.view_is ∙ units_before-some rest c.in_ok-unit.unit c.in_ok-unit.size (sym c.unit_at.ensures.value ∙ c.in_ok-unit.was)
    ∙ ap (λ xs. c.in_ok-unit.unit ∷ units_before xs) (sym (take_rest rest c.in_ok-unit.size)) in
    let shorter = ap length step in search rules
