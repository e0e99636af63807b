use Rattle.std.proofs.Common.{◌++◌, ◌∙◌, [], ap, codes, cond, sym}
use Rattle.jc_text.specs.Escapes.{shown}
use Rattle.jc_text.proofs.Sending.{◌⟫◌, sends_equal, sends_nothing}
use Rattle.jc_report.specs.ErrorsText.{final_superclass_error, of_class}
use Rattle.jc_report.proofs.errors.FrontTold.{told_behind}
use Rattle.jc_report.proofs.inheritance_errors.write_final_superclass.Goals as goal

pub returns-then-extends_final : goal.returns-then-extends_final
returns-then-extends_final g c =
    let f = c.args.facts.now in
    sends_equal
    (ap (λ n. of_class n (codes "extends FINAL " ++ shown c.superclass_name.result.now ++ codes "\n")) c.name.ensures
    ∙ ap (λ n. of_class f.name (codes "extends FINAL " ++ shown n ++ codes "\n")) c.superclass_name.ensures
    ∙ ap (λ b. cond b (final_superclass_error f) []) (sym c.if-extends_final.true ∙ c.extends_final.ensures))
    (told_behind _ _ c.write_front.ensures (c.text.ensures ⟫ c.shown.ensures ⟫ c.text-then-extends_final.ensures))

pub returns-else-extends_final : goal.returns-else-extends_final
returns-else-extends_final g c =
    sends_equal (ap (λ b. cond b (final_superclass_error c.args.facts.now) []) (sym c.if-extends_final.false ∙ c.extends_final.ensures)) (sends_nothing _ _ _)
