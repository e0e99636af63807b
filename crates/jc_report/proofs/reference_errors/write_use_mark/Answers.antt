use Rattle.std.proofs.Common.{[], ◌∙◌, ap, codes, cond, sym}
use Rattle.jc_text.proofs.Sending.{sends_equal, sends_nothing}
use Rattle.jc_report.proofs.reference_errors.write_use_mark.Goals as goal

pub returns-then-not-is_used : goal.returns-then-not-is_used
returns-then-not-is_used g c = sends_equal (ap (λ b. cond b [] (codes " (unused)")) (sym c.if-not-is_used.true ∙ c.is_used.ensures)) c.text.ensures

pub returns-else-not-is_used : goal.returns-else-not-is_used
returns-else-not-is_used g c = sends_equal (ap (λ b. cond b [] (codes " (unused)")) (sym c.if-not-is_used.false ∙ c.is_used.ensures)) (sends_nothing _ _ _)
