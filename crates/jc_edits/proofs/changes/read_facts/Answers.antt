use Rattle.std.proofs.Common.{◌≡◌, Ok, Some, sym, ap, ◌∙◌, arith}
use Rattle.jc_view.specs.Outcome.{class_read}
use Rattle.jc_classes.specs.Facts.{Facts}
use Rattle.jc_report.specs.Reports.{facts_by}
use Rattle.jc_edits.proofs.changes.read_facts.Goals as goal

pub returns-in_ok-of-in-Ok : goal.returns-in_ok-of-in-Ok
returns-in_ok-of-in-Ok c =
    let b = c.args.bytes.now in
    let read : class_read b ≡ Ok c.in-Ok.view =
    c.outcomes_are_exact.ensures.read b c.in-Ok.view c.in-Ok.ensures.named.0 (λ i. omega (arith, c.type_inv.bytes i)) c.in-Ok.ensures.ok c.in-Ok.ensures.named.1 in
    ap (λ (x : Facts). Some x) c.in_ok-of-in-Ok.ensures ∙ ap (facts_by c.args.path.now) (sym read)
