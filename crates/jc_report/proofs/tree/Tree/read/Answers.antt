use Rattle.std.proofs.Common.{◌≡◌, Ok, sym, ◌∙◌, arith}
use Rattle.std.proofs.lemmas.Result.{IfOk-weaker}
use Rattle.jc_view.specs.Outcome.{class_read}
use Rattle.jc_report.proofs.tree.Tree.read.Goals as goal

pub returns-in-Ok-clause-classes : goal.returns-in-Ok-clause-classes
returns-in-Ok-clause-classes c =
    let b = c.args.bytes.now in
    let read : class_read b ≡ Ok c.in-Ok.view =
    c.outcomes_are_exact.ensures.read b c.in-Ok.view c.in-Ok.ensures.named.0 (λ i. omega (arith, c.type_inv.bytes i)) c.in-Ok.ensures.ok c.in-Ok.ensures.named.1 in
    rw read c.read_class.ensures.classes

pub returns-in-Ok-clause-outcome : goal.returns-in-Ok-clause-outcome
returns-in-Ok-clause-outcome c =
    let b = c.args.bytes.now in
    IfOk-weaker c.read_class.result _ _ (λ outcome h. h.2 ∙ sym ((c.outcomes_are_exact.ensures.named b h.0 (λ i. omega (arith, c.type_inv.bytes i))).1 (c.in-Ok.view, c.in-Ok.ensures.ok, h.1))) c.read_class.ensures.named
