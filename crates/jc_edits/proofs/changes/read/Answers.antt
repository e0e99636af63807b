use Rattle.std.proofs.Common.{◌≡◌, ◌∙◌, Ok, arith, ap, sym}
use Rattle.std.specs.FinMap as map
use Rattle.std.proofs.lemmas.Result.{IfOk-weaker}
use Rattle.jc_view.specs.Outcome.{class_named, class_read}
use Rattle.jc_edits.specs.inside.Changing.{won_as, won_by}
use Rattle.jc_edits.proofs.placing.ClassesRead.{read_name}
use Rattle.jc_edits.proofs.changes.read.Goals as goal

pub returns-in-Ok-clause-class : goal.returns-in-Ok-clause-class
returns-in-Ok-clause-class c =
    let b = c.args.bytes.now in
    let name = c.name.result.now in
    let named : class_named b ≡ Ok name = (c.outcomes_are_exact.ensures.named b name (λ i. omega (arith, c.type_inv.bytes i))).1 (c.in-Ok.view, c.in-Ok.ensures.ok, c.name.ensures.named) in
    IfOk-weaker c.read_class.result _ _ (λ read e. e ∙ sym named) c.read_class.ensures.class

pub returns-in-Ok-clause-put : goal.returns-in-Ok-clause-put
returns-in-Ok-clause-put c = λ f are.
    let b = c.args.bytes.now in
    let name = c.name.result.now in
    let path = c.args.path.now in
    let others = map.remove f path in
    let named : class_named b ≡ Ok name = (c.outcomes_are_exact.ensures.named b name (λ i. omega (arith, c.type_inv.bytes i))).1 (c.in-Ok.view, c.in-Ok.ensures.ok, c.name.ensures.named) in
    let read : class_read b ≡ Ok c.in-Ok.view =
    c.outcomes_are_exact.ensures.read b c.in-Ok.view name (λ i. omega (arith, c.type_inv.bytes i)) c.in-Ok.ensures.ok c.name.ensures.named in
    let same = ap (λ n. won_as others path n c.in-Ok.view) (sym (read_name b name c.in-Ok.view named read)) ∙ ap (won_by others path) (sym read) in
    IfOk-weaker c.read_class.result _ _ (λ found e. e ∙ same) (c.read_class.ensures.put f are)
