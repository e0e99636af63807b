use Rattle.std.proofs.Common.{◌≡◌, List, length, map, sym, ap, subst, ◌∙◌}
use Rattle.std.proofs.lemmas.List.{length-map}
use Rattle.jc_classes.specs.Facts.{AreNumbers, Facts}
use Rattle.jc_classes.specs.declared.alike.Asked.{Asked}
use Rattle.jc_classes.specs.inside.FactsShown.{reference_shown}
use Rattle.jc_classes.proofs.texts.Numbering.{take_all}
use Rattle.jc_classes.proofs.facts.Facts.alike_references.Goals as goal

pub returns : goal.returns
returns c =
    let a = c.self.inside.inside.value in
    let asked = c.in_ok-asked.asked.items in
    let order = c.deref-one-items.result.now in
    let numbers = λ (as1 : List Asked). map (λ (x : Asked). x.number) as1 in
    let size : length c.as_slice-entries.result.now ≡ length c.args.self.now.references =
    ap length (c.as_slice-entries.ensures.value ∙ ap (λ v. v.items) c.as_ref.ensures ∙ ap (λ x. x.references.value.items) c.deref.ensures) ∙ sym (length-map a.references.value.items (reference_shown a.texts.value)) ∙ ap (λ (f : Facts). length f.references) c.self.view_is in
    let is : c.loop-one.numbers.items ≡ numbers asked = c.loop-one.invariant ∙ ap numbers (take_all order c.loop-one.one-index c.loop-one-test.false ∙ c.deref-one-items.ensures.value) in
    subst (AreNumbers (length c.args.self.now.references)) (sym is) (subst (λ n. AreNumbers n (numbers asked)) size c.in_ok-asked.ensures)
