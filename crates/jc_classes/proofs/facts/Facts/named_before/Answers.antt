use Rattle.std.proofs.Common.{◌≡◌, ◌∙◌, List, ap, map, subst}
use Rattle.std.proofs.lemmas.Result.{IfOk-weaker}
use Rattle.jc_classes.specs.Facts.{Facts, IsNamedBefore, Reference}
use Rattle.jc_classes.specs.declared.facts.ReferenceEntry.{ReferenceEntry}
use Rattle.jc_classes.specs.inside.Alike.{IsOfOneClass}
use Rattle.jc_classes.specs.inside.FactsShown.{reference_shown}
use Rattle.jc_classes.proofs.texts.NamedBefore.{named_of}
use Rattle.jc_classes.proofs.facts.Facts.named_before.Goals as goal

pub returns-clause-named : goal.returns-clause-named
returns-clause-named c =
    let a = c.self.inside.inside.value in
    let entries = a.references.value.items in
    let same : c.as_slice.result.now ≡ entries = c.as_slice.ensures.value ∙ ap (λ v. v.items) c.as_ref.ensures ∙ ap (λ x. x.references.value.items) c.deref.ensures in
    let shown : map (reference_shown a.texts.value) entries ≡ c.args.self.now.references = ap (λ (f : Facts). f.references) c.self.view_is in
    IfOk-weaker c.before_each.result _ _ (λ before named. λ number k at.
    let one = subst (λ (es : List ReferenceEntry). IsOfOneClass es number k) same (named number k at) in
    subst (λ (rs : List Reference). IsNamedBefore rs number k) shown (named_of a.texts.value entries number k one)) c.before_each.ensures.named
