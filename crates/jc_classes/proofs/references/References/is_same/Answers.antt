use Rattle.std.proofs.Common.{◌≡◌, ◌∙◌, true, map, ap, sym, arith}
use Rattle.std.proofs.lemmas.Grind.{common_steps}
use Rattle.std.proofs.lemmas.Slice.Eq.{slice_eq-Decides}
use Rattle.jc_classes.specs.declared.facts.ReferenceEntry.{ReferenceEntry}
use Rattle.jc_classes.specs.contracts.facts.ReferenceEntryPartialEq.TheImpl.{eq-value}
use Rattle.jc_classes.specs.inside.FactsShown.{reference_shown}
use Rattle.jc_classes.proofs.references.References.is_same.Goals as goal

entry_same : (a b : ReferenceEntry) → eq-value.it a b ≡ true → a ≡ b
entry_same a b e = grind (arith, common_steps, e)

entry_itself : (a b : ReferenceEntry) → a ≡ b → eq-value.it a b ≡ true
entry_itself a b e = grind (arith, common_steps, e)

pub returns-then-eq : goal.returns-then-eq
returns-then-eq c is =
    let one = c.self.inside in
    let other = c.other.inside in
    let slices : c.as_slice.result.now ≡ c.as_slice-2.result.now =
    (slice_eq-Decides (λ a b. (entry_same a b, entry_itself a b)) c.as_slice.result.now c.as_slice-2.result.now c.eq.result c.eq.ensures).0 c.if-eq.true in
    let entries : one.entries.value.items ≡ other.entries.value.items =
    sym (c.as_slice.ensures.value ∙ ap (λ v. v.items) c.as_ref.ensures) ∙ slices ∙ c.as_slice-2.ensures.value ∙ ap (λ v. v.items) c.as_ref-2.ensures in
    let texts : one.texts.value ≡ other.texts.value = sym c.as_ref-then-eq.ensures ∙ c.is_same.ensures is ∙ c.as_ref-then-eq-2.ensures in
    sym c.self.view_is
    ∙ ap (λ es. map (reference_shown one.texts.value) es) entries
    ∙ ap (λ ts. map (reference_shown ts) other.entries.value.items) texts
    ∙ c.other.view_is
