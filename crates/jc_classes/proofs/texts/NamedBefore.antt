-- References that name the class of one before them.
use Rattle.std.proofs.Common.{◌≡◌, ◌∙◌, ◌⊎◌, inl, inr, ℕ, zero, suc, List, [], ◌∷◌, ◌++◌, map, length, Option, Some, None, option_map, slice_get, refl, ap, sym, subst}
use Rattle.std.proofs.lemmas.Option.{slice_get-map}
use Rattle.std.specs.Prelude.{IfSome}
use Rattle.jc_classes.specs.Facts.{IsNamedBefore, Reference}
use Rattle.jc_classes.specs.NamedTexts.{named_by}
use Rattle.jc_classes.specs.declared.facts.ReferenceEntry.{ReferenceEntry}
use Rattle.jc_classes.specs.inside.Alike.{IsOfOneClass}
use Rattle.jc_classes.specs.inside.FactsShown.{reference_shown, text_at}

-- what stands among things that one more was put behind
at_push : {X : Type 0} (xs : List X) (x y : X) (i : ℕ) → slice_get (xs ++ x ∷ []) i ≡ Some y → (slice_get xs i ≡ Some y) ⊎ ((i ≡ length xs) × (x ≡ y))
at_push [] x y zero e = inr (refl, cc)
at_push [] x y (suc i) e = absurd cc
at_push (z ∷ xs) x y zero e = inl e
at_push (z ∷ xs) x y (suc i) e = elim (at_push xs x y i e) [ inl l ↦ inl l | inr r ↦ inr (ap suc r.0, r.1) ]

abbrev pub AreNoted : List ReferenceEntry → List (Option ℕ) → Type 0
AreNoted entries before = (number k : ℕ) → slice_get before number ≡ Some (Some k) → IsOfOneClass entries number k

pub none_noted : (entries : List ReferenceEntry) → AreNoted entries []
none_noted entries = λ number k e. absurd cc

pub one_noted : (entries : List ReferenceEntry) (old new : List (Option ℕ)) (x : Option ℕ) (at : ℕ) → AreNoted entries old → length old ≡ at → new ≡ old ++ x ∷ [] → IfSome x (IsOfOneClass entries at) → AreNoted entries new
one_noted entries old new x at so_far size is noted = λ number k e.
    elim (at_push old x (Some k) number (subst (λ (xs : List (Option ℕ)). slice_get xs number ≡ Some (Some k)) is e)) [
      | inl l ↦ so_far number k l
      | inr r ↦ subst (λ n. IsOfOneClass entries n k) (sym (r.0 ∙ size)) (subst (λ (o : Option ℕ). IfSome o (IsOfOneClass entries at)) r.1 noted)
    ]

entry_of : {X Y : Type 0} (f : X → Y) (o : Option X) (y : Y) → option_map f o ≡ Some y → (x : X) × (o ≡ Some x) × (f x ≡ y)
entry_of f None y e = absurd cc
entry_of f (Some x) y e = (x, refl, cc)

-- references with their names in one constant name one class
pub named_of : (texts : List (List ℕ)) (entries : List ReferenceEntry) (number k : ℕ) → IsOfOneClass entries number k → IsNamedBefore (map (reference_shown texts) entries) number k
named_of texts entries number k h = (
  h.0,
  λ r s at_r at_s.
      let one = entry_of (reference_shown texts) (slice_get entries k) r (sym (slice_get-map (reference_shown texts) entries k) ∙ at_r) in
      let other = entry_of (reference_shown texts) (slice_get entries number) s (sym (slice_get-map (reference_shown texts) entries number) ∙ at_s) in
      let same = h.1 one.0 other.0 one.1 other.1 in
      sym (ap (λ (z : Reference). z.named) one.2) ∙ ap (λ c. named_by (text_at texts c)) same ∙ ap (λ (z : Reference). z.named) other.2,
)
