-- References in ascending order of index: the one with an index is at its place, or there is none.
use Rattle.std.proofs.Common.{◌≡◌, ◌∙◌, ◌<◌, ◌==◌, ℕ, zero, suc, Bool, true, false, List, [], ◌∷◌, Option, Some, None, refl, sym, subst, ap, arith}
use Rattle.std.specs.Prelude.{◌↔◌, if◌then◌else◌, slice_get}
use Rattle.std.specs.declared.cmp.Ordering.TheVariants.{Less}
use Rattle.std.specs.List.Sorted.{IsStrictlySortedBy}
use Rattle.std.proofs.lemmas.Cmp.{ranked}
use Rattle.std.proofs.lemmas.Bool.{cond-true, eq-eqb, false≢true, ltb-false, ltb-true}
use Rattle.std.proofs.lemmas.Bool.Decides.{Decides-eqb}
use Rattle.jc_classes.specs.Facts.{Reference}
use Rattle.jc_classes.specs.LinkLaws.{HasAnswer}
use Rattle.jc_classes.specs.Resolution.{Answer}
use Rattle.jc_classes.specs.FactsOrder.{AreByIndex}
use Rattle.jc_report.specs.inside.ReferencePlaces.{IsNarrowed, answer_there, is_below}

some_is : {X : Type 0} {x y : X} → Some x ≡ Some y → x ≡ y
some_is e = cc

-- the references after the first are in ascending order too, and the next has a greater index
later : (r : Reference) (rs : List Reference) → AreByIndex (r ∷ rs) → AreByIndex rs
unfolding IsStrictlySortedBy
later r rs rises = rises.1

next : (r s : Reference) (rs : List Reference) → AreByIndex (r ∷ s ∷ rs) → r.index < s.index
unfolding IsStrictlySortedBy
next r s rs rises = ranked r.index s.index Less (sym rises.0.0)

-- each after the first has a greater index
least_first : (r : Reference) (rs : List Reference) (number : ℕ) (s : Reference) → AreByIndex (r ∷ rs) → slice_get rs number ≡ Some s → r.index < s.index
least_first r [] number s rises at = absurd cc
least_first r (x ∷ rs) zero s rises at = subst (λ (y : Reference). r.index < y.index) (some_is at) (next r x rs rises)
least_first r (x ∷ rs) (suc number) s rises at = omega (arith, next r x rs rises, least_first x rs number s (later r (x ∷ rs) rises) at)

-- if one has a lesser index than this, then so does the first
first_below : (index : ℕ) (r : Reference) (rs : List Reference) (number : ℕ) → AreByIndex (r ∷ rs) → is_below (r ∷ rs) index number ≡ true → r.index < index
first_below index r rs zero rises below = ltb-true r.index index below
first_below index r [] (suc number) rises below = absurd (false≢true below)
first_below index r (s ∷ rs) (suc number) rises below =
    omega (arith, next r s rs rises, first_below index s rs number (later r (s ∷ rs) rises) below)

-- the answer that is there is one to a reference with the index
there : (index : ℕ) (o : Option Reference) (b : Option Answer) (a : Answer) → answer_there index o b ≡ Some a
    → (r : Reference) × (o ≡ Some r) × (r.index ≡ index) × (b ≡ Some a)
there index None b a e = absurd cc
there index (Some r) b a e = by (r.index == index) refl e
  where
    by : (t : Bool) → (r.index == index) ≡ t → (if t then b else None) ≡ Some a → (s : Reference) × (Some r ≡ Some s) × (s.index ≡ index) × (b ≡ Some a)
    by true is e = (r, refl, (Decides-eqb r.index index).0 is, e)
    by false is e = absurd cc

-- a reference with the index is at the place
at_place : (index : ℕ) (rs : List Reference) (answers : List Answer) (place number : ℕ) (r : Reference) (a : Answer) → AreByIndex rs → IsNarrowed rs index place place
    → slice_get rs number ≡ Some r → r.index ≡ index → slice_get answers number ≡ Some a → answer_there index (slice_get rs place) (slice_get answers place) ≡ Some a
at_place index [] answers place number r a rises is at same answered = absurd cc
at_place index (x ∷ rs) [] place number r a rises is at same answered = absurd cc
at_place index (x ∷ rs) (y ∷ answers) zero zero r a rises is at same answered =
    cond-true (x.index == index) (Some y) None (eq-eqb x.index index (ap (λ (s : Reference). s.index) (some_is at) ∙ same)) ∙ answered
at_place index (x ∷ rs) (y ∷ answers) zero (suc number) r a rises is at same answered =
    absurd (omega (arith, ltb-false x.index index is.above, least_first x rs number r rises at, same))
at_place index (x ∷ rs) (y ∷ answers) (suc place) zero r a rises is at same answered =
    absurd (omega (arith, first_below index x rs place rises (is.below place (omega arith)), ap (λ (s : Reference). s.index) (some_is at), same))
at_place index (x ∷ rs) (y ∷ answers) (suc place) (suc number) r a rises is at same answered =
    at_place index rs answers place number r a (later x rs rises) (record {
      ordered = omega arith;
      below = λ n e. is.below (suc n) (omega (arith, e));
      above = is.above;
    }) at same answered

pub found_by_index : (index : ℕ) (rs : List Reference) (answers : List Answer) (place : ℕ) → AreByIndex rs → IsNarrowed rs index place place → (a : Answer)
    → (answer_there index (slice_get rs place) (slice_get answers place) ≡ Some a) ↔ ((r : Reference) × (r.index ≡ index) × HasAnswer rs answers r a)
found_by_index index rs answers place rises is a = (
  (λ e. let it = there index (slice_get rs place) (slice_get answers place) a e in (it.0, it.2, (place, it.1, it.3))),
  (λ it. at_place index rs answers place it.2.0 it.0 a rises is it.2.1 it.1 it.2.2),
)
