-- The reference of an index, where references are in ascending order of index.
use Rattle.std.proofs.Common.{◌≡◌, ◌<◌, ◌==◌, ℕ, true, false, cond, List, [], ◌∷◌, map, Option, Some, None, sym, arith}
use Rattle.std.specs.Prelude.{nat_lt, option_and_then}
use Rattle.std.specs.List.{AllByRecursion, slice_get}
use Rattle.std.specs.List.Sorted.{IsStrictlySortedBy}
use Rattle.std.specs.Ordering.{nat_cmp}
use Rattle.std.specs.declared.cmp.Ordering.{Ordering}
use Rattle.std.specs.declared.cmp.Ordering.TheVariants.{Less}
use Rattle.std.proofs.lemmas.Bool.{lt-ltb, ltb-true, ne_eqb}
use Rattle.std.proofs.lemmas.Bool.Decides.{Decides-eqb}
use Rattle.std.proofs.lemmas.Cmp.{ranked}
use Rattle.jc_classes.specs.Facts.{Reference}
use Rattle.jc_classes.specs.FactsOrder.{AreByIndex}
use Rattle.jc_report.specs.ErrorsText.{reference_at}
use Rattle.jc_report.specs.inside.ReferencePlaces.{IsNarrowed}
use Rattle.jc_report.proofs.rows.FoundInOrder.{found_there}

abbrev index_cmp : Reference → Reference → Ordering
index_cmp r s = nat_cmp r.index s.index

all_mapped : (r : Reference) (rs : List Reference) → AllByRecursion (λ k. nat_cmp r.index k ≡ Less) (map (λ (s : Reference). s.index) rs) → AllByRecursion (λ s. index_cmp r s ≡ Less) rs
all_mapped r [] all = tt
all_mapped r (s ∷ rs) all = (all.0, all_mapped r rs all.1)

sorted_mapped : (rs : List Reference) → AreByIndex rs → IsStrictlySortedBy index_cmp rs
unfolding IsStrictlySortedBy
sorted_mapped [] rises = tt
sorted_mapped (r ∷ rs) rises = (all_mapped r rs rises.0, sorted_mapped rs rises.1)

abbrev pub if_index : ℕ → Reference → Option Reference
if_index index r = cond (r.index == index) (Some r) None

apart : (index : ℕ) (r : Reference) → nat_lt r.index index ≡ true → (r.index == index) ≡ false
apart index r e = ne_eqb r.index index (λ same. omega (arith, ltb-true r.index index e, same))

front_below : (index : ℕ) (r s : Reference) → index_cmp r s ≡ Less → nat_lt s.index index ≡ true → nat_lt r.index index ≡ true
front_below index r s less e = lt-ltb r.index index (omega (arith, ranked r.index s.index Less (sym less), ltb-true s.index index e))

front_is : (index : ℕ) (r s : Reference) → index_cmp r s ≡ Less → (s.index == index) ≡ true → nat_lt r.index index ≡ true
front_is index r s less e =
    let before : r.index < s.index = ranked r.index s.index Less (sym less) in
    let same : s.index ≡ index = (Decides-eqb s.index index).0 e in
    lt-ltb r.index index (omega (arith, before, same))

pub found_reference : (index : ℕ) (rs : List Reference) (place : ℕ) → AreByIndex rs → IsNarrowed rs index place place → option_and_then (if_index index) (slice_get rs place) ≡ reference_at rs index
found_reference index rs place rises is =
    found_there index_cmp (λ (r : Reference). nat_lt r.index index) (λ (r : Reference). r.index == index) (apart index) (front_below index) (front_is index) rs place (sorted_mapped rs rises) is.below is.above
