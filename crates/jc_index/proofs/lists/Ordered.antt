-- What is sorted by the names that spell it, each once.
use Rattle.std.proofs.Common.{◌≡◌, Bool, true, false, ◌||◌, List, [], ◌∷◌, map, refl, sym, ap, subst, ◌∙◌, ⊎_elim}
use Rattle.std.proofs.lemmas.Bool.{cases_Bool, cond-true, cond-false, false≢true}
use Rattle.std.proofs.lemmas.List.Filters.{dedup_is}
use Rattle.std.proofs.lemmas.List.Kept.{IsStrictlySortedBy-dedup}
use Rattle.std.proofs.lemmas.List.Sorted.{IsPermutation-map, list_any-IsPermutation}
use Rattle.std.specs.declared.cmp.Ordering.TheVariants.{Less}
use Rattle.std.specs.List.{AllByRecursion, dedup, dedup_from, list_any}
use Rattle.std.specs.List.Retain.{IsFiltered, DiffersFromLast}
use Rattle.std.specs.List.Sorted.{IsSorted, IsStrictlySortedBy, IsPermutation}
use Rattle.std.specs.Cmp.{on_total}
use Rattle.std.specs.Ordering.{eq_by_cmp}
use Rattle.jc_base.proofs.maps.FiniteMaps.{bytes_cmp_total}
use Rattle.jc_classes.specs.NameLists.{has}
use Rattle.jc_classes.specs.Names.{Name, name_cmp, same_name}

or_twice : (a b c : Bool) → a ≡ b → (a || c) ≡ (a || (b || c))
or_twice true b c e = refl
or_twice false true c e = absurd (false≢true e)
or_twice false false c e = refl

-- what a test finds that cannot tell the same elements apart
any_deduped_from : {X : Type 0} (same : X → X → Bool) (p : X → Bool) → ((a b : X) → same a b ≡ true → p a ≡ p b) → (x : X) (xs : List X) → list_any p (dedup_from same x xs) ≡ (p x || list_any p xs)
any_deduped_from same p h x [] = refl
any_deduped_from same p h x (y ∷ xs) = ⊎_elim
    (λ t. ap (list_any p) (cond-true (same y x) (dedup_from same x xs) (x ∷ dedup_from same y xs) t) ∙ any_deduped_from same p h x xs ∙ or_twice (p x) (p y) (list_any p xs) (sym (h y x t)))
    (λ f. ap (list_any p) (cond-false (same y x) (dedup_from same x xs) (x ∷ dedup_from same y xs) f) ∙ ap (λ b. p x || b) (any_deduped_from same p h y xs))
    (cases_Bool (same y x))

any_deduped : {X : Type 0} (same : X → X → Bool) (p : X → Bool) → ((a b : X) → same a b ≡ true → p a ≡ p b) → (xs : List X) → list_any p (dedup same xs) ≡ list_any p xs
any_deduped same p h [] = refl
any_deduped same p h (x ∷ xs) = any_deduped_from same p h x xs

module _ {K : Type 0} (spell : K → Name) where
  all_named : (x : K) (xs : List K) → AllByRecursion (λ y. name_cmp (spell x) (spell y) ≡ Less) xs → AllByRecursion (λ n. name_cmp (spell x) n ≡ Less) (map spell xs)
  all_named x [] h = tt
  all_named x (y ∷ xs) h = (h.0, all_named x xs h.1)

  named_rise : (xs : List K) → IsStrictlySortedBy (λ x y. name_cmp (spell x) (spell y)) xs → IsStrictlySortedBy name_cmp (map spell xs)
  unfolding IsStrictlySortedBy
  named_rise [] h = tt
  named_rise (x ∷ xs) h = (all_named x xs h.0, named_rise xs h.1)

  any_named : (n : Name) (xs : List K) → has (map spell xs) n ≡ list_any (λ x. same_name n (spell x)) xs
  any_named n [] = refl
  any_named n (x ∷ xs) = ap (λ b. same_name n (spell x) || b) (any_named n xs)

  -- the names of a list in another order
  has_permuted : (xs ys : List K) (n : Name) → IsPermutation xs ys → has (map spell ys) n ≡ has (map spell xs) n
  has_permuted xs ys n h = sym (list_any-IsPermutation (same_name n) (map spell xs) (map spell ys) (IsPermutation-map spell xs ys h))

  -- ---- a sort, and then each name once

  module _ (same : K → K → Bool) where
    deduped_has : ((a b : K) → same a b ≡ true → spell a ≡ spell b) → (xs : List K) (n : Name) → has (map spell (dedup same xs)) n ≡ has (map spell xs) n
    deduped_has is xs n =
        any_named n (dedup same xs)
        ∙ any_deduped same (λ x. same_name n (spell x)) (λ a b e. ap (same_name n) (is a b e)) xs
        ∙ sym (any_named n xs)

    pub ordered_has : ((a b : K) → same a b ≡ true → spell a ≡ spell b) → (old sorted new : List K) → IsPermutation old sorted → IsFiltered (DiffersFromLast same) [] sorted new
        → (n : Name) → has (map spell new) n ≡ has (map spell old) n
    ordered_has is old sorted new p f n = ap (λ l. has (map spell l) n) (dedup_is _ sorted new f) ∙ deduped_has is sorted n ∙ has_permuted old sorted n p

    pub ordered_rises : ((a b : K) → same a b ≡ eq_by_cmp (λ x y. name_cmp (spell x) (spell y)) a b) → (sorted new : List K) → IsSorted (λ a b. name_cmp (spell a) (spell b)) sorted
        → IsFiltered (DiffersFromLast same) [] sorted new → IsStrictlySortedBy name_cmp (map spell new)
    ordered_rises ties sorted new s f =
        named_rise new (subst (IsStrictlySortedBy (λ a b. name_cmp (spell a) (spell b))) (sym (dedup_is _ sorted new f))
        (IsStrictlySortedBy-dedup (on_total spell bytes_cmp_total) ties sorted s))
