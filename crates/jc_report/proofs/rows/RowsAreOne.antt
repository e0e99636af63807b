-- Lists that rise and have the same members are equal.
use Rattle.std.proofs.Common.{◌≡◌, ◌∙◌, inl, inr, List, [], ◌∷◌, refl, ap, sym, subst}
use Rattle.std.specs.declared.cmp.Ordering.{Ordering}
use Rattle.std.specs.declared.cmp.Ordering.TheVariants.{Less}
use Rattle.std.specs.Ordering.{ordering_reverse}
use Rattle.std.specs.Cmp.{IsTotalOrder}
use Rattle.std.specs.List.{AllByRecursion, Contains}
use Rattle.std.specs.List.Sorted.{IsStrictlySortedBy}
use Rattle.jc_base.proofs.Membership.{Has, has_from, from_has}
use Rattle.jc_base.proofs.maps.FiniteMaps.{bytes_cmp_total}
use Rattle.jc_classes.specs.Names.{Name, name_cmp}
use Rattle.jc_classes.specs.NameLists.{Lists}
use Rattle.jc_classes.proofs.numbering.Rising.{contains_of, has_of}
use Rattle.jc_report.specs.Rows.{AreRows, Row, row_cmp}
use Rattle.jc_report.proofs.rows.RowOrder.{row_cmp_total}

module _ {X : Type 0} (cmp : X → X → Ordering) (total : IsTotalOrder cmp) where
  apart : (x y : X) → cmp x y ≡ Less → cmp y x ≡ Less → ⊥
  apart x y p q = let back = total.antisymm x y in let turned = ap ordering_reverse q in cc

  above : (x z : X) (xs : List X) → AllByRecursion (λ y. cmp x y ≡ Less) xs → Has xs z → cmp x z ≡ Less
  above x z [] all h = absurd h
  above x z (y ∷ xs) all (inl e) = subst (λ (w : X). cmp x w ≡ Less) e all.0
  above x z (y ∷ xs) all (inr h) = above x z xs all.1 h

  same_first : (x y : X) (xs ys : List X) → AllByRecursion (λ z. cmp x z ≡ Less) xs → AllByRecursion (λ z. cmp y z ≡ Less) ys → Has (y ∷ ys) x → Has (x ∷ xs) y → x ≡ y
  same_first x y xs ys below_xs below_ys (inl e) h = sym e
  same_first x y xs ys below_xs below_ys (inr k) (inl e) = e
  same_first x y xs ys below_xs below_ys (inr k) (inr h) = absurd (apart x y (above x y xs below_xs h) (above y x ys below_ys k))

  in_rest : (x y z : X) (xs ys : List X) → x ≡ y → AllByRecursion (λ w. cmp x w ≡ Less) xs → Has xs z → Has (y ∷ ys) z → Has ys z
  in_rest x y z xs ys same all h (inr k) = k
  in_rest x y z xs ys same all h (inl e) =
      let less : cmp x z ≡ Less = above x z xs all h in
      let tied : cmp x x ≡ Less = subst (λ (w : X). cmp x w ≡ Less) (sym (same ∙ e)) less in
      absurd (apart x x tied tied)

  rising_one : (xs ys : List X) → IsStrictlySortedBy cmp xs → IsStrictlySortedBy cmp ys → ((z : X) → Has xs z → Has ys z) → ((z : X) → Has ys z → Has xs z) → xs ≡ ys
  unfolding IsStrictlySortedBy
  rising_one [] [] p q there back = refl
  rising_one [] (y ∷ ys) p q there back = absurd (back y (inl refl))
  rising_one (x ∷ xs) [] p q there back = absurd (there x (inl refl))
  rising_one (x ∷ xs) (y ∷ ys) p q there back =
      let same : x ≡ y = same_first x y xs ys p.0 q.0 (there x (inl refl)) (back y (inl refl)) in
      let rest : xs ≡ ys = rising_one xs ys p.1 q.1
      (λ z h. in_rest x y z xs ys same p.0 h (there z (inr h)))
      (λ z h. in_rest y x z ys xs (sym same) q.0 h (back z (inr h))) in
      λ i. same i ∷ rest i

  -- by a total order
  pub sorted_lists_one : (xs ys : List X) → IsStrictlySortedBy cmp xs → IsStrictlySortedBy cmp ys → ((z : X) → Contains xs z → Contains ys z) → ((z : X) → Contains ys z → Contains xs z) → xs ≡ ys
  sorted_lists_one xs ys p q there back = rising_one xs ys p q
      (λ z h. has_from ys z (there z (from_has xs z h)))
      (λ z h. has_from xs z (back z (from_has ys z h)))

-- names
pub sorted_names_one : (xs ys : List Name) → IsStrictlySortedBy name_cmp xs → IsStrictlySortedBy name_cmp ys → ((n : Name) → Contains xs n → Contains ys n) → ((n : Name) → Contains ys n → Contains xs n) → xs ≡ ys
sorted_names_one = sorted_lists_one name_cmp bytes_cmp_total

-- lists of one predicate
pub lists_one : (P : Name → Type 0) (a b : List Name) → Lists a P → Lists b P → a ≡ b
lists_one P a b p q = sorted_names_one a b p.rises q.rises
    (λ n h. contains_of b n (q.complete n (p.sound n (has_of a n h))))
    (λ n h. contains_of a n (p.complete n (q.sound n (has_of b n h))))

-- rows of one predicate
pub are_rows_one : (P : Row → Type 0) (a b : List Row) → AreRows a P → AreRows b P → a ≡ b
are_rows_one P a b p q = sorted_lists_one row_cmp row_cmp_total a b p.rises q.rises
    (λ z h. q.complete z (p.sound z h))
    (λ z h. p.complete z (q.sound z h))

-- rows of predicates that agree
pub are_rows_alike : (P Q : Row → Type 0) (a b : List Row) → ((r : Row) → P r → Q r) → ((r : Row) → Q r → P r) → AreRows a P → AreRows b Q → a ≡ b
are_rows_alike P Q a b there back p q = sorted_lists_one row_cmp row_cmp_total a b p.rises q.rises
    (λ z h. q.complete z (there z (p.sound z h)))
    (λ z h. p.complete z (back z (q.sound z h)))
