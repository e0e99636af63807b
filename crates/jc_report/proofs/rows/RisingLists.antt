-- Lists that rise, one behind another.
use Rattle.std.proofs.Common.{◌≡◌, List, [], ◌∷◌, ◌++◌, inl, inr, refl, subst}
use Rattle.std.specs.declared.cmp.Ordering.{Ordering}
use Rattle.std.specs.declared.cmp.Ordering.TheVariants.{Less}
use Rattle.std.specs.List.{AllByRecursion}
use Rattle.std.specs.List.Sorted.{IsStrictlySortedBy}
use Rattle.jc_base.proofs.Membership.{Has}

pub all_by : {X : Type 0} (P : X → Type 0) (xs : List X) → ((x : X) → Has xs x → P x) → AllByRecursion P xs
all_by P [] h = tt
all_by P (x ∷ xs) h = (h x (inl refl), all_by P xs (λ y there. h y (inr there)))

pub by_all : {X : Type 0} (P : X → Type 0) (xs : List X) → AllByRecursion P xs → (x : X) → Has xs x → P x
by_all P [] all x h = absurd h
by_all P (y ∷ xs) all x (inl e) = subst P e all.0
by_all P (y ∷ xs) all x (inr h) = by_all P xs all.1 x h

module _ {X : Type 0} (cmp : X → X → Ordering) where
  -- the first is below all of the second
  pub rises_append : (xs ys : List X) → IsStrictlySortedBy cmp xs → IsStrictlySortedBy cmp ys → ((x y : X) → Has xs x → Has ys y → cmp x y ≡ Less) → IsStrictlySortedBy cmp (xs ++ ys)
  unfolding IsStrictlySortedBy
  rises_append [] ys p q less = q
  rises_append (x ∷ xs) ys p q less = (
    all_append x xs ys p.0 (λ y h. less x y (inl refl) h),
    rises_append xs ys p.1 q (λ z y h k. less z y (inr h) k),
  )
    where
      all_append : (x : X) (xs ys : List X) → AllByRecursion (λ y. cmp x y ≡ Less) xs → ((y : X) → Has ys y → cmp x y ≡ Less) → AllByRecursion (λ y. cmp x y ≡ Less) (xs ++ ys)
      all_append x [] ys p below = all_by (λ y. cmp x y ≡ Less) ys below
      all_append x (z ∷ xs) ys p below = (p.0, all_append x xs ys p.1 below)
