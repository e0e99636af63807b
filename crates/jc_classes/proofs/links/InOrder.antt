-- Lists in strict order: joined, picked from others, and by numbers that rise.
use Rattle.std.proofs.Common.{◌≡◌, ◌∙◌, ◌⊎◌, inl, inr, ℕ, zero, suc, ◌+◌, ◌<◌, ◌≤◌, List, [], ◌∷◌, ◌++◌, Option, Some, None, refl, sym, ap, subst, arith}
use Rattle.std.specs.Prelude.{◌==◌, false, length, option_map}
use Rattle.std.proofs.lemmas.Bool.{ne_eqb}
use Rattle.std.specs.List.{AllByRecursion, flat_map, range_with_len, slice_get}
use Rattle.std.specs.List.Sorted.{IsStrictlySortedBy}
use Rattle.std.specs.Option.{option_to_list}
use Rattle.std.specs.Ordering.{nat_cmp, ordering_then}
use Rattle.std.specs.Cmp.{nat_cmp_is}
use Rattle.std.specs.declared.cmp.Ordering.{Ordering}
use Rattle.std.specs.declared.cmp.Ordering.TheVariants.{Less, Equal}
use Rattle.jc_base.proofs.Membership.{Has, has-cases, has-flat_map, has-from_flat_map}
use Rattle.jc_view.proofs.places.RisingLists.{RisesBy, rises_lower, rises_higher}

pub some_is : {X : Type 0} {x y : X} → Some x ≡ Some y → x ≡ y
some_is e = cc

pub map_some : {A B : Type 0} (f : A → B) (o : Option A) (y : B) → option_map f o ≡ Some y → (x : A) × (o ≡ Some x) × (f x ≡ y)
map_some f None y e = absurd cc
map_some f (Some x) y e = (x, refl, some_is e)

pub not_empty : {X : Type 0} (x : X) (xs : List X) → length (x ∷ xs) == 0 ≡ false
not_empty x xs = ne_eqb (length (x ∷ xs)) 0 (λ e. omega (arith, e))

-- ---- what a list has

all_has : {X : Type 0} (P : X → Type 0) (xs : List X) → ((x : X) → Has xs x → P x) → AllByRecursion P xs
all_has P [] h = tt
all_has P (x ∷ xs) h = (h x (inl refl), all_has P xs (λ y there. h y (inr there)))

all_is : {X : Type 0} (P : X → Type 0) (xs : List X) → AllByRecursion P xs → (x : X) → Has xs x → P x
all_is P [] a x h = absurd h
all_is P (y ∷ ys) a x (inl e) = subst P e a.0
all_is P (y ∷ ys) a x (inr h) = all_is P ys a.1 x h

in_option : {Y : Type 0} (o : Option Y) (y : Y) → Has (option_to_list o) y → o ≡ Some y
in_option None y h = absurd h
in_option (Some x) y (inl e) = ap Some e
in_option (Some x) y (inr h) = absurd h

module _ {X Y : Type 0} (g : X → Option Y) where
  pub has_picked : (xs : List X) (y : Y) → Has (flat_map (λ x. option_to_list (g x)) xs) y → (x : X) × Has xs x × (g x ≡ Some y)
  has_picked xs y h =
      let o = has-from_flat_map (λ x. option_to_list (g x)) xs y h in
      (o.0, o.1, in_option (g o.0) y o.2)

  pub picked_has : (xs : List X) (x : X) (y : Y) → Has xs x → g x ≡ Some y → Has (flat_map (λ x. option_to_list (g x)) xs) y
  picked_has xs x y h e = has-flat_map (λ x. option_to_list (g x)) xs x y h (subst (λ o. Has (option_to_list o) y) (sym e) (inl refl))

-- ---- in order

module _ {X : Type 0} (c : X → X → Ordering) where
  pub sorted-append : (xs ys : List X) → IsStrictlySortedBy c xs → IsStrictlySortedBy c ys → ((x y : X) → Has xs x → Has ys y → c x y ≡ Less) → IsStrictlySortedBy c (xs ++ ys)
  unfolding IsStrictlySortedBy
  sorted-append [] ys h k apart = k
  sorted-append (x ∷ xs) ys h k apart =
      (all_has (λ y. c x y ≡ Less) (xs ++ ys) (λ y there. by y (has-cases xs ys y there)), sorted-append xs ys h.1 k (λ a b l r. apart a b (inr l) r))
    where
      by : (y : X) → Has xs y ⊎ Has ys y → c x y ≡ Less
      by y (inl l) = all_is (λ z. c x z ≡ Less) xs h.0 y l
      by y (inr r) = apart x y (inl refl) r

  sorted_option : (o : Option X) → IsStrictlySortedBy c (option_to_list o)
  unfolding IsStrictlySortedBy
  sorted_option None = tt
  sorted_option (Some x) = (tt, tt)

pub sorted-picked : {X Y : Type 0} (c : X → X → Ordering) (e : Y → Y → Ordering) (g : X → Option Y) → ((a b : X) (y z : Y) → g a ≡ Some y → g b ≡ Some z → c a b ≡ Less → e y z ≡ Less)
    → (xs : List X) → IsStrictlySortedBy c xs → IsStrictlySortedBy e (flat_map (λ x. option_to_list (g x)) xs)
unfolding IsStrictlySortedBy
sorted-picked c e g keeps [] h = tt
sorted-picked c e g keeps (x ∷ xs) h =
    sorted-append e (option_to_list (g x)) (flat_map (λ x. option_to_list (g x)) xs) (sorted_option e (g x)) (sorted-picked c e g keeps xs h.1)
    (λ y z l r. let q = has_picked g xs z r in keeps x q.0 y z (in_option (g x) y l) q.2 (all_is (λ b. c x b ≡ Less) xs h.0 q.0 q.1))

-- ---- by numbers

pub less : (a b : ℕ) → a < b → nat_cmp a b ≡ Less
less a b h = sym (nat_cmp_is a b Less h)

-- by two numbers, the same first ones and then the later ones
pub then_less : (a b c d : ℕ) → a ≡ b → nat_cmp c d ≡ Less → ordering_then (nat_cmp a b) (nat_cmp c d) ≡ Less
then_less a b c d same e = ap (λ o. ordering_then o (nat_cmp c d)) (sym (nat_cmp_is a b Equal same)) ∙ e

pub first_less : (a b c d : ℕ) → a < b → ordering_then (nat_cmp a b) (nat_cmp c d) ≡ Less
first_less a b c d lt = ap (λ o. ordering_then o (nat_cmp c d)) (less a b lt)

-- the same numbers are in the same order
pub same_order : {a b c d x y z w : ℕ} → a ≡ x → b ≡ y → c ≡ z → d ≡ w → ordering_then (nat_cmp a b) (nat_cmp c d) ≡ ordering_then (nat_cmp x y) (nat_cmp z w)
same_order e f g h i = ordering_then (nat_cmp (e i) (f i)) (nat_cmp (g i) (h i))

module _ {X : Type 0} (number : X → ℕ) where
  above : (x : X) (lo hi : ℕ) (xs : List X) → number x < lo → RisesBy number lo hi xs → AllByRecursion (λ y. nat_cmp (number x) (number y) ≡ Less) xs
  above x lo hi [] lt h = tt
  above x lo hi (y ∷ ys) lt h = (less (number x) (number y) (omega (arith, lt, h.0)), above x (number y + 1) hi ys (omega (arith, lt, h.0)) h.1)

  pub sorted_rises : (lo hi : ℕ) (xs : List X) → RisesBy number lo hi xs → IsStrictlySortedBy (λ x y. nat_cmp (number x) (number y)) xs
  unfolding IsStrictlySortedBy
  sorted_rises lo hi [] h = tt
  sorted_rises lo hi (x ∷ xs) h = (above x (number x + 1) hi xs (omega arith) h.1, sorted_rises (number x + 1) hi xs h.1)

  pub risen : (lo hi : ℕ) (xs : List X) (n : ℕ) (x : X) → RisesBy number lo hi xs → slice_get xs n ≡ Some x → lo ≤ number x
  risen lo hi [] n x h e = absurd cc
  risen lo hi (y ∷ ys) zero x h e = subst (λ z. lo ≤ number z) (some_is e) h.0
  risen lo hi (y ∷ ys) (suc n) x h e = let le = risen (number y + 1) hi ys n x h.1 e in omega (arith, h.0, le)

  -- those that are there at numbers of a range rise
  pub rises-picked : (g : ℕ → Option X) → ((k : ℕ) (x : X) → g k ≡ Some x → number x ≡ k) → (lo n : ℕ) → RisesBy number lo (lo + n) (flat_map (λ k. option_to_list (g k)) (range_with_len lo n))
  rises-picked g tells lo zero = omega arith
  rises-picked g tells lo (suc n) = by (rises-picked g tells (lo + 1) n) (g lo) refl
    where
      rest : List X
      rest = flat_map (λ k. option_to_list (g k)) (range_with_len (lo + 1) n)

      by : RisesBy number (lo + 1) (lo + 1 + n) rest → (o : Option X) → g lo ≡ o → RisesBy number lo (lo + suc n) (option_to_list o ++ rest)
      by up None e = rises_lower number lo (lo + 1) (lo + suc n) rest (omega arith) (rises_higher number (lo + 1) (lo + 1 + n) (lo + suc n) rest (omega arith) up)
      by up (Some x) e =
          let is = tells lo x e in
          let behind = rises_higher number (lo + 1) (lo + 1 + n) (lo + suc n) rest (omega arith) up in
          (omega (arith, is), rises_lower number (number x + 1) (lo + 1) (lo + suc n) rest (omega (arith, is)) behind)
