-- What a list contains, item by item.
use Rattle.std.proofs.Common.{◌≡◌, ◌⊎◌, inl, inr, zero, suc, List, [], ◌∷◌, ◌++◌, map, refl, ap, sym, subst, arith}
use Rattle.std.specs.List.{Contains, flat_map}

-- the first item is it, or a later one
abbrev pub Has : {X : Type 0} → List X → X → Type 0
Has [] x = ⊥
Has (y ∷ ys) x = (y ≡ x) ⊎ Has ys x

pub has_from : {X : Type 0} (xs : List X) (x : X) → Contains xs x → Has xs x
has_from [] x (k, lt, e) = absurd (omega arith)
has_from (y ∷ ys) x (zero, lt, e) = inl e
has_from (y ∷ ys) x (suc k, lt, e) = inr (has_from ys x (k, omega arith, e))

pub from_has : {X : Type 0} (xs : List X) (x : X) → Has xs x → Contains xs x
from_has [] x h = absurd h
from_has (y ∷ ys) x (inl e) = (0, omega arith, e)
from_has (y ∷ ys) x (inr h) = let c = from_has ys x h in (suc c.0, omega (arith, c.1), c.2)

pub has-left : {X : Type 0} (xs ys : List X) (x : X) → Has xs x → Has (xs ++ ys) x
has-left [] ys x h = absurd h
has-left (y ∷ xs) ys x (inl e) = inl e
has-left (y ∷ xs) ys x (inr h) = inr (has-left xs ys x h)

pub has-right : {X : Type 0} (xs ys : List X) (x : X) → Has ys x → Has (xs ++ ys) x
has-right [] ys x h = h
has-right (y ∷ xs) ys x h = inr (has-right xs ys x h)

pub has-cases : {X : Type 0} (xs ys : List X) (x : X) → Has (xs ++ ys) x → Has xs x ⊎ Has ys x
has-cases [] ys x h = inr h
has-cases (y ∷ xs) ys x (inl e) = inl (inl e)
has-cases (y ∷ xs) ys x (inr h) = elim (has-cases xs ys x h) [ inl l ↦ inl (inr l) | inr r ↦ inr r ]

pub has-map : {X Y : Type 0} (f : X → Y) (xs : List X) (x : X) → Has xs x → Has (map f xs) (f x)
has-map f [] x h = absurd h
has-map f (y ∷ xs) x (inl e) = inl (ap f e)
has-map f (y ∷ xs) x (inr h) = inr (has-map f xs x h)

pub has-from_map : {X Y : Type 0} (f : X → Y) (xs : List X) (y : Y) → Has (map f xs) y → (x : X) × Has xs x × (f x ≡ y)
has-from_map f [] y h = absurd h
has-from_map f (x ∷ xs) y (inl e) = (x, inl refl, e)
has-from_map f (x ∷ xs) y (inr h) = let o = has-from_map f xs y h in (o.0, inr o.1, o.2)

pub has-flat_map : {X Y : Type 0} (f : X → List Y) (xs : List X) (x : X) (y : Y) → Has xs x → Has (f x) y → Has (flat_map f xs) y
has-flat_map f [] x y h k = absurd h
has-flat_map f (z ∷ xs) x y (inl e) k = has-left (f z) (flat_map f xs) y (subst (λ (w : _). Has (f w) y) (sym e) k)
has-flat_map f (z ∷ xs) x y (inr h) k = has-right (f z) (flat_map f xs) y (has-flat_map f xs x y h k)

pub has-from_flat_map : {X Y : Type 0} (f : X → List Y) (xs : List X) (y : Y) → Has (flat_map f xs) y → (x : X) × Has xs x × Has (f x) y
has-from_flat_map f [] y h = absurd h
has-from_flat_map f (x ∷ xs) y h =
    elim (has-cases (f x) (flat_map f xs) y h) [
      | inl here ↦ (x, inl refl, here)
      | inr there ↦ let o = has-from_flat_map f xs y there in (o.0, inr o.1, o.2)
    ]
