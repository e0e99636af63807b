-- Small facts that the proofs of several crates want.
use Rattle.std.proofs.Common.{◌≡◌, ℕ, Bool, true, false, cond, ◌&&◌, T, List, [], ◌∷◌, map, Option, ◌||◌, refl}
use Rattle.std.specs.declared.cmp.Ordering.{Ordering}
use Rattle.std.specs.declared.cmp.Ordering.TheVariants.{Less, Equal, Greater}
use Rattle.std.specs.Option.{unwrap_or}
use Rattle.std.specs.Ordering.{is_lt}

-- the bytes that a reader left, or none where it failed
abbrev pub left_of : Option (List ℕ) → List ℕ
left_of o = unwrap_or o []

-- pairs of the same parts are the same
pub same_pair : {A B : Type 0} {a x : A} {b y : B} → a ≡ x → b ≡ y → ◌≡◌ {A = A × B} (a, b) (x, y)
same_pair e f = cc

-- an item that stands there where b holds
pub map_if : {A B : Type 0} (f : A → B) (b : Bool) (x : A) → map f (cond b (x ∷ []) []) ≡ cond b (f x ∷ []) []
map_if f true x = refl
map_if f false x = refl

pub both_hold : (a b : Bool) → T a → T b → T (a && b)
both_hold true b h g = g
both_hold false b h g = absurd h

pub first_holds : (a b : Bool) → T (a && b) → T a
first_holds true b h = tt
first_holds false b h = absurd h

pub second_holds : (a b : Bool) → T (a && b) → T b
second_holds true b h = h
second_holds false b h = absurd h

pub less_is : (r : Ordering) → T (is_lt r) → r ≡ Less
less_is Less h = refl
less_is Equal h = absurd h
less_is Greater h = absurd h

pub both_true : (a b : Bool) → a && b ≡ true → (a ≡ true) × (b ≡ true)
both_true true b e = (refl, e)
both_true false b e = absurd cc

pub or_true : (b : Bool) → b || true ≡ true
or_true true = refl
or_true false = refl
