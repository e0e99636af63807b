-- The subclasses of classes, as linked lists.
use Rattle.std.proofs.Common.{◌≡◌, ◌<◌, ℕ, zero, suc, List, [], ◌∷◌, ◌++◌, length, replicate, Option, Some, None, refl, sym, ap, subst, ◌∙◌, ◌⊎◌, inl, inr, ⊎_elim, arith}
use Rattle.std.specs.Prelude.{slice_get, slice_index_or, slice_set}
use Rattle.std.specs.List.{All}
use Rattle.std.specs.Option.{option_to_list}
use Rattle.std.proofs.lemmas.List.Elements.{All-append, All-cons, All-nil}
use Rattle.jc_numbered.specs.inside.Subclasses.{AreBelow}

some_is : {X : Type 0} {a b : X} → Some a ≡ Some b → a ≡ b
some_is e = cc

pub no_some : {X A : Type 0} {a : X} → None ≡ Some a → A
no_some e = absurd cc

get_set : {X : Type 0} (xs : List X) (i : ℕ) (x : X) (j : ℕ) {y : X} → slice_get (slice_set xs i x) j ≡ Some y → (slice_get xs j ≡ Some y) ⊎ (x ≡ y)
get_set [] i x j e = no_some e
get_set (z ∷ xs) zero x zero e = inr (some_is e)
get_set (z ∷ xs) zero x (suc j) e = inl e
get_set (z ∷ xs) (suc i) x zero e = inl e
get_set (z ∷ xs) (suc i) x (suc j) e = get_set xs i x j e

pub set_below : (count : ℕ) (xs : List (Option ℕ)) (i : ℕ) (o : Option ℕ) → AreBelow count xs → ((v : ℕ) → o ≡ Some v → v < count) → AreBelow count (slice_set xs i o)
set_below count xs i o are is j v e = ⊎_elim (λ h. are j v h) (λ h. is v h) (get_set xs i o j e)

pub own_below : (count node : ℕ) → node < count → (v : ℕ) → Some node ≡ Some v → v < count
own_below count node l v e = subst (λ z. z < count) (some_is e) l

-- what the list has at a place
pub place_below : (count : ℕ) (xs : List (Option ℕ)) (i : ℕ) (o : Option ℕ) → AreBelow count xs → i < length xs → o ≡ slice_index_or xs i o
    → (v : ℕ) → o ≡ Some v → v < count
place_below count xs i o are l e v h = are i v (at xs i l (sym e ∙ h))
  where
    at : (xs : List (Option ℕ)) (i : ℕ) → i < length xs → slice_index_or xs i o ≡ Some v → slice_get xs i ≡ Some (Some v)
    at [] i l e = absurd (omega arith)
    at (x ∷ xs) zero l e = ap Some e
    at (x ∷ xs) (suc i) l e = at xs i (omega arith) e

pub none_below : (count n : ℕ) (xs : List (Option ℕ)) → xs ≡ replicate n None → AreBelow count xs
none_below count n xs e i v h = none n i (sym (ap (λ l. slice_get l i) e) ∙ h)
  where
    none : (n i : ℕ) {A : Type 0} → slice_get (replicate n None) i ≡ Some (Some v) → A
    none zero i h = no_some h
    none (suc n) zero h = absurd cc
    none (suc n) (suc i) h = none n i h

-- a copy of None is None, where no copy of it is another
pub none_copied : (C : Option ℕ → Type 0) → ((w : ℕ) → C (Some w) → ⊥) → (y : Option ℕ) → C y → y ≡ None
none_copied C never None h = refl
none_copied C never (Some w) h = absurd (never w h)

-- one more, if there is one
pub all_some : (count : ℕ) (xs ys : List ℕ) (o : Option ℕ) → ys ≡ xs ++ option_to_list o → All (λ v. v < count) xs → ((v : ℕ) → o ≡ Some v → v < count)
    → All (λ v. v < count) ys
all_some count xs ys o e all is = subst (All (λ v. v < count)) (sym e) (All-append (λ v. v < count) xs (option_to_list o) all (one o is))
  where
    one : (o : Option ℕ) → ((v : ℕ) → o ≡ Some v → v < count) → All (λ v. v < count) (option_to_list o)
    one None is = All-nil (λ v. v < count)
    one (Some v) is = All-cons (λ z. z < count) v [] (is v refl) (All-nil (λ z. z < count))
