-- What marks at the nodes of a list leave at a node.
use Rattle.std.proofs.Common.{◌≡◌, ℕ, ◌<◌, zero, suc, List, [], ◌∷◌, length, get_or, set, refl, sym, subst, ◌∙◌, arith, ◌⊎◌, inl, inr, ⊎_elim, length-set, get_or-set_same, get_or-set_other}
use Rattle.std.specs.List.{Contains}
use Rattle.jc_graph.specs.inside.Marks.{set_all}

pub same_or_not : (a b : ℕ) → (a ≡ b) ⊎ (a ≡ b → ⊥)
same_or_not a b = grind arith

pub contains_later : (u : ℕ) (vs : List ℕ) (v : ℕ) → Contains vs v → Contains (u ∷ vs) v
contains_later u vs v c = (suc c.0, omega (arith, c.1), c.2)

pub contains_cases : (u : ℕ) (vs : List ℕ) (v : ℕ) → Contains (u ∷ vs) v → (u ≡ v) ⊎ Contains vs v
contains_cases u vs v (zero, l, e) = inl e
contains_cases u vs v (suc k, l, e) = inr (k, omega arith, e)

module _ {X : Type 0} where
  pub length-set_all : (xs : List X) (vs : List ℕ) (x : X) → length (set_all xs vs x) ≡ length xs
  length-set_all xs [] x = refl
  length-set_all xs (u ∷ vs) x = length-set_all (set xs u x) vs x ∙ length-set xs u x

  set_all_keeps : (xs : List X) (vs : List ℕ) (x : X) (v : ℕ) (d : X) → v < length xs → get_or xs v d ≡ x → get_or (set_all xs vs x) v d ≡ x
  set_all_keeps xs [] x v d l e = e
  set_all_keeps xs (u ∷ vs) x v d l e = set_all_keeps (set xs u x) vs x v d (omega (arith, length-set xs u x)) (⊎_elim
      (λ (o : v ≡ u). subst (λ k. get_or (set xs k x) v d ≡ x) o (get_or-set_same xs v x d l))
      (λ n. get_or-set_other xs u v x d n ∙ e)
      (same_or_not v u))

  pub set_all_in : (xs : List X) (vs : List ℕ) (x : X) (v : ℕ) (d : X) → v < length xs → Contains vs v → get_or (set_all xs vs x) v d ≡ x
  set_all_in xs [] x v d l c = absurd (omega (arith, c.1))
  set_all_in xs (u ∷ vs) x v d l c = ⊎_elim
      (λ (o : u ≡ v). set_all_keeps (set xs u x) vs x v d (omega (arith, length-set xs u x)) (subst (λ k. get_or (set xs k x) v d ≡ x) (sym o) (get_or-set_same xs v x d l)))
      (λ b. set_all_in (set xs u x) vs x v d (omega (arith, length-set xs u x)) b)
      (contains_cases u vs v c)

  pub set_all_out : (xs : List X) (vs : List ℕ) (x : X) (v : ℕ) (d : X) → (Contains vs v → ⊥) → get_or (set_all xs vs x) v d ≡ get_or xs v d
  set_all_out xs [] x v d n = refl
  set_all_out xs (u ∷ vs) x v d n = set_all_out (set xs u x) vs x v d (λ c. n (contains_later u vs v c)) ∙ get_or-set_other xs u v x d (λ e. n (zero, omega arith, sym e))
