-- Lists that are sorted in turn.
use Rattle.std.proofs.Common.{◌≡◌, ◌∙◌, ℕ, ◌<◌, ◌≤◌, ◌+◌, zero, suc, List, [], ◌∷◌, length, refl, sym, subst, arith}
use Rattle.std.specs.List.Sorted.{IsStrictlySortedBy}
use Rattle.std.specs.Prelude.{slice_set}
use Rattle.std.specs.declared.alloc.Global.{Global}
use Rattle.std.specs.declared.vec.Vec.{Vec}
use Rattle.jc_graph.specs.Graph.{successors_of}
use Rattle.jc_resolve.specs.inside.Unimplemented.{IsInOrder}
use Rattle.jc_resolve.proofs.lookups.AbstractLemmas.{set_other, set_same}

pub beyond : (g : List (Vec ℕ Global)) (n : ℕ) → length g ≤ n → successors_of g n ≡ []
beyond [] n l = refl
beyond (a ∷ g) zero l = absurd (omega (arith, l))
beyond (a ∷ g) (suc n) l = beyond g n (omega (arith, l))

nothing_in_order : IsInOrder [] []
unfolding IsStrictlySortedBy
nothing_in_order = record { rises = tt; kept = λ i h. h; sound = λ i h. h }

module _ (first cur : List (Vec ℕ Global)) (p : ℕ) (done : (n : ℕ) → n < p → IsInOrder (successors_of first n) (successors_of cur n))
    (left : (n : ℕ) → p ≤ n → successors_of cur n ≡ successors_of first n) where
  module _ (w : Vec ℕ Global) (l : p < length cur) (is : IsInOrder (successors_of cur p) w.items) where
    pub done_on : (n : ℕ) → n < p + 1 → (n < p → ⊥) → IsInOrder (successors_of first n) (successors_of (slice_set cur p w) n)
    done_on n m o =
        let same : n ≡ p = omega (arith, m, o) in
        subst (λ z. IsInOrder (successors_of first z) (successors_of (slice_set cur p w) z)) (sym same)
        (subst (IsInOrder (successors_of first p)) (sym (set_same cur p w l)) (subst (λ z. IsInOrder z w.items) (left p (omega arith)) is))

    pub done_before : (n : ℕ) → n < p → IsInOrder (successors_of first n) (successors_of (slice_set cur p w) n)
    done_before n m = subst (IsInOrder (successors_of first n)) (sym (set_other cur p n w (λ e. omega (arith, m, e)))) (done n m)

    pub left_on : (n : ℕ) → p + 1 ≤ n → successors_of (slice_set cur p w) n ≡ successors_of first n
    left_on n m = set_other cur p n w (λ e. omega (arith, m, e)) ∙ left n (omega (arith, m))

  pub all_done : length first ≤ p → (n : ℕ) → (n < p → ⊥) → IsInOrder (successors_of first n) (successors_of cur n)
  all_done l n o =
      let none = beyond first n (omega (arith, l, o)) in
      subst (IsInOrder (successors_of first n)) (sym (left n (omega (arith, o)))) (subst (λ z. IsInOrder z z) (sym none) nothing_in_order)
