-- Flags and the list of those that are set.
use Rattle.std.proofs.Common.{◌≡◌, ℕ, ◌+◌, ◌<◌, length-append, zero, suc, Bool, true, false, List, [], ◌∷◌, ◌++◌, length, set, Some, refl, sym, ap, subst, ◌∙◌, ◌⊎◌, inl, inr, ⊎_elim, arith, length-set}
use Rattle.std.proofs.lemmas.Bool.{false≢true}
use Rattle.std.proofs.lemmas.List.Elements.{Contains-append_left, Contains-append_right, Contains-append_cases, Contains-push, Contains-push_cases, All-push, All-pop, All-contains}
use Rattle.std.specs.List.{Contains}
use Rattle.jc_graph.specs.Seen.{flag_at, node_at, IsListed, IsSeen, unseen, SeesMore}

pub flag_same : (flags : List Bool) (v : ℕ) (b : Bool) → v < length flags → flag_at (set flags v b) v ≡ b
flag_same [] v b l = absurd (omega arith)
flag_same (x ∷ xs) zero b l = refl
flag_same (x ∷ xs) (suc v) b l = flag_same xs v b (omega arith)

pub flag_other : (flags : List Bool) (v u : ℕ) (b : Bool) → (u ≡ v → ⊥) → flag_at (set flags v b) u ≡ flag_at flags u
flag_other [] v u b n = refl
flag_other (x ∷ xs) zero zero b n = absurd (n refl)
flag_other (x ∷ xs) zero (suc u) b n = refl
flag_other (x ∷ xs) (suc v) zero b n = refl
flag_other (x ∷ xs) (suc v) (suc u) b n = flag_other xs v u b (λ e. n (ap suc e))

nat_cases : (u v : ℕ) → (u ≡ v) ⊎ (u ≡ v → ⊥)
nat_cases u v = search arith

-- a flag that is set after one was set was set before, or is that one
pub flag_cases : (flags : List Bool) (v u : ℕ) → flag_at (set flags v true) u ≡ true → (u ≡ v) ⊎ (flag_at flags u ≡ true)
flag_cases flags v u e = ⊎_elim inl (λ n. inr (sym (flag_other flags v u true n) ∙ e)) (nat_cases u v)

-- a flag that was set stays so
pub flag_stays : (flags : List Bool) (v u : ℕ) → flag_at flags u ≡ true → flag_at (set flags v true) u ≡ true
flag_stays [] v u e = e
flag_stays (x ∷ xs) zero zero e = refl
flag_stays (x ∷ xs) zero (suc u) e = e
flag_stays (x ∷ xs) (suc v) zero e = e
flag_stays (x ∷ xs) (suc v) (suc u) e = flag_stays xs v u e

pub seen_add : (flags : List Bool) (list : List ℕ) (v : ℕ) → v < length flags → IsSeen flags list → IsSeen (set flags v true) (list ++ v ∷ [])
seen_add flags list v l s = record {
  all = record {
    nodes = let e = length-set flags v true in All-push (λ w. w < length (set flags v true)) list v (λ k d h. let q = s.all.nodes k d h in omega arith) (omega arith);
    listed = λ u e. ⊎_elim (λ p. subst (λ z. Contains (list ++ v ∷ []) z) (sym p) (Contains-push list v)) (λ p. Contains-append_left list (v ∷ []) u (s.all.listed u p)) (flag_cases flags v u e);
  };
  flagged = λ u c. ⊎_elim (λ p. flag_stays flags v u (s.flagged u p)) (λ p. ap (flag_at (set flags v true)) (sym p) ∙ flag_same flags v true l) (Contains-push_cases list v u c);
}

pub seen_none : (flags : List Bool) → ((v : ℕ) → flag_at flags v ≡ false) → IsSeen flags []
seen_none flags n = record {
  all = record {
    nodes = λ k d l. absurd (omega arith);
    listed = λ v e. absurd (false≢true (sym (n v) ∙ e));
  };
  flagged = λ v c. absurd (let l = c.1 in omega arith);
}

pub seen_drop : (flags : List Bool) (list : List ℕ) (v : ℕ) → IsListed flags (list ++ v ∷ []) → IsListed (set flags v false) list
seen_drop flags list v s =
    let l : v < length flags = All-contains (λ w. w < length flags) (list ++ v ∷ []) v s.nodes (Contains-push list v) in
    let e = length-set flags v false in
    record {
      nodes = λ k d h. let q = (All-pop (λ w. w < length flags) (list ++ v ∷ []) list (Some v) refl s.nodes).0 k d h in omega arith;
      listed = λ u e. ⊎_elim
          (λ p. absurd (false≢true (sym (flag_same flags v false l) ∙ ap (flag_at (set flags v false)) (sym p) ∙ e)))
          (λ p. ⊎_elim (λ c. c) (λ q. absurd (p (sym q))) (Contains-push_cases list v u (s.listed u (sym (flag_other flags v u false p) ∙ e))))
          (nat_cases u v);
    }

pub unseen_set : (flags : List Bool) (v : ℕ) → v < length flags → flag_at flags v ≡ false → unseen (set flags v true) + 1 ≡ unseen flags
unfolding unseen
unseen_set [] v l e = absurd (omega arith)
unseen_set (true ∷ xs) zero l e = absurd (false≢true (sym e))
unseen_set (false ∷ xs) zero l e = omega arith
unseen_set (b ∷ xs) (suc v) l e = let h = unseen_set xs v (omega arith) e in omega arith

pub contains_one : (v u : ℕ) → Contains (v ∷ []) u → v ≡ u
contains_one v u (zero, l, e) = e
contains_one v u (suc k, l, e) = absurd (omega arith)

pub sees_same : (flags : List Bool) (list : List ℕ) (v : ℕ) → flag_at flags v ≡ true → SeesMore flags list flags list (v ∷ [])
sees_same flags list v e = record {
  seen = λ s. s;
  size = refl;
  kept = λ u h. h;
  added = λ u c. ap (flag_at flags) (sym (contains_one v u c)) ∙ e;
  only = λ u h. inl h;
  front = λ j l. refl;
  longer = omega arith;
  counted = refl;
}

node_push : (list : List ℕ) (v j : ℕ) → j < length list → node_at (list ++ v ∷ []) j ≡ node_at list j
node_push [] v j l = absurd (omega arith)
node_push (x ∷ xs) v zero l = refl
node_push (x ∷ xs) v (suc j) l = node_push xs v j (omega arith)

pub sees_add : (flags : List Bool) (list : List ℕ) (v : ℕ) → v < length flags → flag_at flags v ≡ false → SeesMore flags list (set flags v true) (list ++ v ∷ []) (v ∷ [])
sees_add flags list v l e = record {
  seen = seen_add flags list v l;
  size = length-set flags v true;
  kept = λ u h. flag_stays flags v u h;
  added = λ u c. ap (flag_at (set flags v true)) (sym (contains_one v u c)) ∙ flag_same flags v true l;
  only = λ u h. ⊎_elim (λ p. inr (zero, omega arith, sym p)) inl (flag_cases flags v u h);
  front = λ j k. node_push list v j k;
  longer = let h = length-append list (v ∷ []) in omega arith;
  counted = let h = length-append list (v ∷ []) in let k = unseen_set flags v l e in omega arith;
}

pub sees_more : (f : List Bool) (l : List ℕ) (f2 : List Bool) (l2 : List ℕ) (f3 : List Bool) (l3 xs ys : List ℕ) → SeesMore f l f2 l2 xs → SeesMore f2 l2 f3 l3 ys → SeesMore f l f3 l3 (xs ++ ys)
sees_more f l f2 l2 f3 l3 xs ys g h = record {
  seen = λ s. h.seen (g.seen s);
  size = h.size ∙ g.size;
  kept = λ v e. h.kept v (g.kept v e);
  added = λ v c. ⊎_elim (λ p. h.kept v (g.added v p)) (λ p. h.added v p) (Contains-append_cases xs ys v c);
  only = λ v e. ⊎_elim (λ p. ⊎_elim inl (λ q. inr (Contains-append_left xs ys v q)) (g.only v p)) (λ p. inr (Contains-append_right xs ys v p)) (h.only v e);
  front = λ j k. h.front j (let p = g.longer in omega arith) ∙ g.front j k;
  longer = let p = g.longer in let q = h.longer in omega arith;
  counted = h.counted ∙ g.counted;
}

pub sees_none : (f : List Bool) (l : List ℕ) → SeesMore f l f l []
sees_none f l = record {
  seen = λ s. s;
  size = refl;
  kept = λ u h. h;
  added = λ u c. absurd (let k = c.1 in omega arith);
  only = λ u h. inl h;
  front = λ j k. refl;
  longer = omega arith;
  counted = refl;
}
