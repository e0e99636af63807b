-- A walk from nothing, and one that has seen all nodes.
use Rattle.std.proofs.Common.{◌≡◌, ℕ, ◌<◌, ◌≤◌, Bool, true, false, length, refl, sym, ◌∙◌, arith, ◌⊎◌, inl, inr, ⊎_elim}
use Rattle.std.proofs.lemmas.List.{get_or_default, get_or_past}
use Rattle.jc_graph.specs.declared.walk.Place.{Place}
use Rattle.jc_graph.specs.declared.walk.Place.TheVariants.{Unseen, On, Done}
use Rattle.jc_graph.specs.Graph.{Successors, TellsCircular, IsOrder}
use Rattle.jc_graph.specs.inside.Walk.{State, node_at, place_at, flag_at, IsWalk}
use Rattle.jc_graph.proofs.walks.Turns.{less_or_not}

bool_cases : (b : Bool) → (b ≡ true) ⊎ (b ≡ false)
bool_cases true = inl refl
bool_cases false = inr refl

-- once the path is empty, what was seen is done
all_done : (x : Place) → (x ≡ Unseen → ⊥) → ((p : ℕ) → x ≡ On p → ⊥) → x ≡ Done
all_done Unseen n o = absurd (n refl)
all_done (On p) n o = absurd (o p refl)
all_done Done n o = refl

module _ (next : Successors) (count : ℕ) (s : State) (h : IsWalk next count s) (empty : length s.segments ≡ 0) (seen : (v : ℕ) → v < count → place_at s.place v ≡ Unseen → ⊥) where
  is_done : (v : ℕ) → v < count → place_at s.place v ≡ Done
  is_done v l = all_done (place_at s.place v) (seen v l) (λ p e. let o = h.path.has_place v p e in omega (arith, o.0, h.path.covers empty))

  pub whole_circular : TellsCircular next count s.circular
  whole_circular = record {
    size = h.flags;
    tells = λ v l. (h.done.ring v (is_done v l), λ a. ⊎_elim (λ t. t) (λ f. absurd (h.done.plain v (is_done v l) f a)) (bool_cases (flag_at s.circular v)));
  }

  pub whole_order : IsOrder next count s.circular s.order
  whole_order = record {
    nodes = λ k d l.
        let e = get_or_default s.order k d 0 l in
        let o = h.done.done k l in
        ⊎_elim
        (λ (m : node_at s.order k < length s.place). omega (arith, h.places, e))
        (λ (m : length s.place ≤ node_at s.order k). let f : Unseen ≡ Done = sym (get_or_past s.place _ Unseen m) ∙ o in absurd cc)
        (less_or_not (node_at s.order k) (length s.place));
    listed = λ v l. h.done.listed v (is_done v l);
    before = h.done.before;
  }
