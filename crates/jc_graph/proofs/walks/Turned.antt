-- Each turn of a walk.
use Rattle.std.proofs.Common.{◌≡◌, ℕ, ◌^◌, ◌-◌, ◌<◌, ◌≤◌, Bool, zero, suc, List, [], ◌∷◌, ◌++◌, length, get_or, set, sym, ap, ◌∙◌, arith, ◌⊎◌, ⊎_elim, length-append}
use Rattle.std.proofs.lemmas.List.{length-take-le, get_or_default}
use Rattle.jc_graph.specs.declared.walk.Place.{Place}
use Rattle.jc_graph.specs.declared.walk.Place.TheVariants.{Unseen, On, Done}
use Rattle.jc_graph.specs.declared.walk.Segment.{Segment}
use Rattle.jc_graph.specs.inside.Marks.{set_all}
use Rattle.jc_graph.specs.Graph.{Successors, Above}
use Rattle.jc_graph.specs.inside.Walk.{State, node_at, place_at, IsWalk, last_segment, last_nodes, last_step, HasStep, TellsRing, visited, dropped, joined_last, ended, Turned, unseen, is_unseen}
use Rattle.jc_graph.proofs.walks.Visit.{visit_walk, unseen_set, place_other, place_same}
use Rattle.jc_graph.proofs.walks.Turns.{path_dropped, path_joined}
use Rattle.jc_graph.proofs.walks.End.{ended_walk, ended_stays}
use Rattle.jc_graph.proofs.walks.MarkLemmas.{same_or_not}

same_made : {A B C D E F G : Type 0} (m : A → B → C → D → E → F → G) (a a2 : A) (b b2 : B) (c c2 : C) (d d2 : D) (e e2 : E) (f f2 : F) → a ≡ a2 → b ≡ b2 → c ≡ c2 → d ≡ d2 → e ≡ e2 → f ≡ f2 → m a b c d e f ≡ m a2 b2 c2 d2 e2 f2
same_made m a a2 b b2 c c2 d d2 e e2 f f2 p q r s t u = cc

pub same_state : (s t : State) → s.path ≡ t.path → s.segments ≡ t.segments → s.steps ≡ t.steps → s.place ≡ t.place → s.circular ≡ t.circular → s.order ≡ t.order → s ≡ t
same_state s t = same_made (λ (a : List ℕ) (b : List Segment) (c : List ℕ) (d : List Place) (e : List Bool) (f : List ℕ). record { path = a; segments = b; steps = c; place = d; circular = e; order = f }) s.path t.path s.segments t.segments s.steps t.steps s.place t.place s.circular t.circular s.order t.order

pub on_unseen : (p : ℕ) → On p ≡ Unseen → ⊥
on_unseen p e = cc

done_unseen : Done ≡ Unseen → ⊥
done_unseen e = cc

is_unseen_small : (p : Place) → is_unseen p ≤ 1
is_unseen_small Unseen = omega arith
is_unseen_small (On p) = omega arith
is_unseen_small Done = omega arith

unseen_done : (ps : List Place) (v : ℕ) → unseen (set ps v Done) ≤ unseen ps
unfolding unseen
unseen_done [] v = omega arith
unseen_done (p ∷ ps) zero = omega arith
unseen_done (p ∷ ps) (suc v) = let h = unseen_done ps v in omega (arith, h)

unseen_all : (ps : List Place) (vs : List ℕ) → unseen (set_all ps vs Done) ≤ unseen ps
unseen_all ps [] = omega arith
unseen_all ps (v ∷ vs) = let a = unseen_all (set ps v Done) vs in let b = unseen_done ps v in omega arith

pub visit_turned : (next : Successors) (count : ℕ) (s : State) (v : ℕ) → IsWalk next count s → v < count → place_at s.place v ≡ Unseen → ((p : ℕ) → p < length s.path → Above next (node_at s.path p) v) → length (s.steps ++ next v) < 2 ^ 64 → length s.segments < 2 ^ 64 → Turned next count s (visited next s v)
visit_turned next count s v h l none led small few =
    let fewer = unseen_set s.place v (length s.path) (omega (arith, h.places)) none in
    record {
      walk = visit_walk next count s v h l none led;
      less = omega (arith, fewer, length-append s.segments ((record { path_from = length s.path; steps_from = length s.steps }) ∷ []));
      stays = λ w e. ⊎_elim
          (λ (o : w ≡ v). absurd (on_unseen (length s.path) (sym (place_same s.place v (length s.path) (omega (arith, h.places))) ∙ ap (place_at (set s.place v (On (length s.path)))) (sym o) ∙ e)))
          (λ n. sym (place_other s.place v (length s.path) w n) ∙ e)
          (same_or_not w v);
    }

pub dropped_turned : (next : Successors) (count : ℕ) (s : State) → IsWalk next count s → HasStep s → (place_at s.place (last_step s) ≡ Done) ⊎ ((q : ℕ) × (place_at s.place (last_step s) ≡ On q) × ((last_segment s).path_from ≤ q)) → Turned next count s (dropped s)
dropped_turned next count s h has k = record {
  walk = record { places = h.places; flags = h.flags; path = path_dropped next s h.path has k; done = h.done };
  less = omega (arith, has.1, length-take-le (length s.steps - 1) s.steps (omega arith));
  stays = λ v e. e;
}

pub joined_turned : (next : Successors) (count : ℕ) (s : State) → IsWalk next count s → HasStep s → (q : ℕ) → place_at s.place (last_step s) ≡ On q → q < (last_segment s).path_from → Turned next count s (joined_last s)
joined_turned next count s h has q e l = record {
  walk = record { places = h.places; flags = h.flags; path = path_joined next s h.path has q e l; done = h.done };
  less = omega (arith, has.0, length-take-le (length s.segments - 1) s.segments (omega arith));
  stays = λ v f. f;
}

pub ended_turned : (next : Successors) (count : ℕ) (s : State) → IsWalk next count s → 0 < length s.segments → length s.steps ≤ (last_segment s).steps_from → (ring : Bool) → TellsRing next (last_nodes s) ring → Turned next count s (ended ring s)
ended_turned next count s h some no_step ring tells = record {
  walk = ended_walk next count s h some no_step ring tells;
  less = omega (arith, some, length-take-le (length s.segments - 1) s.segments (omega arith), unseen_all s.place (last_nodes s));
  stays = ended_stays next count s h some no_step ring tells;
}

pub place_read : (ps : List Place) (t w : ℕ) (r x : Place) → t ≡ w → w < length ps → r ≡ get_or ps t r → r ≡ x → place_at ps w ≡ x
place_read ps t w r x e l f g = sym (get_or_default ps w r Unseen l) ∙ ap (λ k. get_or ps k r) (sym e) ∙ sym f ∙ g
