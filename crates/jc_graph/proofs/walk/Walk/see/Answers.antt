use Rattle.std.proofs.Common.{◌≡◌, ℕ, length, sym, ap, subst, ◌∙◌, refl, arith}
use Rattle.jc_graph.specs.declared.walk.Place.{Place}
use Rattle.jc_graph.specs.declared.walk.Place.TheVariants.{Unseen}
use Rattle.jc_graph.specs.declared.walk.Walk.{Walk}
use Rattle.jc_graph.specs.Graph.{successors_of}
use Rattle.jc_graph.specs.inside.Walk.{state_of, place_at, IsWalk}
use Rattle.jc_graph.proofs.walks.Turned.{on_unseen, place_read}
use Rattle.jc_graph.proofs.walk.Walk.see.Goals as goal
use Rattle.jc_graph.proofs.walk.Walk.see.Goals.{in-Unseen+in_ok-visit, in_default}

pub loop-last-init : goal.loop-last-init
loop-last-init c =
    let node = c.args.node in
    let is : (x : Place) → c.index.result.now ≡ x → place_at c.args.self.now.place.items node ≡ x =
    λ x e. place_read c.args.self.now.place.items node node c.index.result.now x refl (omega (arith, c.requires.walk.places, c.requires.node)) c.index.ensures e in
    elim c.match-index.branch [
      | in-Unseen+in_ok-visit w ↦ record {
        walk = subst (λ (x : Walk). IsWalk (successors_of c.args.graph.now) (length c.args.graph.now) (state_of x)) (sym w.self-is) w.in_ok-visit.ensures.turned.walk;
        seen = subst (λ (x : Walk). (v : ℕ) → place_at x.place.items v ≡ Unseen → (place_at c.args.self.now.place.items v ≡ Unseen) × (v ≡ node → ⊥)) (sym w.self-is)
            (λ v e. (w.in_ok-visit.ensures.turned.stays v e, λ i. on_unseen _ (sym w.in_ok-visit.ensures.seen ∙ ap (place_at w.visit.new.self.place.items) (sym i) ∙ e)));
      }
      | in_default w ↦ record {
        walk = subst (λ (x : Walk). IsWalk (successors_of c.args.graph.now) (length c.args.graph.now) (state_of x)) (sym w.self-is) c.requires.walk;
        seen = subst (λ (x : Walk). (v : ℕ) → place_at x.place.items v ≡ Unseen → (place_at c.args.self.now.place.items v ≡ Unseen) × (v ≡ node → ⊥)) (sym w.self-is)
            (λ v e. (e, λ i. w.in_default.not-Unseen (sym (is c.index.result.now refl) ∙ ap (place_at c.args.self.now.place.items) (sym i) ∙ e)));
      }
    ]
