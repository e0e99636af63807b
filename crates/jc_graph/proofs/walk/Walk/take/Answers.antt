use Rattle.std.proofs.Common.{◌≡◌, ◌-◌, take, length, sym, ap, subst, ◌∙◌, refl, arith, inl, inr}
use Rattle.jc_graph.specs.declared.walk.Segment.{Segment}
use Rattle.jc_graph.specs.declared.walk.Place.TheVariants.{On, Done}
use Rattle.jc_graph.specs.Graph.{successors_of, Above}
use Rattle.jc_graph.specs.inside.Walk.{state_of, node_at, last_step, dropped, joined_last, Turned}
use Rattle.jc_graph.proofs.walks.Turns.{all_above, target_in}
use Rattle.jc_graph.proofs.walks.Turned.{same_state, dropped_turned, joined_turned, place_read}
use Rattle.jc_graph.proofs.walk.Walk.take.Goals as goal

pub index-requires : goal.index-requires
index-requires c =
    let s = state_of c.args.self.now in
    let t = target_in (successors_of c.args.graph.now) (length c.args.graph.now) s c.requires.walk.path c.requires.has c.requires.nodes in
    omega (arith, c.target-target.ensures, t, c.requires.walk.places, c.args.self.now.place.ok.0)

pub visit-requires-clause-node : goal.visit-requires-clause-node
visit-requires-clause-node c =
    let s = state_of c.args.self.now in
    let t = target_in (successors_of c.args.graph.now) (length c.args.graph.now) s c.requires.walk.path c.requires.has c.requires.nodes in
    omega (arith, c.target-target.ensures, t)

pub visit-requires-clause-above : goal.visit-requires-clause-above
visit-requires-clause-above c =
    let next = successors_of c.args.graph.now in
    let s = state_of c.args.self.now in
    λ p l. subst (λ x. Above next (node_at s.path p) x) (sym c.target-target.ensures) (all_above next s c.requires.walk.path c.requires.has p l)

pub returns-then-at-last : goal.returns-then-at-last
returns-then-at-last c =
    let next = successors_of c.args.graph.now in
    let count = length c.args.graph.now in
    let s = state_of c.args.self.now in
    let t = target_in next count s c.requires.walk.path c.requires.has c.requires.nodes in
    let on = place_read s.place c.target-target.result (last_step s) c.index.result.now (On c.in-On.at) c.target-target.ensures (omega (arith, t, c.requires.walk.places)) c.index.ensures c.in-On.is in
    let from = ap (λ (g : Segment). g.path_from) c.requires.last in
    let small : c.args.self.now.segments.len ≡ length s.segments = omega (arith, c.args.self.now.segments.ok.0) in
    let segments : c.pop.new.self.items ≡ (joined_last s).segments = c.pop.ensures.rest ∙ ap (λ k. take (k - 1) s.segments) small in
    let e = same_state (record s { segments = c.pop.new.self.items }) (joined_last s) refl segments refl refl refl refl in
    subst (λ t. Turned next count s t) (sym e) (joined_turned next count s c.requires.walk c.requires.has c.in-On.at on (omega (arith, from, c.if-at-last.true)))

pub returns-else-at-last : goal.returns-else-at-last
returns-else-at-last c =
    let next = successors_of c.args.graph.now in
    let count = length c.args.graph.now in
    let s = state_of c.args.self.now in
    let t = target_in next count s c.requires.walk.path c.requires.has c.requires.nodes in
    let on = place_read s.place c.target-target.result (last_step s) c.index.result.now (On c.in-On.at) c.target-target.ensures (omega (arith, t, c.requires.walk.places)) c.index.ensures c.in-On.is in
    let from = ap (λ (g : Segment). g.path_from) c.requires.last in
    let small : c.args.self.now.steps.len ≡ length s.steps = omega (arith, c.args.self.now.steps.ok.0) in
    let steps : c.pop-else-at-last.new.self.items ≡ (dropped s).steps = c.pop-else-at-last.ensures.rest ∙ ap (λ k. take (k - 1) s.steps) small in
    let e = same_state (record s { steps = c.pop-else-at-last.new.self.items }) (dropped s) refl refl steps refl refl refl in
    subst (λ t. Turned next count s t) (sym e) (dropped_turned next count s c.requires.walk c.requires.has (inr (c.in-On.at, on, omega (arith, from, c.if-at-last.false))))

pub returns-in-Done : goal.returns-in-Done
returns-in-Done c =
    let next = successors_of c.args.graph.now in
    let count = length c.args.graph.now in
    let s = state_of c.args.self.now in
    let t = target_in next count s c.requires.walk.path c.requires.has c.requires.nodes in
    let is = place_read s.place c.target-target.result (last_step s) c.index.result.now Done c.target-target.ensures (omega (arith, t, c.requires.walk.places)) c.index.ensures c.in-Done.is in
    let small : c.args.self.now.steps.len ≡ length s.steps = omega (arith, c.args.self.now.steps.ok.0) in
    let steps : c.pop-in-Done.new.self.items ≡ (dropped s).steps = c.pop-in-Done.ensures.rest ∙ ap (λ k. take (k - 1) s.steps) small in
    let e = same_state (record s { steps = c.pop-in-Done.new.self.items }) (dropped s) refl refl steps refl refl refl in
    subst (λ t. Turned next count s t) (sym e) (dropped_turned next count s c.requires.walk c.requires.has (inl is))
