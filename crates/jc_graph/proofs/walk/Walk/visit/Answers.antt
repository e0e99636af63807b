use Rattle.std.proofs.Common.{◌≡◌, [], ◌∷◌, ◌++◌, length, set, sym, ap, subst, ◌∙◌, refl, arith}
use Rattle.jc_graph.specs.declared.walk.Place.TheVariants.{On}
use Rattle.jc_graph.specs.Graph.{successors_of}
use Rattle.jc_graph.specs.inside.Walk.{state_of, visited, Turned}
use Rattle.jc_graph.proofs.walks.Turned.{same_state, visit_turned}
use Rattle.jc_graph.proofs.walk.Walk.visit.Goals as goal

pub returns-clause-turned : goal.returns-clause-turned
returns-clause-turned c =
    let next = successors_of c.args.graph.now in
    let s = state_of c.args.self.now in
    let v = c.args.node in
    let at : c.len.result ≡ length s.path = omega (arith, c.len.ensures, c.args.self.now.path.ok.0) in
    let from : c.len-2.result ≡ length s.steps = omega (arith, c.len-2.ensures, c.args.self.now.steps.ok.0) in
    let segment : c.push-2.new.self.items ≡ s.segments ++ (record { path_from = length s.path; steps_from = length s.steps }) ∷ [] =
    c.in_ok-push-2.ensures.items ∙ ap (λ k. s.segments ++ (record { path_from = k; steps_from = c.len-2.result }) ∷ []) at ∙ ap (λ k. s.segments ++ (record { path_from = length s.path; steps_from = k }) ∷ []) from in
    let steps : c.extend_from_slice.new.self.items ≡ s.steps ++ next v = c.in_ok-extend_from_slice.ensures.items ∙ ap (λ k. s.steps ++ k) c.successors.ensures in
    let e = same_state (state_of (record { path = c.push.new.self; segments = c.push-2.new.self; steps = c.extend_from_slice.new.self; place = Rattle.std.specs.Vec.with_item c.args.self.now.place v (On c.len.result); circular = c.args.self.now.circular; order = c.args.self.now.order })) (visited next s v)
    c.in_ok-push.ensures.items segment steps (ap (λ k. set s.place v (On k)) at) refl refl in
    subst (λ t. Turned next (length c.args.graph.now) s t) (sym e) (visit_turned next (length c.args.graph.now) s v c.requires.walk c.requires.node c.requires.unseen c.requires.above
    (let n = ap length steps in omega (arith, n, c.extend_from_slice.new.self.ok.0, c.extend_from_slice.new.self.small))
    (omega (arith, c.args.self.now.segments.ok.0, c.args.self.now.segments.small)))
