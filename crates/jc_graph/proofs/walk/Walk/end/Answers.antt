use Rattle.std.proofs.Common.{◌≡◌, ◌<◌, ◌-◌, take, drop, ◌++◌, length, sym, ap, subst, ◌∙◌, refl, arith}
use Rattle.std.proofs.lemmas.List.{with_items_is}
use Rattle.std.specs.List.{All}
use Rattle.std.specs.Vec.{with_items}
use Rattle.jc_graph.specs.declared.walk.Segment.{Segment}
use Rattle.jc_graph.specs.declared.walk.Place.TheVariants.{Done}
use Rattle.jc_graph.specs.inside.Marks.{set_all}
use Rattle.jc_graph.specs.Graph.{successors_of}
use Rattle.jc_graph.specs.inside.Walk.{state_of, last_nodes, ended, TellsRing, Turned}
use Rattle.jc_graph.proofs.walks.MarkLemmas.{length-set_all}
use Rattle.jc_graph.proofs.walks.End.{last_in, last_begins}
use Rattle.jc_graph.proofs.walks.Turned.{same_state, ended_turned}
use Rattle.jc_graph.proofs.walk.Walk.end.Goals as goal

pub split_at-requires : goal.split_at-requires
split_at-requires c =
    let s = state_of c.args.self.now in
    let e = ap (λ (g : Segment). g.path_from) c.requires.last in
    let l = last_begins (successors_of c.args.graph.now) s c.requires.walk.path c.requires.some in
    omega (arith, e, l, c.as_slice.ensures.len, c.args.self.now.path.ok.0)

pub is_ring-ring-requires : goal.is_ring-ring-requires
is_ring-ring-requires c =
    let s = state_of c.args.self.now in
    let e : c.split_at.result.1.now ≡ last_nodes s = c.split_at.ensures.back ∙ ap (drop c.args.last.path_from) c.as_slice.ensures.value ∙ ap (λ (g : Segment). drop g.path_from s.path) c.requires.last in
    subst (All (λ v. v < length c.args.graph.now)) (sym e) (last_in (successors_of c.args.graph.now) (length c.args.graph.now) s c.requires.walk)

pub mark-requires : goal.mark-requires
mark-requires c =
    let s = state_of c.args.self.now in
    let e : c.split_at.result.1.now ≡ last_nodes s = c.split_at.ensures.back ∙ ap (drop c.args.last.path_from) c.as_slice.ensures.value ∙ ap (λ (g : Segment). drop g.path_from s.path) c.requires.last in
    let n = ap length c.as_mut_slice.ensures.value in
    subst (All (λ v. v < length c.as_mut_slice.result.now)) (sym e) (λ k d l. let h = last_in (successors_of c.args.graph.now) (length c.args.graph.now) s c.requires.walk k d l in omega (arith, h, n, c.requires.walk.places))

pub mark-requires-2 : goal.mark-requires-2
mark-requires-2 c =
    let s = state_of c.args.self.now in
    let e : c.split_at.result.1.now ≡ last_nodes s = c.split_at.ensures.back ∙ ap (drop c.args.last.path_from) c.as_slice.ensures.value ∙ ap (λ (g : Segment). drop g.path_from s.path) c.requires.last in
    let n = ap length c.as_mut_slice-2.ensures.value in
    subst (All (λ v. v < length c.as_mut_slice-2.result.now)) (sym e) (λ k d l. let h = last_in (successors_of c.args.graph.now) (length c.args.graph.now) s c.requires.walk k d l in omega (arith, h, n, c.requires.walk.flags))

pub returns : goal.returns
returns c =
    let next = successors_of c.args.graph.now in
    let count = length c.args.graph.now in
    let s = state_of c.args.self.now in
    let ring = c.is_ring-ring.result in
    let from = ap (λ (g : Segment). g.path_from) c.requires.last in
    let e : c.split_at.result.1.now ≡ last_nodes s = c.split_at.ensures.back ∙ ap (drop c.args.last.path_from) c.as_slice.ensures.value ∙ ap (λ (g : Segment). drop g.path_from s.path) c.requires.last in
    let path : c.truncate.new.self.items ≡ (ended ring s).path = c.truncate.ensures.items ∙ ap (λ k. take k s.path) from in
    let small : c.args.self.now.segments.len ≡ length s.segments = omega (arith, c.args.self.now.segments.ok.0) in
    let segments : c.pop.new.self.items ≡ (ended ring s).segments = c.pop.ensures.rest ∙ ap (λ k. take (k - 1) s.segments) small in
    let place : c.mark.new.marks ≡ (ended ring s).place = c.mark.ensures ∙ ap (λ k. set_all k c.split_at.result.1.now Done) c.as_mut_slice.ensures.value ∙ ap (λ k. set_all s.place k Done) e in
    let circular : c.mark-2.new.marks ≡ (ended ring s).circular = c.mark-2.ensures ∙ ap (λ k. set_all k c.split_at.result.1.now ring) c.as_mut_slice-2.ensures.value ∙ ap (λ k. set_all s.circular k ring) e in
    let place_is = with_items_is c.args.self.now.place c.mark.new.marks (ap length place ∙ length-set_all s.place (last_nodes s) Done ∙ omega (arith, c.args.self.now.place.ok.0)) ∙ place in
    let circular_is = with_items_is c.args.self.now.circular c.mark-2.new.marks (ap length circular ∙ length-set_all s.circular (last_nodes s) ring ∙ omega (arith, c.args.self.now.circular.ok.0)) ∙ circular in
    let order : c.extend_from_slice.new.self.items ≡ (ended ring s).order = c.in_ok-extend_from_slice.ensures.items ∙ ap (λ k. s.order ++ k) e in
    let t = same_state (state_of (record { path = c.truncate.new.self; segments = c.pop.new.self; steps = c.args.self.now.steps; place = with_items c.args.self.now.place c.mark.new.marks; circular = with_items c.args.self.now.circular c.mark-2.new.marks; order = c.extend_from_slice.new.self })) (ended ring s)
    path segments refl place_is circular_is order in
    let no_step = ap (λ (g : Segment). g.steps_from) c.requires.last in
    subst (λ t. Turned next count s t) (sym t) (ended_turned next count s c.requires.walk c.requires.some (omega (arith, no_step, c.requires.no_step)) ring (subst (λ nodes. TellsRing next nodes ring) e c.is_ring-ring.ensures))
