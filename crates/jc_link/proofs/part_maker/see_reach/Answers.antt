use Rattle.std.proofs.Common.{◌≡◌, ◌<◌, ◌∙◌, ℕ, List, length, arith, sym, ap, subst}
use Rattle.std.proofs.lemmas.List.{length-map}
use Rattle.std.proofs.lemmas.Result.{on_ok_weaker}
use Rattle.std.specs.List.{All, Contains}
use Rattle.std.specs.declared.vec.Vec.{Vec}
use Rattle.std.specs.declared.alloc.Global.{Global}
use Rattle.jc_graph.specs.Graph.{successors_of}
use Rattle.jc_graph.specs.Seen.{SeesMore, TellsAbove}
use Rattle.jc_classes.specs.Numbers.{name_at}
use Rattle.jc_classes.specs.Parts.{Reach}
use Rattle.jc_link.specs.Graphs.{IsIn, ClassGraph}
use Rattle.jc_link.specs.inside.Gathering.{stands_in, supertypes_in}
use Rattle.jc_link.specs.inside.GraphShown.{AreNumbersOf, AreStarts}
use Rattle.jc_link.proofs.graphs.Walking.{numbers_reached}
use Rattle.jc_link.proofs.part_maker.see_reach.Goals as goal

pub mark_above-requires-clause-nodes : goal.mark_above-requires-clause-nodes
mark_above-requires-clause-nodes c =
    let a = c.graph.inside in
    let closed = c.graph.invariant.graph.closed in
    let size = length-map a.supertypes.items (λ (v : Vec ℕ Global). v.items) in
    subst (λ (g : List (Vec ℕ Global)). (v w : ℕ) → Contains (successors_of g v) w → w < length g) (sym c.as_slice.ensures.value)
    (λ v w h. let l = closed.within v w h in omega (arith, l, closed.size, size))

pub returns-clause-reach : goal.returns-clause-reach
returns-clause-reach c = λ m lies.
    let a = c.graph.inside in
    let ns = a.names in
    let st = stands_in a.standing.items in
    let rs = supertypes_in a.supertypes.items in
    let d = name_at c.args.graph.now.classes c.args.place in
    let starts = c.in_ok-starts.starts.items in
    let closed = c.graph.invariant.graph.closed in
    let size = length-map a.supertypes.items (λ (v : Vec ℕ Global). v.items) in
    let count : length c.as_slice.result.now ≡ length ns = ap length c.as_slice.ensures.value ∙ omega (arith, closed.size, size) in
    let all = subst (IsIn m) (sym c.graph.view_is) lies in
    let from = subst (λ (n : ClassGraph). AreStarts m d n.names starts) (sym c.graph.view_is) (c.in_ok-starts.ensures.starts m lies) in
    let inside = subst (λ (n : ClassGraph). All (λ v. v < length n.names) starts) (sym c.graph.view_is) c.in_ok-starts.ensures.within in
    let within = λ (v : ℕ) (h : Contains starts v). subst (λ x. x < length ns) h.2 (inside h.0 v h.1) in
    let above : TellsAbove (length ns) (successors_of a.supertypes.items) starts c.mark_above.new.seen.flags c.mark_above.new.seen.list =
    subst (λ n. TellsAbove n (successors_of a.supertypes.items) starts c.mark_above.new.seen.flags c.mark_above.new.seen.list) count
    (subst (λ (g : List (Vec ℕ Global)). TellsAbove (length c.as_slice.result.now) (successors_of g) starts c.mark_above.new.seen.flags c.mark_above.new.seen.list) c.as_slice.ensures.value
    (subst (λ xs. TellsAbove (length c.as_slice.result.now) (successors_of c.as_slice.result.now) xs c.mark_above.new.seen.flags c.mark_above.new.seen.list) c.deref.ensures.value c.in_ok-mark_above.ensures)) in
    let f = λ (more : SeesMore c.mark_above.new.seen.flags c.mark_above.new.seen.list c.add_all.new.self.flags c.add_all.new.self.list c.deref-2.result.now).
    subst (λ (n : ClassGraph). AreNumbersOf n.names (Reach m d) c.add_all.new.self.list) c.graph.view_is
    (numbers_reached m d ns st rs a.object c.graph.invariant.graph all starts within from c.mark_above.new.seen.flags c.mark_above.new.seen.list c.add_all.new.self.flags c.add_all.new.self.list above
    (subst (SeesMore c.mark_above.new.seen.flags c.mark_above.new.seen.list c.add_all.new.self.flags c.add_all.new.self.list) c.deref-2.ensures.value more)) in
    on_ok_weaker c.add_all.result f c.add_all.ensures
