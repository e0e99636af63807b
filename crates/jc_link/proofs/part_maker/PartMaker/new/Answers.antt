use Rattle.std.proofs.Common.{◌≡◌, ◌∙◌, ap, sym, subst}
use Rattle.jc_resolve.specs.Numbered.{IsClosed}
use Rattle.jc_link.specs.Graphs.{ClassGraph}
use Rattle.jc_link.specs.inside.Gathering.{supertypes_in, stands_in}
use Rattle.jc_link.specs.inside.GraphShown.{IsHierarchyOf}
use Rattle.jc_link.proofs.part_maker.PartMaker.new.Goals as goal

pub new-requires-clause-closed : goal.new-requires-clause-closed
new-requires-clause-closed c =
    let a = c.graph.inside in
    let net = c.graph.invariant.graph.closed in
    subst (λ z. IsClosed (record { names = a.names; standing = stands_in z; supertypes = supertypes_in c.as_slice-2.result.now })) (sym c.as_slice.ensures.value)
    (subst (λ z. IsClosed (record { names = a.names; standing = stands_in a.standing.items; supertypes = supertypes_in z })) (sym c.as_slice-2.ensures.value) net)

pub invariant_of-result : goal.invariant_of-result
invariant_of-result c =
    let a = c.graph.inside in
    let is : c.in_ok-hierarchy.hierarchy ≡ record { names = a.names; standing = stands_in a.standing.items; supertypes = supertypes_in c.as_slice-2.result.now } =
    c.in_ok-hierarchy.ensures
    ∙ ap (λ z. record { names = a.names; standing = stands_in z; supertypes = supertypes_in c.as_slice-2.result.now }) c.as_slice.ensures.value in
    (subst (λ (n : ClassGraph). IsHierarchyOf n c.in_ok-hierarchy.hierarchy) c.graph.view_is (record { supertypes = supertypes_in c.as_slice-2.result.now; is = is }), tt)
