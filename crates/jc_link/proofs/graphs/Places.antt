-- A class at a place of a graph.
use Rattle.std.proofs.Common.{◌≡◌, ◌<◌, ◌∙◌, ℕ, Option, length, arith, ap, sym}
use Rattle.std.proofs.lemmas.List.{length-map}
use Rattle.std.specs.declared.vec.Vec.{Vec}
use Rattle.std.specs.declared.alloc.Global.{Global}
use Rattle.jc_classes.specs.Numbers.{name_at}
use Rattle.jc_link.specs.Graphs.{ClassGraph}
use Rattle.jc_link.specs.declared.graph.ClassGraph.TheInside.{Inside}
use Rattle.jc_link.specs.inside.GraphShown.{IsWhole, class_at, graph_shown}
use Rattle.jc_link.proofs.graphs.ClassesNumbered.{name_there}

module _ (a : Inside) (whole : IsWhole a) (g : ClassGraph) (is : graph_shown a ≡ g) (place : ℕ) (below : place < length g.classes) where
  pub among : place < length a.classes.items
  among = let e = ap (λ (h : ClassGraph). length h.classes) is in omega (arith, below, e, length-map a.classes.items (name_at a.names))

  pub class_in : class_at a.classes.items place < length a.names
  class_in = whole.referred.classes_in place 0 among

  pub references_in : place < length a.references.items
  references_in = omega (arith, among, whole.referred.size, length-map a.references.items (λ (v : Vec (Option ℕ) Global). v.items))

  pub class_name : name_at a.names (class_at a.classes.items place) ≡ name_at g.classes place
  class_name = sym (name_there a.names a.classes.items place among) ∙ ap (λ (h : ClassGraph). name_at h.classes place) is
