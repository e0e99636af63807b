use Rattle.std.proofs.Common.{ℕ, [], sym, ap, ◌∙◌}
use Rattle.std.proofs.lemmas.List.{get_or-map}
use Rattle.std.specs.declared.vec.Vec.{Vec}
use Rattle.std.specs.declared.alloc.Global.{Global}
use Rattle.jc_graph.proofs.successors.successors.Goals as goal

pub returns : goal.returns
returns c = c.as_slice.ensures.value ∙ ap (λ (x : Vec ℕ Global). x.items) c.index-graph-node.is ∙ sym (get_or-map (λ (x : Vec ℕ Global). x.items) c.args.graph.now c.args.node _ [] c.requires)
