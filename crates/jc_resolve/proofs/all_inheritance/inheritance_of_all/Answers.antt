use Rattle.std.proofs.Common.{◌+◌, ◌∷◌, ◌++◌, [], sym, subst, take}
use Rattle.std.specs.Prelude.{slice_index_or}
use Rattle.std.proofs.lemmas.List.{take_more}
use Rattle.jc_numbered.specs.inside.Shown.{indexed_of}
use Rattle.jc_resolve.specs.inside.Inheritance.{TellErrors}
use Rattle.jc_resolve.proofs.lookups.InheritanceLemmas.{one_told}
use Rattle.jc_resolve.proofs.all_inheritance.inheritance_of_all.Goals as goal

pub loop-node-preserved : goal.loop-node-preserved
loop-node-preserved c =
    let x = indexed_of c.args.classes.now in
    let loads = c.args.loads.now in
    let nodes = c.args.nodes.now in
    let n = c.loop-node.node-index in
    let e = c.in_ok-errors.errors in
    record {
      size = c.in_ok-errors.ensures.size;
      found = c.in_ok-errors.ensures.found;
      search = c.in_ok-errors.ensures.search;
      all = subst (TellErrors x loads (take (n + 1) nodes)) (sym c.in_ok-push.ensures.items)
          (subst (λ vs. TellErrors x loads vs (c.loop-node.all.items ++ e ∷ [])) (sym (take_more nodes n 0 c.loop-node-test.true))
          (one_told x loads (take n nodes) c.loop-node.all.items (slice_index_or nodes n 0) e c.loop-node.invariant.all c.in_ok-errors.ensures.errors));
    }
