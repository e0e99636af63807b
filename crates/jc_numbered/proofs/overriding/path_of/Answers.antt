use Rattle.std.proofs.Common.{◌∙◌, length, refl, sym, ap, subst}
use Rattle.jc_numbered.specs.inside.FinalSearches.{IsPath, last_of}
use Rattle.jc_numbered.specs.inside.Indexed.{superclass_at}
use Rattle.jc_numbered.specs.inside.Shown.{indexed_of}
use Rattle.jc_numbered.proofs.lookups.Chain.{super_good, super_node}
use Rattle.jc_numbered.proofs.lookups.FinalSearchLemmas.{last_push, path_on}
use Rattle.jc_numbered.proofs.overriding.path_of.Goals as goal

pub loop-above-preserved : goal.loop-above-preserved
loop-above-preserved c =
    let x = indexed_of c.args.classes.now in
    let count = length c.args.classes.now.standing.now in
    let graph = c.args.classes.now.graph in
    let v = c.loop-above.node in
    let s = c.in-Some.above in
    let e = sym c.in-Some.ensures in
    let path = c.loop-above.path.items in
    let pushed = sym c.in_ok-push-2.ensures.items in
    record {
      path = subst (λ l. IsPath count x c.args.class l (superclass_at x s)) pushed
          (path_on count x graph c.args.class path v s c.loop-above.invariant.path c.loop-above.invariant.last c.loop-above.invariant.good e);
      last = ap last_of (sym pushed) ∙ last_push path s;
      within = super_node count x graph v s e;
      good = super_good count x graph v s c.loop-above.invariant.good e;
    }
