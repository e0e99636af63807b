use Rattle.std.proofs.Common.{◌≡◌, ◌<◌, ◌+◌, ℕ, length, set, sym, ap, subst, ◌∙◌, arith, length-set}
use Rattle.std.proofs.lemmas.List.{get_or_default}
use Rattle.jc_numbered.specs.inside.Shown.{indexed_of}
use Rattle.jc_numbered.specs.inside.Loading.{load_at}
use Rattle.jc_resolve.specs.inside.Loading.{IsTold, rank_in, load_of}
use Rattle.jc_resolve.proofs.loading.Loadings.{next_told, more_told, all_told}
use Rattle.jc_resolve.proofs.all_loads.load_all.Goals as goal

pub loop-at-preserved : goal.loop-at-preserved
loop-at-preserved c =
    let x = indexed_of c.args.classes.now in
    let count = length c.args.classes.now.standing.now in
    let flags = c.args.sorted.now.circular.items in
    let order = c.args.sorted.now.order.items in
    let loads = c.loop-at.loads.items in
    let at = c.loop-at.at in
    let l : at < length order = omega (arith, c.loop-at-test.true, c.loop-at.auto.at-end, c.len-at-end.ensures, c.args.sorted.now.order.ok.0) in
    let v : c.index-node.result.now ≡ rank_in order at = c.index-node.ensures ∙ get_or_default order at _ 0 l in
    let next = next_told count x c.args.classes.now.graph flags order c.requires.circular c.requires.order loads at l c.loop-at.invariant.told in
    let is : c.load_one-load.result ≡ load_of x flags loads (rank_in order at) = c.load_one-load.ensures
    ∙ ap (load_of x c.as_slice.result.now c.as_slice-in-loop-at.result.now) v
    ∙ ap (λ f. load_of x f c.as_slice-in-loop-at.result.now (rank_in order at)) c.as_slice.ensures.value
    ∙ ap (λ f. load_of x flags f (rank_in order at)) c.as_slice-in-loop-at.ensures.value in
    let new : IsTold x (rank_in order at) c.load_one-load.result = subst (IsTold x (rank_in order at)) (sym is) next in
    let more = more_told count x c.args.classes.now.graph flags order c.requires.circular c.requires.order loads at c.load_one-load.result l c.loop-at.invariant.size new c.loop-at.invariant.told in
    record {
      size = length-set loads c.index-node.result.now c.load_one-load.result ∙ c.loop-at.invariant.size;
      told = subst (λ z. (k : ℕ) → k < at + 1 → IsTold x (rank_in order k) (load_at (set loads z c.load_one-load.result) (rank_in order k))) (sym v) more;
    }

pub returns-clause-loads : goal.returns-clause-loads
returns-clause-loads c =
    let x = indexed_of c.args.classes.now in
    let count = length c.args.classes.now.standing.now in
    let order = c.args.sorted.now.order.items in
    let told = all_told count x c.args.classes.now.graph c.args.sorted.now.circular.items order c.requires.circular c.requires.order c.loop-at.loads.items
    (λ k l. c.loop-at.invariant.told k (omega (arith, l, c.loop-at-test.false, c.loop-at.auto.at-end, c.len-at-end.ensures, c.args.sorted.now.order.ok.0))) in
    λ m i v l. told v l m i
