use Rattle.std.proofs.Common.{refl, ap, map as map_each, ◌∙◌, arith}
use Rattle.std.specs.FinMap as map
use Rattle.jc_report.specs.FileRowView as lent
use Rattle.jc_report.specs.Trees.{Tree}
use Rattle.jc_report.proofs.trees.RowsOfFiles.{none_made, one_made, all_made}
use Rattle.jc_report.proofs.report.fill_files.Goals as goal

pub loop-path-init : goal.loop-path-init
loop-path-init c = record {
  made = refl;
  asks = omega arith;
  rows = λ f h. none_made f c.args.tree.now _ _ h (ap (map_each lent.row_lent) c.in_ok-reserve_exact.ensures.items ∙ c.requires) (c.into_iter-path-iterator.ensures.into_iter_gives.0 ∙ ap (λ (t : Tree). map.entries t.outcomes) c.tree.view_is);
}

pub loop-path-preserved : goal.loop-path-preserved
loop-path-preserved c = record {
  made = c.state-state.ensures.made ∙ c.loop-path.invariant.made;
  asks = omega (arith, c.loop-path.invariant.asks, c.state-state.ensures.asks_rise);
  rows = λ f h. one_made f _ _ _ c.in-Some.outcome.now _ _ (c.loop-path.invariant.rows f h) c.in-Some.ensures.steps (λ bytes there named. c.state-state.ensures.state f bytes h there named) c.in_ok-push.ensures.items;
}

pub returns-clause-rows : goal.returns-clause-rows
returns-clause-rows c = λ f h. all_made f _ _ (c.loop-path.invariant.rows f h) c.in-None.ensures.steps.0
