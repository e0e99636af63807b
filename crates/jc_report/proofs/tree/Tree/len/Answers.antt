use Rattle.std.proofs.Common.{ap, ◌∙◌}
use Rattle.std.specs.FinMap as map
use Rattle.jc_report.specs.Trees.{Tree}
use Rattle.jc_report.proofs.trees.NamedOutcomes.{count_outcomes}
use Rattle.jc_report.proofs.tree.Tree.len.Goals as goal

pub returns : goal.returns
returns c = λ f h. c.len.ensures.len ∙ ap (λ (t : Tree). map.len t.outcomes) c.self.view_is ∙ count_outcomes f c.args.self.now h
