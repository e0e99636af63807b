use Rattle.std.proofs.Common.{ap, ◌∙◌}
use Rattle.std.specs.FinMap as map
use Rattle.jc_report.specs.Trees.{Tree}
use Rattle.jc_report.proofs.trees.NamedOutcomes.{same_paths}
use Rattle.jc_report.proofs.tree.Tree.contains.Goals as goal

pub returns : goal.returns
returns c = λ f h. c.contains_key.ensures ∙ ap (λ (t : Tree). map.contains_key t.outcomes c.args.path.now) c.self.view_is ∙ same_paths f c.args.self.now h c.args.path.now
