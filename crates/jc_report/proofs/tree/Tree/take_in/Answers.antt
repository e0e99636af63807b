use Rattle.std.proofs.Common.{◌≡◌, false, ap, sym, ◌∙◌}
use Rattle.std.specs.FinMap as map
use Rattle.jc_report.specs.Trees.{Outcomes, Tree}
use Rattle.jc_report.proofs.trees.OneMoreFile.{more_files}
use Rattle.jc_report.proofs.tree.Tree.take_in.Goals as goal

pub returns-clause-ok : goal.returns-clause-ok
returns-clause-ok c = λ f h.
    let path = c.args.path.now in
    let named = c.in_ok-outcome.outcome in
    let absent : map.contains_key f path ≡ false = sym (c.contains.ensures f h) ∙ c.if-contains.false in
    let outcomes = ap (λ (t : Tree). t.outcomes) c.self.view_is ∙ c.in_ok-outcome.ensures.outcomes in (
      absent,
      more_files f c.args.self.now _ path c.args.bytes.now named h absent c.in_ok-outcome.ensures.outcome
          (c.in_ok-insert.ensures.ok ∙ ap (λ p. map.insert c.self.inside.outcomes p named) c.in_ok-path.ensures.items ∙ ap (λ (o : Outcomes). map.insert o path named) outcomes)
          (ap (λ (t : Tree). t.classes) c.self.view_is ∙ c.in_ok-outcome.ensures.classes),
    )
