use Rattle.std.proofs.Common.{sym, ap, ◌∙◌}
use Rattle.jc_report.specs.FileRows.{state_of}
use Rattle.jc_report.proofs.trees.FileStates.{state_kept}
use Rattle.jc_report.proofs.tree.Tree.state.Goals as goal

pub returns-in-Ok-clause-state : goal.returns-in-Ok-clause-state
returns-in-Ok-clause-state c = λ f bytes h there named.
    let name = c.in-Ok.name.now in
    let path = c.args.path.now in
    c.class_state.ensures.state ∙ state_kept f c.args.self.now path bytes name h there (sym named ∙ sym c.in-Ok.ensures) ∙ ap (state_of f path) c.in-Ok.ensures
