use Rattle.std.proofs.Common.{◌∙◌, sym}
use Rattle.jc_linkage.proofs.held.Classes.{none_kept}
use Rattle.jc_linkage.proofs.classes.HeldClassesIterator.next.Goals as goal

pub returns-in_err-kept-clause-steps : goal.returns-in_err-kept-clause-steps
returns-in_err-kept-clause-steps c =
    let before = none_kept c.self.inside.classes c.self.inside.kept c.in_err-kept.ensures.steps.0 in
    let behind = none_kept c.next.new.self c.next-2.new.self c.in_err-kept.ensures.steps.1 in
    rw c.from_residual-in_err-kept.ensures (sym c.self.view_is ∙ before, behind)
