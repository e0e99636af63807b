use Rattle.std.proofs.Common.{IfSome, subst}
use Rattle.jc_classes.specs.Parts.{IsPart}
use Rattle.jc_report.specs.Reports.{world_of}
use Rattle.jc_edits.specs.SessionState.{SessionState}
use Rattle.jc_edits.specs.declared.session.Session.TheInside.{Inside}
use Rattle.jc_edits.proofs.placing.HeldClasses.{part_of_files}
use Rattle.jc_edits.proofs.session.Session.part.Goals as goal

pub returns-clause-part : goal.returns-clause-part
returns-clause-part c =
    let name = c.args.name.now in
    let part = c.part.result in
    subst (λ (s : SessionState). IfSome part (λ p. IsPart (world_of s.files s.prefixes) name p.now)) c.self.view_is
    (subst (λ (s : Inside). IfSome part (λ p. IsPart (world_of s.report.files s.report.prefixes) name p.now)) c.self-inside.view_is
    (part_of_files _ _ _ c.self-inside.invariant.classes name part c.part.ensures.part))
