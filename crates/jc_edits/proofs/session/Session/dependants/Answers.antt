use Rattle.std.proofs.Common.{◌≡◌, true, subst}
use Rattle.jc_classes.specs.NameLists.{Lists}
use Rattle.jc_classes.specs.Names.{names_of}
use Rattle.jc_classes.specs.Parts.{Reach}
use Rattle.jc_report.specs.Reports.{world_of}
use Rattle.jc_edits.specs.SessionState.{SessionState}
use Rattle.jc_edits.specs.declared.session.Session.TheInside.{Inside}
use Rattle.jc_edits.specs.Touched.{gives}
use Rattle.jc_edits.proofs.placing.HeldClasses.{dependants_of_files}
use Rattle.jc_edits.proofs.session.Session.dependants.Goals as goal

pub returns : goal.returns
returns c =
    let name = c.args.name.now in
    let names = names_of c.dependants.result.now in
    subst (λ (s : SessionState). Lists names (λ d. (gives s.files d ≡ true) × Reach (world_of s.files s.prefixes) d name)) c.self.view_is
    (subst (λ (s : Inside). Lists names (λ d. (gives s.report.files d ≡ true) × Reach (world_of s.report.files s.report.prefixes) d name)) c.self-inside.view_is
    (dependants_of_files _ _ _ c.self-inside.invariant.classes name names c.dependants.ensures))
