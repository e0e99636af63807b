-- The class is held, and what is held is of the files.
use Rattle.std.proofs.Common.{◌≡◌, ◌∙◌, IfSome, Option, Some, None, ap, is_some, option_map, refl, subst}
use Rattle.jc_classes.specs.Parts.{IsPart}
use Rattle.jc_classes.specs.Worlds.{World}
use Rattle.jc_report.specs.Reports.{facts_at, world_of}
use Rattle.jc_report.specs.declared.lent_class.LentClass.{LentClass}
use Rattle.jc_edits.specs.SessionState.{Contents}
use Rattle.jc_edits.proofs.reporting.HeldReport.{worlds}
use Rattle.jc_edits.proofs.report.Report.class.Goals as goal

is_lent : (o : Option LentClass) → is_some o ≡ is_some (option_map (λ (c : LentClass). c.facts.now) o)
is_lent None = refl
is_lent (Some c) = refl

pub returns-clause-given : goal.returns-clause-given
returns-clause-given c =
    let name = c.args.name.now in
    is_lent c.class.result
    ∙ ap is_some (c.class.ensures.facts ∙ c.self.invariant.classes name ∙ ap (λ (s : Contents). facts_at s.files name) c.self.view_is)

pub returns-clause-facts : goal.returns-clause-facts
returns-clause-facts c =
    let name = c.args.name.now in
    c.class.ensures.facts ∙ c.self.invariant.classes name ∙ ap (λ (s : Contents). facts_at s.files name) c.self.view_is

pub returns-clause-part : goal.returns-clause-part
returns-clause-part c =
    let name = c.args.name.now in
    let inside = c.self.inside in
    let found = c.class.result in
    subst (λ (s : Contents). IfSome found (λ (x : LentClass). IsPart (world_of s.files s.prefixes) name x.part.now)) c.self.view_is
    (subst (λ (m : World). IfSome found (λ (x : LentClass). IsPart m name x.part.now)) (worlds inside.held.files inside.linkage c.self.invariant.classes) c.class.ensures.part)
