use Rattle.std.proofs.Common.{◌≡◌, ◌∙◌, ap, subst}
use Rattle.std.specs.Prelude.{OnOk}
use Rattle.std.proofs.lemmas.Result.{on_ok_weaker}
use Rattle.jc_classes.specs.Names.{Name}
use Rattle.jc_link.specs.Tables.{class_at}
use Rattle.jc_report.specs.Reports.{facts_at}
use Rattle.jc_edits.specs.SessionState.{Contents}
use Rattle.jc_edits.specs.inside.Metered.{MetersChange}
use Rattle.jc_edits.proofs.placing.HeldClasses.{change_of_files}
use Rattle.jc_edits.proofs.report.Report.make_prefix.Goals as goal

pub returns-clause-counted : goal.returns-clause-counted
returns-clause-counted c =
    let f = c.self.inside.held.files in
    let before = c.args.meter.now in
    let behind = c.change_outside.new.meter in
    let linkage = c.change_outside.new.self in
    let classes : (n : Name) → class_at linkage.classes n ≡ facts_at f n = λ n. ap (λ p. class_at p n) c.change_outside.ensures.classes ∙ c.self.invariant.classes n in
    let new : Contents = record { files = f; prefixes = linkage.prefixes } in
    subst (λ (a : Contents). OnOk c.change_outside.result (MetersChange a new before behind)) c.self.view_is
    (on_ok_weaker c.change_outside.result (change_of_files c.self.inside.linkage linkage f f c.self.invariant.classes classes before behind) c.change_outside.ensures.counted)
