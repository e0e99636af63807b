use Rattle.std.proofs.Common.{List, Ok, Err, ap, subst}
use Rattle.jc_classes.specs.Names.{Name}
use Rattle.jc_edits.specs.SessionState.{contents_of}
use Rattle.jc_report.specs.Files.{Files}
use Rattle.jc_report.specs.Reports.{IsReport}
use Rattle.jc_session.proofs.endings.FailuresCounted.{input_counts, output_counts}
use Rattle.jc_session.proofs.command_line.run_through.Goals as goal

pub returns-in-Ok-clause-runs : goal.returns-in-Ok-clause-runs
returns-in-Ok-clause-runs g c =
    let new = c.run.new.session in
    let wrong = c.wrong.ensures in
    let is : IsReport new.files new.prefixes wrong.0 =
    subst (λ (p : List Name). IsReport new.files p wrong.0) c.report.ensures.prefixes
    (subst (λ (x : Files). IsReport x c.report.result.now.prefixes wrong.0) c.report.ensures.files wrong.1) in (
      Ok c.in-Ok.field-0,
      contents_of new,
      (wrong.0, is, ap Ok wrong.2),
      c.in-Ok.ensures.runs,
      c.in-Ok.ensures.by_answers,
    )

pub returns-in-Err-clause-runs : goal.returns-in-Err-clause-runs
returns-in-Err-clause-runs g c = (Err c.in-Err.error, contents_of c.run.new.session, ap Err c.from.ensures, c.in-Err.ensures.runs, c.in-Err.ensures.by_answers)

pub returns-in-Err-clause-reads : goal.returns-in-Err-clause-reads
returns-in-Err-clause-reads g c = rw c.from.ensures (input_counts c.in-Err.error _ _ c.in-Err.ensures.reads)

pub returns-in-Err-clause-writes : goal.returns-in-Err-clause-writes
returns-in-Err-clause-writes g c = rw c.from.ensures (output_counts c.in-Err.error _ _ c.in-Err.ensures.writes)
