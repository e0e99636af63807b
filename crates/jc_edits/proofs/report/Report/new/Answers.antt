use Rattle.std.proofs.Common.{ap, refl, sym, ◌∙◌}
use Rattle.std.specs.FinMap as fin
use Rattle.jc_linkage.specs.Linkages.{Linkage}
use Rattle.jc_link.specs.Tables.{class_at}
use Rattle.jc_report.specs.Files.{Files}
use Rattle.jc_report.specs.Reports.{facts_at}
use Rattle.jc_report.proofs.trees.OneMoreFile.{no_files}
use Rattle.jc_edits.proofs.report.Report.new.Goals as goal

pub invariant_of-result : goal.invariant_of-result
invariant_of-result c = record {
  claims = c.new-held.ensures.claims;
  classes = λ name. ap (λ (a : Linkage). class_at a.classes name) c.in_ok-linkage.ensures.held
      ∙ (no_files (record { outcomes = fin.empty; classes = fin.empty }) refl refl).classes name
      ∙ ap (λ (f : Files). facts_at f name) (sym c.new-held.ensures.files);
}
