-- Which report has the lists that iterators return.
use Rattle.std.specs.Prelude.{◌≡◌, ℕ, List, Option}
use Rattle.std.specs.Iterator.{AlwaysYields}
use Rattle.jc_text.specs.Sends.{Sends}
use Rattle.jc_text.specs.declared.text_writer.TextWriter.{TextWriter}
use Rattle.jc_report.specs.ClassLent.{class_lent}
use Rattle.jc_report.specs.FileRowView as lent
use Rattle.jc_report.specs.ReportText.{report_text}
use Rattle.jc_report.specs.Reports.{Report, circular_names}
use Rattle.jc_report.specs.RowView.{row_lent}
use Rattle.jc_report.specs.declared.file_row.FileRow.{FileRow}
use Rattle.jc_report.specs.declared.lent_class.LentClass.{LentClass}
use Rattle.jc_report.specs.declared.report_text.ReportLists.{ReportLists}
use Rattle.jc_report.specs.declared.row.Row.{Row}

-- The iterators return the lists of the report. The relations say what each iterator returns next.
pub record AreListsOf {F C P Q : Type 0} (next_file : F → Option FileRow → F → Type 0) (next_class : C → Option LentClass → C → Type 0)
    (next_provided : P → Option Row → P → Type 0) (next_required : Q → Option Row → Q → Type 0)
    (lists : ReportLists F C P Q) (r : Report) : Type 0 where
  pub files : AlwaysYields next_file lent.row_lent lists.files r.files
  pub classes : AlwaysYields next_class class_lent lists.classes r.classes
  -- the classes a second time, for the circular ones among them
  pub again : AlwaysYields next_class class_lent lists.again r.classes
  pub circular : r.circular ≡ circular_names r.classes
  pub provided : AlwaysYields next_provided row_lent lists.provided r.provided
  pub required : AlwaysYields next_required row_lent lists.required r.required

-- two iterators return the files and the classes of the report
pub record AreListedIn {F C : Type 0} (next_file : F → Option FileRow → F → Type 0) (next_class : C → Option LentClass → C → Type 0)
    (files : F) (classes : C) (r : Report) : Type 0 where
  pub by_path : AlwaysYields next_file lent.row_lent files r.files
  pub by_name : AlwaysYields next_class class_lent classes r.classes

-- the text of each report that is meant was passed to the writer. The functions return the bytes of its output and the
-- output's number of failures
abbrev pub SendsReport : {W : Type 0} (written : W → Option (List ℕ)) (failures : W → ℕ) (old new : TextWriter W)
    → (Report → Type 0) → Type 0
SendsReport written failures old new IsMeant = (r : Report) → IsMeant r → Sends written failures old new (report_text r)
