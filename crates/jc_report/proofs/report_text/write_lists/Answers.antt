use Rattle.std.proofs.Common.{ap, sym}
use Rattle.std.specs.List.{flat_map}
use Rattle.jc_text.proofs.Sending.{◌⟫◌, sends_equal}
use Rattle.jc_report.specs.ReportText.{name_line, report_text}
use Rattle.jc_report.proofs.report_text.write_lists.Goals as goal

pub returns : goal.returns
unfolding report_text
returns g c r is =
    c.text.ensures ⟫ c.write_files.ensures r.files is.files
    ⟫ c.text-2.ensures ⟫ c.write_classes.ensures r.classes is.classes
    ⟫ c.text-3.ensures ⟫ sends_equal (sym (ap (flat_map name_line) is.circular)) (c.write_circular.ensures r.classes is.again)
    ⟫ c.text-4.ensures ⟫ c.write_rows.ensures r.provided is.provided
    ⟫ c.text-5.ensures ⟫ c.write_rows-2.ensures r.required is.required
