-- The text of a report.
use Rattle.std.specs.Prelude.{ℕ, List, ◌++◌, codes}
use Rattle.std.specs.List.{flat_map}
use Rattle.jc_text.specs.Escapes.{shown}
use Rattle.jc_classes.specs.Names.{Name}
use Rattle.jc_report.specs.FileRowText.{row_text as file_row_text}
use Rattle.jc_report.specs.PartText.{kind_text, named_text, part_text}
use Rattle.jc_report.specs.Reports.{Class, Report}
use Rattle.jc_report.specs.Rows.{Row}

abbrev pub class_text : Class → List ℕ
class_text c = part_text c.facts c.part

abbrev pub name_line : Name → List ℕ
name_line name = shown name ++ codes "\n"

abbrev pub row_line : Row → List ℕ
row_line row = kind_text row.kind ++ codes " " ++ named_text row.kind row.class row.key ++ codes "\n"

unfoldable pub report_text : Report → List ℕ
report_text r =
    codes "[files]\n" ++ flat_map file_row_text r.files
    ++ codes "[parts]\n" ++ flat_map class_text r.classes
    ++ codes "[circular]\n" ++ flat_map name_line r.circular
    ++ codes "[provided]\n" ++ flat_map row_line r.provided
    ++ codes "[required]\n" ++ flat_map row_line r.required
