-- The invariant of a session's report.
use Rattle.std.specs.Prelude.{◌≡◌, ℕ, List, Option, Some, None, codes}
use Rattle.jc_classes.specs.Names.{Name}
use Rattle.jc_link.specs.Tables.{class_at}
use Rattle.jc_report.specs.PartText.{part_text}
use Rattle.jc_report.specs.Reports.{facts_at}
use Rattle.jc_report.specs.declared.lent_class.LentClass.{LentClass}
use Rattle.jc_edits.specs.declared.report.Report.TheInside.{Inside}
use Rattle.jc_edits.specs.inside.Claims.{AreClaims}

-- the claims and the classes are those of the files
pub record IsWhole (a : Inside) : Type 0 where
  pub claims : AreClaims a.held.claims a.held.files
  pub classes : (name : Name) → class_at a.linkage.classes name ≡ facts_at a.held.files name

abbrev pub found_text : Option LentClass → List ℕ
found_text None = codes "none\n"
found_text (Some c) = part_text c.facts.now c.part.now
