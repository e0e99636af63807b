-- What a session returns of its report.
use Rattle.std.specs.Prelude.{◌≡◌, ℕ, true, slice_get}
use Rattle.jc_classes.specs.Names.{Name}
use Rattle.jc_classes.specs.Parts.{Reach}
use Rattle.jc_linkage.specs.Holders.{CountsHolders}
use Rattle.jc_report.specs.Reports.{IsReport, Report, world_of}
use Rattle.jc_edits.specs.SessionState.{Contents}
use Rattle.jc_edits.specs.Touched.{gives}

-- the report of these files and outside prefixes
abbrev pub IsReportOf : Contents → Report → Type 0
IsReportOf h r = IsReport h.files h.prefixes r

-- n is the number of classes that require the row at this place of the required rows, and 0 if there is no such row
abbrev pub CountsHoldersAt : Contents → (place n : ℕ) → Type 0
CountsHoldersAt h place n = (r : Report) → IsReportOf h r → CountsHolders r.classes (slice_get r.required place) n

-- the files have the class, and its reach has the name
abbrev pub IsDependant : Contents → (name class : Name) → Type 0
IsDependant h name class = (gives h.files class ≡ true) × Reach (world_of h.files h.prefixes) class name
