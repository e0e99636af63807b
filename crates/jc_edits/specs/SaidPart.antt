-- The text of one class.
use Rattle.std.specs.Prelude.{◌≡◌, ℕ, List, Option, Some, None, codes}
use Rattle.jc_classes.specs.Facts.{Facts}
use Rattle.jc_classes.specs.Names.{Name}
use Rattle.jc_classes.specs.Parts as parts
use Rattle.jc_classes.specs.Parts.{IsPart}
use Rattle.jc_report.specs.Files.{Files}
use Rattle.jc_report.specs.PartText.{part_text}
use Rattle.jc_report.specs.Reports.{facts_at, world_of}

abbrev pub SaysPartBy : Files → List Name → Name → Option Facts → List ℕ → Type 0
SaysPartBy f prefixes name None text = text ≡ codes "none\n"
SaysPartBy f prefixes name (Some facts) text = (p : parts.Part) × IsPart (world_of f prefixes) name p × (text ≡ part_text facts p)

-- the text of the part of a class, or `none` if no file has the class
abbrev pub SaysPart : Files → List Name → Name → List ℕ → Type 0
SaysPart f prefixes name text = SaysPartBy f prefixes name (facts_at f name) text
