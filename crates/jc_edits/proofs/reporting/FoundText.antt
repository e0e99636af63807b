-- The text of the class that was found is that of its part.
use Rattle.std.proofs.Common.{◌≡◌, IfSome, List, Option, Some, None, option_map, refl, subst}
use Rattle.jc_classes.specs.Facts.{Facts}
use Rattle.jc_classes.specs.Names.{Name}
use Rattle.jc_classes.specs.Parts.{IsPart}
use Rattle.jc_report.specs.Files.{Files}
use Rattle.jc_report.specs.Reports.{facts_at, world_of}
use Rattle.jc_report.specs.declared.lent_class.LentClass.{LentClass}
use Rattle.jc_edits.specs.SaidPart.{SaysPart, SaysPartBy}
use Rattle.jc_edits.specs.inside.Reporting.{found_text}

pub says_found : (f : Files) (prefixes : List Name) (name : Name) (o : Option LentClass)
    → option_map (λ (c : LentClass). c.facts.now) o ≡ facts_at f name → IfSome o (λ c. IsPart (world_of f prefixes) name c.part.now)
    → SaysPart f prefixes name (found_text o)
says_found f prefixes name None facts part = subst (λ (c : Option Facts). SaysPartBy f prefixes name c (found_text None)) facts refl
says_found f prefixes name (Some c) facts part =
    subst (λ (o : Option Facts). SaysPartBy f prefixes name o (found_text (Some c))) facts (c.part.now, part, refl)
