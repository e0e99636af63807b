-- Borrowed classes.
use Rattle.std.specs.Prelude.{List, [], ◌∷◌}
use Rattle.jc_classes.specs.Facts.{Facts}
use Rattle.jc_classes.specs.Names.{Name}
use Rattle.jc_report.specs.Reports as reports
use Rattle.jc_linkage.specs.declared.class_entry.ClassEntry.{ClassEntry}

-- classes with the parts of their entries, in order
abbrev pub with_parts : List Facts → List (Name × ClassEntry) → List reports.Class
with_parts [] kept = []
with_parts (f ∷ fs) [] = []
with_parts (f ∷ fs) (k ∷ ks) = record { facts = f; part = k.1.part } ∷ with_parts fs ks
