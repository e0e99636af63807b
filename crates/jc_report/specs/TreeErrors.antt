-- A report with what is not part of it: the errors of inheritance of its classes, and the methods for which they have no
-- body.
use Rattle.std.specs.Prelude.{Bool, ◌||◌, not, ◌==◌, length, List, [], ◌∷◌, map}
use Rattle.jc_classes.specs.Inheritance.{InheritanceErrors, Inherited, IsInheritance}
use Rattle.jc_classes.specs.Names.{Name}
use Rattle.jc_classes.specs.Selection.{EachUnimplemented}
use Rattle.jc_classes.specs.Worlds.{World}
use Rattle.jc_report.specs.Files.{Files}
use Rattle.jc_report.specs.Reports.{Class, IsReport, Report, name_of, world_of}

pub record TreeErrors : Type 0 where
  pub report : Report
  -- the errors of each class, in the order of the classes
  pub inheritance : List InheritanceErrors
  -- the ABSTRACT methods for which each class has no body, in the order of the classes
  pub unimplemented : List (List Inherited)

-- the lists are equally long, and each class has the errors of inheritance that are at its place in the other list
abbrev pub AreInheritances : World → List Class → List InheritanceErrors → Type 0
AreInheritances m [] [] = Unit {0}
AreInheritances m (c ∷ cs) (e ∷ es) = IsInheritance m (name_of c) e × AreInheritances m cs es
AreInheritances m [] (e ∷ es) = ⊥
AreInheritances m (c ∷ cs) [] = ⊥

pub record IsTreeErrors (f : Files) (prefixes : List Name) (e : TreeErrors) : Type 0 where
  pub report : IsReport f prefixes e.report
  pub inheritance : AreInheritances (world_of f prefixes) e.report.classes e.inheritance
  pub unimplemented : EachUnimplemented (world_of f prefixes) (map name_of e.report.classes) e.unimplemented

-- the class has an error of inheritance, or no body for one of these methods
abbrev pub is_any : InheritanceErrors → List Inherited → Bool
is_any e methods = e.extends_final || not (length e.overridden == 0) || not (length methods == 0)
