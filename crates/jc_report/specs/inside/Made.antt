-- The classes of a table, made one after another.
use Rattle.std.specs.Prelude.{◌≡◌, List, [], ◌∷◌, ◌++◌, map}
use Rattle.std.specs.List.{Contains}
use Rattle.jc_classes.specs.Facts.{Facts}
use Rattle.jc_classes.specs.Names.{Name}
use Rattle.jc_classes.specs.Parts.{IsPart}
use Rattle.jc_link.specs.Tables.{Places, classes_of, world}
use Rattle.jc_report.specs.Reports.{Class, name_of}

-- the first classes of a table are made, and the others are left
abbrev pub IsSplit : Places → List Class → List Facts → Type 0
IsSplit places made left = map (λ (c : Class). c.facts) made ++ left ≡ classes_of places

-- each class has its part
abbrev pub HaveParts : Places → List Name → List Class → Type 0
HaveParts places prefixes made = (c : Class) → Contains made c → IsPart (world places prefixes) (name_of c) c.part

-- all classes of the table are made
abbrev pub AreMadeOf : Places → List Name → List Class → Type 0
AreMadeOf places prefixes made = IsSplit places made [] × HaveParts places prefixes made
