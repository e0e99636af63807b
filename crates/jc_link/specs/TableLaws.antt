-- The laws of `laws.rt`: what a change of a table or of the outside prefixes does to the world.
use Rattle.std.specs.Prelude.{◌≡◌, Bool, false, cond, List, Option, None}
use Rattle.std.specs.FinMap as map
use Rattle.jc_classes.specs.Facts.{Facts}
use Rattle.jc_classes.specs.Laws.{Differ}
use Rattle.jc_classes.specs.Names.{Name, same_name}
use Rattle.jc_classes.specs.Parts.{Reach}
use Rattle.jc_link.specs.Prefixes.{is_covered}
use Rattle.jc_link.specs.Tables.{Places, class_at, class_found, world}

-- putting or removing a place changes the class of its own name, and of no other name
abbrev pub PlacesChange : Type 0
PlacesChange = (places : Places) (name : Name) (place : Option Facts) (n : Name)
    → (class_at (map.insert places name place) n ≡ cond (same_name n name) place (class_at places n))
    × (class_at (map.remove places name) n ≡ cond (same_name n name) None (class_at places n))

-- if two tables have the same classes at all untouched names, their worlds agree at these names
abbrev pub WorldsDiffer : Type 0
WorldsDiffer = (touched : Name → Bool) (old new : Places) (prefixes : List Name)
    → ((n : Name) → touched n ≡ false → class_at old n ≡ class_at new n)
    → Differ touched (world old prefixes) (world new prefixes)

-- the reach of a class does not depend on the outside prefixes
abbrev pub ReachStays : Type 0
ReachStays = (places : Places) (old new : List Name) (d n : Name) → Reach (world places old) d n → Reach (world places new) d n

-- if two lists of prefixes cover the same names among the untouched names without a class, their worlds agree at the
-- untouched names
abbrev pub PrefixesDiffer : Type 0
PrefixesDiffer = (touched : Name → Bool) (places : Places) (old new : List Name)
    → ((n : Name) → touched n ≡ false → class_found places n ≡ None → is_covered old n ≡ is_covered new n)
    → Differ touched (world places old) (world places new)
