-- The outside names among the supertypes of a class.
use Rattle.jc_classes.specs.Worlds.{Stands as stands}
use Rattle.std.specs.Prelude.{◌≡◌, ℕ, Bool, true, false, Option, Some, None}
use Rattle.jc_classes.specs.Names.{Name, name_less}
use Rattle.jc_classes.specs.Worlds.{World, Stands}
use Rattle.jc_classes.specs.Resolution.{IsOutsideAbove}
use Rattle.jc_numbered.specs.inside.Indexed.{Indexed, indexed_name, standing_of, IsIndexed}

abbrev pub is_outside : Stands → Bool
is_outside (stands.Class r) = false
is_outside stands.Outside = true
is_outside stands.Absent = false

-- whether a node is outside
abbrev pub lies_outside : Indexed → ℕ → Bool
lies_outside x v = is_outside (standing_of x v)

-- the least outside name among the transitive supertypes of a class
abbrev pub TellsOutside : World → Indexed → Name → Option ℕ → Type 0
TellsOutside m x c None = (j : Name) → IsOutsideAbove m c j → ⊥
TellsOutside m x c (Some v) =
    IsOutsideAbove m c (indexed_name x v) × ((j : Name) → IsOutsideAbove m c j → name_less j (indexed_name x v) ≡ false)

-- this for a node, in every world that agrees with x
abbrev pub TellsOutsideAbove : Indexed → ℕ → Option ℕ → Type 0
TellsOutsideAbove x start r = (m : World) → IsIndexed m x → TellsOutside m x (indexed_name x start) r
