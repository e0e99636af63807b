-- The names that become outside or stop being outside when the outside prefixes change.
use Rattle.std.specs.Prelude.{Bool, ◌&&◌, not, List, is_some}
use Rattle.jc_classes.specs.Loading.{same_bool}
use Rattle.jc_classes.specs.Names.{Name}
use Rattle.jc_link.specs.Prefixes.{is_covered}
use Rattle.jc_link.specs.Tables.{Places, class_found}

-- the name has no class, and begins with a prefix of exactly one of the two lists
abbrev pub switches : Places → (old new : List Name) → Name → Bool
switches places old new n = not (is_some (class_found places n)) && not (same_bool (is_covered old n) (is_covered new n))
