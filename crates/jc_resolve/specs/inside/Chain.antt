-- Look-up along the chain of superclasses.
use Rattle.std.specs.Prelude.{ℕ, Option}
use Rattle.jc_classes.specs.Worlds.{World, Found}
use Rattle.jc_classes.specs.Facts.{Key}
use Rattle.jc_classes.specs.MethodLookup.{FindsInClasses}
use Rattle.jc_numbered.specs.inside.Indexed.{Indexed, indexed_name, IsIndexed}

-- what look-up from the node `at` finds is what look-up from the node `start` finds
abbrev pub Leads : Indexed → Key → ℕ → ℕ → Type 0
Leads x k start at = (m : World) → IsIndexed m x → (a : Option Found)
    → FindsInClasses m k (indexed_name x at) a → FindsInClasses m k (indexed_name x start) a
