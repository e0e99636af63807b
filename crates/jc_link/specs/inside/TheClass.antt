-- What a hierarchy says of a class.
use Rattle.std.specs.Bool.{Decides}
use Rattle.std.specs.Prelude.{Bool, ℕ}
use Rattle.jc_classes.specs.Numbers.{name_at}
use Rattle.jc_classes.specs.Worlds.{Above, World}
use Rattle.jc_resolve.specs.Numbered.{Agrees, Numbered}

-- whether the class is one of its own transitive supertypes
abbrev pub TellsCircular : Numbered → ℕ → Bool → Type 0
TellsCircular h class circular = (m : World) → Agrees m h → Decides circular (Above m (name_at h.names class) (name_at h.names class))
