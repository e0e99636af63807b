-- What look-up from a node finds, in every world that agrees with the nodes.
use Rattle.std.specs.Prelude.{◌≡◌, ℕ, ◌<◌, List, [], ◌∷◌, Option, option_map}
use Rattle.std.specs.List.{filter}
use Rattle.jc_classes.specs.Facts.{Key}
use Rattle.jc_classes.specs.FieldLookup.{FindsField}
use Rattle.jc_classes.specs.MethodLookup.{FindsAbove, FindsInClasses, FindsInterfaceMethod, FindsMethod}
use Rattle.jc_classes.specs.Worlds.{World}
use Rattle.jc_graph.specs.declared.seen.Seen.{Seen}
use Rattle.jc_numbered.specs.declared.classes.FoundMember.{FoundMember}
use Rattle.jc_numbered.specs.inside.Above.{SeesAbove}
use Rattle.jc_numbered.specs.inside.Indexed.{Indexed, indexed_name, IsIndexed}
use Rattle.jc_numbered.specs.inside.Picks.{offers}
use Rattle.jc_numbered.specs.inside.Shown.{found_at}

abbrev pub TellsField : Indexed → Key → ℕ → Option FoundMember → Type 0
TellsField x k start hit = (m : World) → IsIndexed m x → FindsField m k (indexed_name x start) (option_map (found_at x) hit)

-- the method that look-up finds in the class and its superclasses
abbrev pub TellsInClasses : Indexed → Key → ℕ → Option FoundMember → Type 0
TellsInClasses x k start hit = (m : World) → IsIndexed m x → FindsInClasses m k (indexed_name x start) (option_map (found_at x) hit)

-- the method that look-up finds in the superinterfaces of the class
abbrev pub TellsInInterfaces : Indexed → Key → ℕ → Option FoundMember → Type 0
TellsInInterfaces x k start hit = (m : World) → IsIndexed m x → FindsAbove m k (indexed_name x start) (option_map (found_at x) hit)

-- this for each class, if these nodes are the transitive supertypes that offer such a method
abbrev pub TellsChosen : ℕ → Indexed → Key → List ℕ → Option FoundMember → Type 0
TellsChosen count x k nodes hit = (start : ℕ) (seen : Seen) → start < count → SeesAbove count x (start ∷ []) seen
    → nodes ≡ filter (offers x k) seen.list → TellsInInterfaces x k start hit

abbrev pub TellsMethod : Indexed → Key → ℕ → Option FoundMember → Type 0
TellsMethod x k start hit = (m : World) → IsIndexed m x → FindsMethod m k (indexed_name x start) (option_map (found_at x) hit)

abbrev pub TellsInterfaceMethod : Indexed → Key → ℕ → Option FoundMember → Type 0
TellsInterfaceMethod x k start hit = (m : World) → IsIndexed m x
    → FindsInterfaceMethod m k (indexed_name x start) (option_map (found_at x) hit)
