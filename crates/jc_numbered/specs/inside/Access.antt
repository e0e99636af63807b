-- Access among numbered classes.
use Rattle.std.specs.Prelude.{◌≡◌, ◌⊎◌, ℕ, ◌<◌, ◌||◌, Bool, true, Option}
use Rattle.std.specs.Bool.{Decides}
use Rattle.jc_classes.specs.Names.{package_of, Name, same_name}
use Rattle.jc_file.specs.AccessFlags.{has, public, protected, private, static}
use Rattle.jc_classes.specs.Worlds.{World, Found, is_array}
use Rattle.jc_classes.specs.Facts.{Named}
use Rattle.jc_classes.specs.Facts.Named.{Class, Array}
use Rattle.jc_classes.specs.Access.{CanUse, IsWithin, IsRelated, is_package_private, is_array_clone}
use Rattle.jc_numbered.specs.inside.Indexed.{Indexed, indexed_name, good_at, IsIndexed}
use Rattle.jc_numbered.specs.inside.Shown.{found_at}
use Rattle.jc_numbered.specs.declared.access.AccessTarget.{AccessTarget}
use Rattle.jc_numbered.specs.declared.access.AccessTarget.TheVariants as target
use Rattle.jc_numbered.specs.declared.classes.FoundMember.{FoundMember}

-- what a reference names; an array is given by its text and its innermost class
abbrev pub named_at : Indexed → AccessTarget → Name → Option Name → Named
named_at x (target.Class t) text e = Class (indexed_name x t)
named_at x target.Array text e = Array text e

abbrev pub IsTarget : ℕ → Indexed → AccessTarget → Type 0
IsTarget count x (target.Class t) = (t < count) × (good_at x t ≡ true)
IsTarget count x target.Array = Unit {0}

-- the first case of access: the member is PUBLIC, or it is `clone` of an array
abbrev pub is_open_to_all : Named → Found → Bool
is_open_to_all t f = has f.member.flags public || is_array_clone (is_array t) f

-- the second case: the member is PROTECTED, and the class inherits it
abbrev pub IsInherited : World → Name → Named → Found → Type 0
IsInherited m d t f =
    (has f.member.flags protected ≡ true) × IsWithin m d f.home × ((has f.member.flags static ≡ true) ⊎ IsRelated m t d)

-- the third case: the member is PROTECTED or package-private, and the class is in the package of the member's class
abbrev pub IsInPackage : Name → Found → Type 0
IsInPackage d f =
    ((has f.member.flags protected || is_package_private f.member) ≡ true) × (same_name (package_of d) (package_of f.home) ≡ true)

-- the fourth case: the member is PRIVATE, and the class declares it
abbrev pub IsOwn : Name → Found → Type 0
IsOwn d f = (has f.member.flags private ≡ true) × (f.home ≡ d)

-- ---- facts about nodes, in every world that agrees with x

-- whether a class is another or a subclass of it
abbrev pub TellsWithin : Indexed → ℕ → ℕ → Bool → Type 0
TellsWithin x v w b = (m : World) → IsIndexed m x → Decides b (IsWithin m (indexed_name x v) (indexed_name x w))

-- whether the reference names the class, a subclass of it or a superclass of it
abbrev pub TellsRelated : Indexed → AccessTarget → ℕ → Bool → Type 0
TellsRelated x t d b = (m : World) (text : Name) (e : Option Name) → IsIndexed m x
    → Decides b (IsRelated m (named_at x t text e) (indexed_name x d))

-- the cases of access, by what the reference names and what look-up found
abbrev pub TellsOpen : Indexed → AccessTarget → FoundMember → Bool → Type 0
TellsOpen x t hit b = (text : Name) (e : Option Name) → b ≡ is_open_to_all (named_at x t text e) (found_at x hit)

abbrev pub TellsInherited : Indexed → ℕ → AccessTarget → FoundMember → Bool → Type 0
TellsInherited x d t hit b = (m : World) (text : Name) (e : Option Name) → IsIndexed m x
    → Decides b (IsInherited m (indexed_name x d) (named_at x t text e) (found_at x hit))

abbrev pub TellsOwn : Indexed → ℕ → FoundMember → Bool → Type 0
TellsOwn x d hit b = (m : World) → IsIndexed m x → Decides b (IsOwn (indexed_name x d) (found_at x hit))

-- whether the class may use the member
abbrev pub TellsCanUse : Indexed → ℕ → AccessTarget → FoundMember → Bool → Type 0
TellsCanUse x d t hit b = (m : World) (text : Name) (e : Option Name) → IsIndexed m x
    → Decides b (CanUse m (indexed_name x d) (named_at x t text e) (found_at x hit))
