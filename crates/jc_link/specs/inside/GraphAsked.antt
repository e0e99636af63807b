-- A class graph while it is built: definitions over the data of the Rust code.
use Rattle.std.specs.Prelude.{ℕ, ◌<◌, ◌≤◌, List, length, map, Option, Some}
use Rattle.std.specs.List.{All, Contains}
use Rattle.jc_classes.specs.Names.{Name}
use Rattle.jc_classes.specs.Numbers.{IsOnce, name_at}
use Rattle.jc_classes.specs.Worlds.{Stands, World, references_of}
use Rattle.jc_resolve.specs.Numbered.{NumberReferences}
use Rattle.jc_link.specs.declared.reached.Reached.{Reached}
use Rattle.jc_link.specs.inside.Gathering.{IsAsked, IsReached, supertypes_in, stands_in}
use Rattle.jc_link.specs.inside.GraphShown.{class_at, nodes_at}

-- the number of names that were looked up
abbrev pub asked_count : Reached → ℕ
asked_count r = length (stands_in r.standing.items)

-- `r` has, for each of the first names, what the name is and its direct supertypes; the others are not looked up yet
abbrev pub IsAskedBy : World → (names : List Name) → Reached → Type 0
IsAskedBy m names r = IsAsked m names (stands_in r.standing.items) (supertypes_in r.supertypes.items)

-- the next name was looked up: what it is and the numbers of its direct supertypes were appended
abbrev pub IsMore : (old_names : List Name) → (old : Reached) → Stands → (new_names : List Name) → (new : Reached) → Type 0
IsMore old_names old next new_names new =
    IsReached old_names (stands_in old.standing.items) (supertypes_in old.supertypes.items) next
    new_names (stands_in new.standing.items) (supertypes_in new.supertypes.items)

-- `classes` has the numbers of the classes, and no other names are numbered yet
pub record AreClasses (names : List Name) (classes : List ℕ) : Type 0 where
  pub once : IsOnce names
  pub within : All (λ v. v < length names) classes
  pub only : (i : ℕ) → i < length names → Contains (map (name_at names) classes) (name_at names i)

-- `references` has, for each of the first classes, the numbers of the classes that its references name in the world m
pub record AreReferredIn (m : World) (names : List Name) (classes : List ℕ) (references : List (List (Option ℕ))) : Type 0 where
  pub few : length references ≤ length classes
  pub named : (i : ℕ) → i < length references
      → NumberReferences names (nodes_at references i) (references_of (m (name_at names (class_at classes i))))
  pub within : (i v : ℕ) → i < length references → Contains (nodes_at references i) (Some v) → v < length names
