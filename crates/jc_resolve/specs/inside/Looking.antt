-- Look-up of a field with a stack.
use Rattle.std.specs.Prelude.{◌≡◌, ℕ, ◌<◌, Bool, true, List, ◌++◌, map, length, Option, None}
use Rattle.std.specs.List.{All}
use Rattle.jc_classes.specs.Names.{Name}
use Rattle.jc_classes.specs.Worlds.{World, Found}
use Rattle.jc_classes.specs.Facts.{Key}
use Rattle.jc_classes.specs.FieldLookup.{FindsField, FindsFirst}
use Rattle.jc_graph.specs.Seen.{flag_at}
use Rattle.jc_numbered.specs.inside.Indexed.{Indexed, indexed_name, rank_at, good_at, IsIndexed}

abbrev pub names_at : Indexed → List ℕ → List Name
names_at x vs = map (indexed_name x) vs

-- look-up from a seen node finds nothing if look-up in `front` finds nothing. The nodes of `front` are on the stack and
-- have lower ranks
pub record Told (m : World) (k : Key) (x : Indexed) (stack : List ℕ) (v : ℕ) : Type 0 where
  pub front : List ℕ
  pub rest : List ℕ
  pub is : stack ≡ front ++ rest
  pub below : All (λ w. rank_at x w < rank_at x v) front
  pub nothing : FindsFirst m k (names_at x front) None → FindsField m k (indexed_name x v) None

-- look-up through the stack, with the front first, finds what look-up from `start` finds
pub record Looking (m : World) (k : Key) (x : Indexed) (start : ℕ) (stack : List ℕ) (flags : List Bool) : Type 0 where
  pub whole : (a : Option Found) → FindsFirst m k (names_at x stack) a → FindsField m k (indexed_name x start) a
  pub told : (v : ℕ) → flag_at flags v ≡ true → Told m k x stack v

-- the state of a look-up of a field; `todo` has the nodes that are left, in order
pub record Going (count : ℕ) (x : Indexed) (k : Key) (start : ℕ) (todo : List ℕ) (flags : List Bool) : Type 0 where
  pub nodes : All (λ v. v < count) todo
  pub good : All (λ v. good_at x v ≡ true) todo
  pub size : length flags ≡ count
  pub looking : (m : World) → IsIndexed m x → Looking m k x start todo flags
