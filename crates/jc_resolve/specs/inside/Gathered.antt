-- Numbered classes, before it is known how they load.
use Rattle.std.specs.Prelude.{◌≡◌, ℕ, ◌<◌, [], List, map, length}
use Rattle.std.specs.List.{Contains}
use Rattle.jc_classes.specs.Names.{Name}
use Rattle.jc_classes.specs.Worlds.{supertypes_of}
use Rattle.jc_classes.specs.declared.standing.Standing.{Standing}
use Rattle.jc_numbered.specs.inside.Indexed.{Indexed, filled, indexed_name, standing_of}
use Rattle.std.specs.declared.vec.Vec.{Vec}
use Rattle.std.specs.declared.alloc.Global.{Global}

-- the names are distinct, and each node has the supertypes of its class
pub record IsGathered (count : ℕ) (x : Indexed) : Type 0 where
  pub names : length x.names ≡ count
  pub standing : length x.standing ≡ count
  pub once : (i j : ℕ) → i < length x.names → j < length x.names → indexed_name x i ≡ indexed_name x j → i ≡ j
  pub nodes : (a b : ℕ) → Contains (x.supertypes a) b → (a < count) × (b < count)
  pub supertypes : (i : ℕ) → i < length x.names → map (indexed_name x) (x.supertypes i) ≡ supertypes_of (standing_of x i)

-- these classes, before it is known how they load
abbrev pub bare : List Name → List Standing → List (Vec ℕ Global) → Indexed
bare names standing supertypes = filled names standing supertypes [] []
