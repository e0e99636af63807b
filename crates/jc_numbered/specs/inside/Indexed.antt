-- Classes with numbered names. A node is the number of a name.
use Rattle.std.specs.Prelude.{◌≡◌, ℕ, ◌<◌, ◌≤◌, Bool, true, List, ◌++◌, map, length, take, drop}
use Rattle.std.specs.Prelude.{Option, Some, None, slice_index_or, cond, is_some}
use Rattle.std.specs.List.{Contains}
use Rattle.std.specs.declared.vec.Vec.{Vec}
use Rattle.std.specs.declared.alloc.Global.{Global}
use Rattle.jc_classes.specs.Names.{Name}
use Rattle.jc_classes.specs.Numbers.{name_at}
use Rattle.jc_classes.specs.Worlds.{Stands, World, superclass_of, supertypes_of}
use Rattle.jc_classes.specs.Worlds.Stands.{Absent}
use Rattle.jc_classes.specs.Lent.{stands_of}
use Rattle.jc_classes.specs.declared.standing.Standing.{Standing}
use Rattle.jc_graph.specs.Graph.{successors_of}
use Rattle.jc_graph.specs.Seen.{flag_at}

pub record Indexed : Type 0 where
  pub names : List Name
  pub standing : List Stands
  pub supertypes : ℕ → List ℕ
  pub rank : List ℕ
  pub good : List Bool

-- the data of borrowed slices
abbrev pub filled : List Name → List Standing → List (Vec ℕ Global) → List ℕ → List Bool → Indexed
filled names standing supertypes rank good = record {
  names = names;
  standing = map stands_of standing;
  supertypes = successors_of supertypes;
  rank = rank;
  good = good;
}

abbrev pub indexed_name : Indexed → ℕ → Name
indexed_name x i = name_at x.names i

abbrev pub standing_of : Indexed → ℕ → Stands
standing_of x i = slice_index_or x.standing i Absent

abbrev pub rank_at : Indexed → ℕ → ℕ
rank_at x i = slice_index_or x.rank i 0

abbrev pub good_at : Indexed → ℕ → Bool
good_at x i = flag_at x.good i

-- the number of superclasses of a class: 0 or 1. They are before the interfaces in the list of supertypes
abbrev pub superclass_count : Stands → ℕ
superclass_count r = cond (is_some (superclass_of r)) 1 0

-- the superclass of a node, which is the first of its supertypes
abbrev pub superclass_at : Indexed → ℕ → Option ℕ
superclass_at x v = cond (is_some (superclass_of (standing_of x v))) (Some (slice_index_or (x.supertypes v) 0 0)) None

-- supertypes are nodes. A good node loads or is outside: its supertypes are good too, and have lower ranks
pub record IsGraph (count : ℕ) (x : Indexed) : Type 0 where
  pub names : length x.names ≡ count
  pub standing : length x.standing ≡ count
  pub good : length x.good ≡ count
  pub nodes : (a b : ℕ) → Contains (x.supertypes a) b → b < count
  pub begins : (a : ℕ) → superclass_count (standing_of x a) ≤ length (x.supertypes a)
  pub falls : (a b : ℕ) → good_at x a ≡ true → Contains (x.supertypes a) b → rank_at x b < rank_at x a
  pub stays : (a b : ℕ) → good_at x a ≡ true → Contains (x.supertypes a) b → good_at x b ≡ true

-- the world m agrees with x: in m each name is what x says, and it has the supertypes of its node
pub record IsIndexed (m : World) (x : Indexed) : Type 0 where
  pub once : (i j : ℕ) → i < length x.names → j < length x.names → indexed_name x i ≡ indexed_name x j → i ≡ j
  pub standing : (i : ℕ) → i < length x.names → m (indexed_name x i) ≡ standing_of x i
  pub supertypes : (i : ℕ) → i < length x.names → map (indexed_name x) (x.supertypes i) ≡ supertypes_of (standing_of x i)

-- where look-up of a field continues: the direct superinterfaces, then the superclass
abbrev pub onward_nodes : Indexed → ℕ → List ℕ
onward_nodes x i = drop (superclass_count (standing_of x i)) (x.supertypes i) ++ take (superclass_count (standing_of x i)) (x.supertypes i)
