-- The candidates among superinterface methods, and the choice among them.
use Rattle.std.specs.Prelude.{◌≡◌, ℕ, ◌<◌, Bool, false, not, ◌&&◌, List, Option, Some, None, is_some, cond}
use Rattle.std.specs.List.{Contains}
use Rattle.jc_classes.specs.Names.{name_less}
use Rattle.jc_file.specs.AccessFlags.{has, abstract}
use Rattle.jc_classes.specs.Facts.{Member, Key}
use Rattle.jc_classes.specs.MethodLookup.{given_by}
use Rattle.jc_classes.specs.Worlds.{is_interface}
use Rattle.jc_graph.specs.Seen.{flag_at, node_at}
use Rattle.jc_numbered.specs.inside.Indexed.{Indexed, indexed_name, standing_of}

abbrev pub gives : Indexed → Key → ℕ → Option Member
gives x k v = given_by (standing_of x v) k

abbrev pub is_interface_at : Indexed → ℕ → Bool
is_interface_at x v = is_interface (standing_of x v)

abbrev pub offers : Indexed → Key → ℕ → Bool
offers x k v = is_some (gives x k v)

abbrev pub is_concrete : Option Member → Bool
is_concrete None = false
is_concrete (Some y) = not (has y.flags abstract)

-- the method of the node is not ABSTRACT, and the node is not in `covered`, the supertypes of the candidates
abbrev pub is_pick : Indexed → Key → List Bool → ℕ → Bool
is_pick x k covered v = not (flag_at covered v) && is_concrete (gives x k v)

-- the node of a list whose name is least
pub record IsLowest (x : Indexed) (nodes : List ℕ) (v : ℕ) : Type 0 where
  pub listed : Contains nodes v
  pub least : (w : ℕ) → Contains nodes w → name_less (indexed_name x w) (indexed_name x v) ≡ false

abbrev pub TellsLowest : Indexed → List ℕ → Option ℕ → Type 0
TellsLowest x nodes None = (v : ℕ) → Contains nodes v → ⊥
TellsLowest x nodes (Some v) = IsLowest x nodes v

-- v is in the list, and no name of the first i nodes is less than that of v
pub record LowestSoFar (x : Indexed) (nodes : List ℕ) (v i : ℕ) : Type 0 where
  pub listed : Contains nodes v
  pub least : (j : ℕ) → j < i → name_less (indexed_name x (node_at nodes j)) (indexed_name x v) ≡ false

abbrev pub lesser : Indexed → ℕ → ℕ → ℕ
lesser x v w = cond (name_less (indexed_name x w) (indexed_name x v)) w v
