-- How a node loads, as the code computes it.
use Rattle.std.specs.Prelude.{◌≡◌, ℕ, ◌<◌, ◌≤◌, Bool, true, false, cond, is_some, List, length, slice_index_or}
use Rattle.jc_classes.specs.Facts.{is_faulty}
use Rattle.jc_classes.specs.Worlds.{World, Stands, superclass_of}
use Rattle.jc_classes.specs.Worlds.{Stands as stands}
use Rattle.jc_classes.specs.Loading as defs
use Rattle.jc_classes.specs.declared.linkage_error.LinkageError.TheVariants as fault
use Rattle.jc_numbered.specs.declared.loads.Load.{Load}
use Rattle.jc_numbered.specs.declared.loads.Load.TheVariants.{Loaded, Outside, Fails}
use Rattle.jc_numbered.specs.inside.Indexed.{Indexed, indexed_name, standing_of, IsIndexed}
use Rattle.jc_graph.specs.Graph.{IsOrder}
use Rattle.jc_graph.specs.declared.sorting.Sorted.{Sorted}
use Rattle.jc_numbered.specs.inside.Loading.{judged_each}
use Rattle.jc_resolve.specs.inside.Resolved.{loading_of}

abbrev pub load_by : Stands → Bool → ℕ → Load → Load
load_by stands.Absent flag v each = Fails fault.NoClass v
load_by stands.Outside flag v each = Outside
load_by (stands.Class r) flag v each = cond (is_faulty r) (Fails fault.Format v) (cond flag (Fails fault.Circular v) each)

abbrev pub has_superclass : Stands → Bool
has_superclass s = is_some (superclass_of s)

abbrev pub load_of : Indexed → List Bool → List Load → ℕ → Load
load_of x flags loads v =
    load_by (standing_of x v) (slice_index_or flags v false) v (judged_each x loads v (has_superclass (standing_of x v)) (x.supertypes v))

-- the name of the node loads as `a` says, in every world that agrees with x
abbrev pub IsTold : Indexed → ℕ → Load → Type 0
IsTold x v a = (m : World) → IsIndexed m x → defs.Load m (indexed_name x v) (loading_of x a)

abbrev pub is_good : Load → Bool
is_good Loaded = true
is_good Outside = true
is_good (Fails f v) = false

-- an order of the nodes in which each is after its supertypes, unless it is circular
abbrev pub IsSorted : ℕ → Indexed → Sorted → Type 0
IsSorted count x s = IsOrder x.supertypes count s.circular.items s.order.items

abbrev pub rank_in : List ℕ → ℕ → ℕ
rank_in ranks v = slice_index_or ranks v 0

-- the first place of each node in the order
pub record TellsRank (count : ℕ) (order ranks : List ℕ) : Type 0 where
  pub size : length ranks ≡ count
  pub places : (j : ℕ) → j < length order
      → (rank_in ranks (rank_in order j) ≤ j) × (rank_in order (rank_in ranks (rank_in order j)) ≡ rank_in order j)
