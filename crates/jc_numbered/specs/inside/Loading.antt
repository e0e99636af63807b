-- How a node loads by its supertypes, as the code computes it.
use Rattle.std.specs.Prelude.{ℕ, Bool, false, cond, List, [], ◌∷◌, Option, Some, None, slice_index_or}
use Rattle.jc_classes.specs.Worlds.{is_interface}
use Rattle.jc_classes.specs.Loading.{can_see, same_bool}
use Rattle.jc_classes.specs.declared.linkage_error.LinkageError.TheVariants as fault
use Rattle.jc_numbered.specs.declared.loads.Load.{Load}
use Rattle.jc_numbered.specs.declared.loads.Load.TheVariants.{Loaded, Outside, Fails}
use Rattle.jc_numbered.specs.inside.Indexed.{Indexed, indexed_name, standing_of}

-- how a node loads, by the list
abbrev pub load_at : List Load → ℕ → Load
load_at loads v = slice_index_or loads v (Fails fault.NoClass 0)

-- the class of s is accessible to the class of v
abbrev pub sees : Indexed → ℕ → ℕ → Bool
sees x v s = can_see (indexed_name x v) (indexed_name x s) (standing_of x s)

-- the node is an interface where a class is required, or a class where an interface is required
abbrev pub is_wrong_kind : Indexed → Bool → ℕ → Bool
is_wrong_kind x is_class s = same_bool (is_interface (standing_of x s)) is_class

-- the error that a supertype causes: by how it loads, whether it is accessible, and whether it is of the wrong kind
abbrev pub error_of : Load → Bool → Bool → ℕ → Option Load
error_of Loaded see wrong s = cond see (cond wrong (Some (Fails fault.Incompatible s)) None) (Some (Fails fault.IllegalAccess s))
error_of Outside see wrong s = None
error_of (Fails f v) see wrong s = Some (Fails f v)

abbrev pub judged_at : Indexed → List Load → ℕ → Bool → ℕ → Option Load
judged_at x loads v is_class s = error_of (load_at loads s) (sees x v s) (is_wrong_kind x is_class s) s

abbrev pub first_error : Option Load → Load → Load
first_error None b = b
first_error (Some a) b = a

-- the first error that these supertypes cause; `is_class` says whether the first of them is the superclass
abbrev pub judged_each : Indexed → List Load → ℕ → Bool → List ℕ → Load
judged_each x loads v is_class [] = Loaded
judged_each x loads v is_class (s ∷ more) = first_error (judged_at x loads v is_class s) (judged_each x loads v false more)
