-- The answer to a reference, by nodes.
use Rattle.std.specs.Prelude.{◌≡◌, ℕ, ◌<◌, Bool, true, false, List, Option, Some, None, Result, Ok, Err, option_map}
use Rattle.jc_classes.specs.Names.{Name, object as java_lang_object}
use Rattle.jc_classes.specs.Worlds.{World, text_of}
use Rattle.jc_classes.specs.Facts.{Named, Reference}
use Rattle.jc_classes.specs.Facts.Named.{Class, Array}
use Rattle.jc_classes.specs.Loading.{Loading, Load}
use Rattle.jc_classes.specs.Loading.{Loading as loading}
use Rattle.jc_classes.specs.Resolution.{Start, class_answer, object_start, start_of}
use Rattle.jc_classes.specs.Resolution.{Start as start}
use Rattle.jc_numbered.specs.inside.Indexed.{Indexed, indexed_name, good_at, IsIndexed}
use Rattle.jc_numbered.specs.inside.Loading.{load_at}
use Rattle.jc_numbered.specs.declared.access.AccessTarget.{AccessTarget}
use Rattle.jc_numbered.specs.declared.access.AccessTarget.TheVariants as target
use Rattle.jc_numbered.specs.declared.loads.Load.{Load as LoadState}
use Rattle.jc_numbered.specs.declared.loads.Load.TheVariants as state
use Rattle.jc_resolve.specs.declared.entry.Entry.{Entry}
use Rattle.jc_resolve.specs.declared.resolve.NamedNode.{NamedNode}
use Rattle.jc_resolve.specs.declared.resolve.NamedNode.TheVariants as reference
use Rattle.jc_resolve.specs.inside.Entries.{entry_shown}

-- how a class loads, with the name of the class at fault
abbrev pub loading_of : Indexed → LoadState → Loading
loading_of x state.Loaded = loading.Loaded
loading_of x state.Outside = loading.Outside
loading_of x (state.Fails f v) = loading.Fails f (indexed_name x v)

abbrev pub element_of : Indexed → NamedNode → Option Name
element_of x (reference.Class v) = None
element_of x (reference.Array e) = option_map (indexed_name x) e

-- what a reference names; `text` is the text of its Class constant
abbrev pub named_of : Indexed → NamedNode → Name → Named
named_of x (reference.Class v) text = Class (indexed_name x v)
named_of x (reference.Array e) text = Array text (option_map (indexed_name x) e)

-- the reference names `named`
abbrev pub NamesSo : Indexed → NamedNode → Reference → Type 0
NamesSo x named r = named_of x named (text_of r.named) ≡ r.named

abbrev pub IsWithinSome : ℕ → Option ℕ → Type 0
IsWithinSome count None = Unit {0}
IsWithinSome count (Some v) = v < count

abbrev pub IsWithinAll : ℕ → NamedNode → Type 0
IsWithinAll count (reference.Class v) = v < count
IsWithinAll count (reference.Array e) = IsWithinSome count e

-- the nodes load as `loads` says
abbrev pub TellsLoads : World → Indexed → ℕ → List LoadState → Type 0
TellsLoads m x count loads = (i : ℕ) → i < count → Load m (indexed_name x i) (loading_of x (load_at loads i))

-- this in every world that agrees with x
abbrev pub AreLoads : ℕ → Indexed → List LoadState → Type 0
AreLoads count x loads = (m : World) → IsIndexed m x → TellsLoads m x count loads

abbrev pub has_loaded : LoadState → Bool
has_loaded state.Loaded = true
has_loaded state.Outside = false
has_loaded (state.Fails f v) = false

-- nodes that load are good
abbrev pub TellsGood : Indexed → List LoadState → Type 0
TellsGood x loads = (v : ℕ) → load_at loads v ≡ state.Loaded → good_at x v ≡ true

abbrev pub target_at : NamedNode → AccessTarget
target_at (reference.Class v) = target.Class v
target_at (reference.Array e) = target.Array

-- ---- where look-up begins, by how classes load, for any classes

-- the name where look-up begins, or the answer without look-up
abbrev pub start_shown : Indexed → Reference → Result ℕ (Entry ℕ) → Start
start_shown x r (Ok v) = start.At (indexed_name x v)
start_shown x r (Err e) = start.Ends (entry_shown (indexed_name x) r e)

-- for a reference that names the class of a node
abbrev pub StartsInClass : Bool → LoadState → ℕ → Result ℕ (Entry ℕ) → Type 0
StartsInClass sees load v b = (x : Indexed) (r : Reference) (l : Loading) (flags : ℕ)
    → start_shown x r b
    ≡ start_of (Class (indexed_name x v)) (class_answer (indexed_name x v) (indexed_name x v) (loading_of x load) sees flags) l

-- for a reference that names an array of a primitive type
abbrev pub StartsInObject : ℕ → LoadState → Result ℕ (Entry ℕ) → Type 0
StartsInObject object load b = (x : Indexed) (r : Reference) → indexed_name x object ≡ java_lang_object
    → start_shown x r b ≡ object_start (loading_of x load)

-- for a reference that names an array of the class of a node
abbrev pub StartsInArray : Bool → LoadState → ℕ → ℕ → LoadState → Result ℕ (Entry ℕ) → Type 0
StartsInArray sees load v object object_load b = (x : Indexed) (r : Reference) (text : Name) (flags : ℕ) → indexed_name x object ≡ java_lang_object
    → start_shown x r b ≡ start_of (Array text (Some (indexed_name x v))) (class_answer text (indexed_name x v) (loading_of x load) sees flags)
    (loading_of x object_load)
