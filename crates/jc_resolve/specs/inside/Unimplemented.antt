-- The search for methods without a body.
use Rattle.std.specs.Prelude.{◌≡◌, ◌⊎◌, ℕ, ◌<◌, ◌≤◌, ◌&&◌, Bool, false, true, not, cond, List, [], ◌∷◌, length, is_some, Option, Some, None, slice_get}
use Rattle.std.specs.List.{Contains}
use Rattle.std.specs.Option.{option_map_or}
use Rattle.std.specs.List.Sorted.{IsStrictlySortedBy}
use Rattle.std.specs.Ordering.{nat_cmp}
use Rattle.std.specs.declared.alloc.Global.{Global}
use Rattle.std.specs.declared.vec.Vec.{Vec}
use Rattle.jc_file.specs.AccessFlags.{abstract, has, interface}
use Rattle.jc_classes.specs.Names.{Name}
use Rattle.jc_classes.specs.Worlds.{Extends, World, flags_of, interfaces_of, is_interface, methods_of}
use Rattle.jc_graph.specs.Graph.{successors_of}
use Rattle.jc_numbered.specs.declared.loads.Load.{Load}
use Rattle.jc_numbered.specs.inside.FinalSearches.{IsPath}
use Rattle.jc_numbered.specs.inside.Indexed.{Indexed, IsIndexed, indexed_name, standing_of, superclass_at}
use Rattle.jc_numbered.specs.inside.Loading.{load_at}
use Rattle.jc_numbered.specs.inside.Overriding.{overridable_at}
use Rattle.jc_numbered.specs.inside.Picks.{is_interface_at}
use Rattle.jc_classes.specs.Selection.{IsConcrete, IsNamed, IsUnimplemented, SelectsNone}
use Rattle.jc_resolve.specs.inside.AbstractMethods.{AreMethods, key_in}
use Rattle.jc_resolve.specs.inside.Resolved.{has_loaded}
use Rattle.jc_resolve.specs.inside.Selection.{declares_at, is_bare, is_open_at}
use Rattle.jc_resolve.specs.declared.abstract_methods.AbstractMethod.{AbstractMethod}
use Rattle.jc_resolve.specs.declared.unimplemented.Search.{Search}

-- the homes of the methods are nodes
abbrev pub HaveHomes : ℕ → List AbstractMethod → Type 0
HaveHomes count all = (e : AbstractMethod) → Contains all e → e.node < count

-- c and its superclasses are no interfaces
abbrev pub IsClassChain : World → Name → Type 0
IsClassChain m c = (a : Name) → Extends m c a → is_interface (m a) ≡ false

-- c has no body for the method
abbrev pub Lacks : World → Name → AbstractMethod → Type 0
Lacks m c e = IsUnimplemented m (key_in e) c e.class.now

-- the numbers of the methods for which v has no body
pub record TellsList (x : Indexed) (all : List AbstractMethod) (v : ℕ) (numbers : List ℕ) : Type 0 where
  pub within : (i : ℕ) → Contains numbers i → i < length all
  pub sound : (m : World) → IsIndexed m x → IsNamed m → IsClassChain m (indexed_name x v) → (i : ℕ) (e : AbstractMethod)
      → slice_get all i ≡ Some e → Contains numbers i → Lacks m (indexed_name x v) e
  pub complete : (m : World) → IsIndexed m x → IsNamed m → IsClassChain m (indexed_name x v) → (i : ℕ) (e : AbstractMethod)
      → slice_get all i ≡ Some e → Lacks m (indexed_name x v) e → Contains numbers i

-- ---- what a class inherits

-- v has no body for the method if its superclass has none
abbrev pub stays_at : Indexed → ℕ → AbstractMethod → Bool
stays_at x v e = cond (is_interface_at x e.node)
    (is_bare (interfaces_of (standing_of x v)) && not (declares_at x (key_in e) v))
    (not (is_some (overridable_at x (key_in e) v) && is_open_at x v e))

abbrev pub stays_number : Indexed → ℕ → List AbstractMethod → ℕ → Bool
stays_number x v all i = option_map_or (stays_at x v) (slice_get all i) false

-- v is without methods and without direct superinterfaces
abbrev pub IsPlain : Indexed → ℕ → Type 0
IsPlain x v = (methods_of (standing_of x v) ≡ []) × (is_bare (interfaces_of (standing_of x v)) ≡ true)

-- ---- what a class adds

-- v selects no method for the one with this number
abbrev pub Selected : Indexed → ℕ → List AbstractMethod → ℕ → Type 0
Selected x v all i = (e : AbstractMethod) × (slice_get all i ≡ Some e)
    × ((m : World) → IsIndexed m x → SelectsNone m (key_in e) (indexed_name x v) (indexed_name x e.node))

-- the methods were added for which v selects no method and whose numbers have the property
pub record Adds (x : Indexed) (v : ℕ) (all : List AbstractMethod) (P : ℕ → Type 0) (old new : List ℕ) : Type 0 where
  pub kept : (i : ℕ) → Contains old i → Contains new i
  pub sound : (i : ℕ) → Contains new i → Contains old i ⊎ Selected x v all i
  pub complete : (m : World) → IsIndexed m x → (i : ℕ) (e : AbstractMethod) → P i → slice_get all i ≡ Some e
      → SelectsNone m (key_in e) (indexed_name x v) (indexed_name x e.node) → Contains new i

-- the number of a method of one of these nodes
abbrev pub IsOf : Search → List ℕ → ℕ → Type 0
IsOf s homes i = (v : ℕ) × Contains homes v × Contains (successors_of s.methods.of_class.items v) i

-- the methods of v itself, and those of its superinterfaces if it has direct ones
pub record AreAdded (x : Indexed) (v : ℕ) (s : Search) (added : List ℕ) : Type 0 where
  pub own : (i : ℕ) (e : AbstractMethod) → slice_get s.methods.all.items i ≡ Some e → e.node ≡ v → Contains added i
  pub others : is_bare (interfaces_of (standing_of x v)) ≡ false → (m : World) → IsIndexed m x → (i : ℕ) (e : AbstractMethod)
      → slice_get s.methods.all.items i ≡ Some e → SelectsNone m (key_in e) (indexed_name x v) (indexed_name x e.node) → Contains added i
  pub sound : (i : ℕ) → Contains added i
      → ((e : AbstractMethod) × (slice_get s.methods.all.items i ≡ Some e) × (e.node ≡ v)) ⊎ Selected x v s.methods.all.items i

-- ---- the search

pub record IsSearch (count : ℕ) (x : Indexed) (s : Search) : Type 0 where
  pub methods : AreMethods count x s.methods
  pub size : length s.list_of.items ≡ count
  pub some : 0 < length s.lists.items
  pub none : successors_of s.lists.items 0 ≡ []
  pub small : s.size ≤ 2097152
  pub lists : (v i : ℕ) → slice_get s.list_of.items v ≡ Some (Some i) → (i < length s.lists.items) × TellsList x s.methods.all.items v (successors_of s.lists.items i)

-- the list with this number is that of v
abbrev pub HasList : Indexed → ℕ → Search → ℕ → Type 0
HasList x v s i = (i < length s.lists.items) × TellsList x s.methods.all.items v (successors_of s.lists.items i)

-- the lists stay, and some may be added
pub record ExtendsLists (old new : Search) : Type 0 where
  pub methods : new.methods ≡ old.methods
  pub more : length old.lists.items ≤ length new.lists.items
  pub same : (i : ℕ) → i < length old.lists.items → successors_of new.lists.items i ≡ successors_of old.lists.items i

-- the list with this number is that of the superclass of v, or is empty if there is none
pub record IsAboveList (x : Indexed) (v : ℕ) (s : Search) (i : ℕ) : Type 0 where
  pub within : i < length s.lists.items
  pub none : superclass_at x v ≡ None → successors_of s.lists.items i ≡ []
  pub some : (w : ℕ) → superclass_at x v ≡ Some w → TellsList x s.methods.all.items w (successors_of s.lists.items i)

-- a path to a class from below one whose list is known
pub record IsPathTo (count : ℕ) (x : Indexed) (s : Search) (class : ℕ) (nodes : List ℕ) (i : ℕ) : Type 0 where
  pub above : Option ℕ
  pub path : IsPath count x class nodes above
  pub within : i < length s.lists.items
  pub none : above ≡ None → successors_of s.lists.items i ≡ []
  pub some : (w : ℕ) → above ≡ Some w → TellsList x s.methods.all.items w (successors_of s.lists.items i)
  pub empty : nodes ≡ [] → TellsList x s.methods.all.items class (successors_of s.lists.items i)

-- ---- concrete classes

abbrev pub is_loaded_class : Indexed → List Load → ℕ → Bool
is_loaded_class x loads v = has_loaded (load_at loads v) && (not (has (flags_of (standing_of x v)) interface) && not (has (flags_of (standing_of x v)) abstract))

abbrev pub IsNeverConcrete : Indexed → ℕ → Type 0
IsNeverConcrete x v = (m : World) → IsIndexed m x → IsConcrete m (indexed_name x v) → ⊥

-- the list with this number is empty, and it is that of v, or v is not concrete
pub record IsEmptyFor (x : Indexed) (s : Search) (v i : ℕ) : Type 0 where
  pub within : i < length s.lists.items
  pub empty : successors_of s.lists.items i ≡ []
  pub right : HasList x v s i ⊎ IsNeverConcrete x v

-- the number of the list of v, or of an empty list if v is not concrete
abbrev pub ListFor : Indexed → Search → ℕ → ℕ → Type 0
ListFor x s v i =
    (HasList x v s i × ((m : World) → IsIndexed m x → IsConcrete m (indexed_name x v))) ⊎ IsEmptyFor x s v i

-- this for each of these nodes
abbrev pub ListsFor : Indexed → Search → List ℕ → List ℕ → Type 0
ListsFor x s [] [] = Unit {0}
ListsFor x s (v ∷ vs) (i ∷ is) = ListFor x s v i × ListsFor x s vs is
ListsFor x s [] (i ∷ is) = ⊥
ListsFor x s (v ∷ vs) [] = ⊥

-- ---- order

-- the numbers of a list, in ascending order, each once
pub record IsInOrder (old new : List ℕ) : Type 0 where
  pub rises : IsStrictlySortedBy nat_cmp new
  pub kept : (i : ℕ) → Contains old i → Contains new i
  pub sound : (i : ℕ) → Contains new i → Contains old i

-- this for each list
abbrev pub AreInOrder : (old new : List (Vec ℕ Global)) → Type 0
AreInOrder old new = (n : ℕ) → IsInOrder (successors_of old n) (successors_of new n)
