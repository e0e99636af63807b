-- The state of a search for FINAL methods: a chain of superclasses, and their methods by slot.
use Rattle.std.specs.Prelude.{◌≡◌, ◌≢◌, ℕ, ◌<◌, ◌+◌, ◌-◌, true, List, [], ◌∷◌, ◌++◌, length, take, Option, Some, None}
use Rattle.std.specs.Prelude.{slice_get}
use Rattle.std.specs.FinMap as map
use Rattle.std.specs.List.{Contains}
use Rattle.std.specs.Option.{option_map_or}
use Rattle.std.specs.List.Sorted.{IsNonDecreasingBy}
use Rattle.std.specs.declared.alloc.Global.{Global}
use Rattle.std.specs.declared.vec.Vec.{Vec}
use Rattle.jc_base.specs.Bytes.{bytes_cmp}
use Rattle.jc_file.specs.AccessFlags.{final, has}
use Rattle.jc_classes.specs.Facts.{Key, Member}
use Rattle.jc_numbered.specs.declared.overriding.Entry.{Entry}
use Rattle.jc_numbered.specs.declared.overriding.FinalSearch.{FinalSearch}
use Rattle.jc_numbered.specs.inside.Indexed.{Indexed, good_at, superclass_at}
use Rattle.jc_numbered.specs.inside.Overriding.{Fits, TellsNearest, overridable_at, slot_of}
use Rattle.jc_numbered.specs.inside.Slots.{Slot, slot_name}

abbrev pub last_of : {X : Type 0} → List X → Option X
last_of xs = slice_get xs (length xs - 1)

-- ---- chains of superclasses

-- the topmost first
pub record IsChain (count : ℕ) (x : Indexed) (chain : List ℕ) : Type 0 where
  pub nodes : (p v : ℕ) → slice_get chain p ≡ Some v → v < count
  pub good : (p v : ℕ) → slice_get chain p ≡ Some v → good_at x v ≡ true
  pub first : (v : ℕ) → slice_get chain 0 ≡ Some v → superclass_at x v ≡ None
  pub next : (p v w : ℕ) → slice_get chain p ≡ Some v → slice_get chain (p + 1) ≡ Some w → superclass_at x w ≡ Some v

-- the node and its superclasses, the nearest first. The superclass of the last one is `above`
pub record IsPath (count : ℕ) (x : Indexed) (node : ℕ) (path : List ℕ) (above : Option ℕ) : Type 0 where
  pub nodes : (p v : ℕ) → slice_get path p ≡ Some v → v < count
  pub good : (p v : ℕ) → slice_get path p ≡ Some v → good_at x v ≡ true
  pub first : (v : ℕ) → slice_get path 0 ≡ Some v → v ≡ node
  pub next : (p v w : ℕ) → slice_get path p ≡ Some v → slice_get path (p + 1) ≡ Some w → superclass_at x v ≡ Some w
  pub top : (v : ℕ) → last_of path ≡ Some v → superclass_at x v ≡ above

-- ---- the methods of slots

abbrev pub Slots : Type 0
Slots = map.FinMap bytes_cmp (Vec Entry Global)

-- the methods of the slot with this name
abbrev pub entries_in : Slots → List ℕ → List Entry
entries_in slots name = option_map_or (λ v. v.items) (map.get slots name) []

abbrev pub entries_at : Slots → Slot → List Entry
entries_at slots s = entries_in slots (slot_name s)

-- the class of the method is in the chain
abbrev pub IsValid : (chain : List ℕ) → Entry → Type 0
IsValid chain e = slice_get chain e.place ≡ Some e.node

-- the method of the node, at this place, is in its slot
abbrev pub HasEntry : Slots → Slot → (node place : ℕ) → Type 0
HasEntry slots s node place = (e : Entry) × Contains (entries_at slots s) e × (e.node ≡ node) × (e.place ≡ place)

-- methods at the end are removed until the last one is of the chain
pub record Drops (chain : List ℕ) (old new : List Entry) : Type 0 where
  pub count : ℕ
  pub is : new ≡ take count old
  pub kept : (e : Entry) → Contains old e → IsValid chain e → Contains new e
  pub ends : (e : Entry) → last_of new ≡ Some e → IsValid chain e

-- only the slot of these bytes changes
abbrev pub OthersStay : (name : List ℕ) → (old new : Slots) → Type 0
OthersStay name old new = (other : List ℕ) → other ≢ name → entries_in new other ≡ entries_in old other

-- a method was put into the slot of these bytes, after those of the chain
pub record IsPut (chain : List ℕ) (name : List ℕ) (entry : Entry) (old new : Slots) : Type 0 where
  pub others : OthersStay name old new
  pub kept : List Entry
  pub drops : Drops chain (entries_in old name) kept
  pub is : entries_in new name ≡ kept ++ entry ∷ []

-- only slots of this key change
abbrev pub OtherKeysStay : Key → (old new : Slots) → Type 0
OtherKeysStay k old new = (s : Slot) → s.key ≢ k → entries_at new s ≡ entries_at old s

-- ---- names of FINAL methods

abbrev pub Names : Type 0
Names = map.FinMap bytes_cmp (Unit {0})

-- a method of this name may be FINAL
abbrev pub IsFinalName : (finals : Names) → Key → Type 0
IsFinalName finals k = map.contains_key finals k.name ≡ true

-- the names of all FINAL methods that may be overridden, and perhaps others
abbrev pub AreFinals : (count : ℕ) → Indexed → (finals : Names) → Type 0
AreFinals count x finals = (v : ℕ) (k : Key) (y : Member) → v < count → overridable_at x k v ≡ Some y → has y.flags final ≡ true → IsFinalName finals k

-- the names stay, and that of the method is added if it is FINAL
pub record AddsFinal (y : Member) (old new : Names) : Type 0 where
  pub stay : (name : List ℕ) → map.contains_key old name ≡ true → map.contains_key new name ≡ true
  pub added : has y.flags final ≡ true → map.contains_key new y.name ≡ true

-- this for each of the first methods of a list
pub record AddsFinals (ms : List Member) (count : ℕ) (old new : Names) : Type 0 where
  pub stay : (name : List ℕ) → map.contains_key old name ≡ true → map.contains_key new name ≡ true
  pub added : (i : ℕ) (y : Member) → i < count → slice_get ms i ≡ Some y → has y.flags final ≡ true → map.contains_key new y.name ≡ true

-- ---- the search

-- the slots have the methods of the chain that may be overridden and whose names are among `finals`, and perhaps others at
-- their ends
pub record AreSlots (x : Indexed) (finals : Names) (chain : List ℕ) (slots : Slots) : Type 0 where
  pub sound : (s : Slot) (e : Entry) → Contains (entries_at slots s) e → Fits x s e.node × TellsNearest x s.key e.node e.nearest
  pub rises : (s : Slot) → IsNonDecreasingBy (λ (e : Entry). e.place) (entries_at slots s)
  pub complete : (p v : ℕ) → slice_get chain p ≡ Some v → (s : Slot) → IsFinalName finals s.key → Fits x s v → HasEntry slots s v p

pub record IsSearch (count : ℕ) (x : Indexed) (f : FinalSearch) : Type 0 where
  pub finals : AreFinals count x f.finals
  pub chain : IsChain count x f.chain.items
  pub slots : AreSlots x f.finals f.chain.items f.slots

-- the method of the node with this key, if it may be overridden and its name is among `finals`, is in its slot
abbrev pub HasMethod : Indexed → (finals : Names) → Slots → (node place : ℕ) → Key → Type 0
HasMethod x finals slots node place k = IsFinalName finals k → (y : Member) → overridable_at x k node ≡ Some y → HasEntry slots (slot_of x k node y) node place
