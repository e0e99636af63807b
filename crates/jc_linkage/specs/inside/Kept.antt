-- The entry of each class: its part, the names that it reaches, and the rows that it requires.
use Rattle.std.specs.Prelude.{◌≡◌, Bool, true, false, ◌&&◌, ◌||◌, if◌then◌else◌}
use Rattle.std.specs.Prelude.{ℕ, ◌<◌, List, [], ◌∷◌, length, map, Option, Some, None, IsSome}
use Rattle.std.specs.FinMap as fin
use Rattle.jc_classes.specs.Facts.{Facts}
use Rattle.jc_classes.specs.NameLists.{has, Lists}
use Rattle.jc_classes.specs.Names.{Name, name_cmp, same_name}
use Rattle.jc_classes.specs.Numbers.{name_at}
use Rattle.jc_classes.specs.Parts.{IsPart, Part, Reach}
use Rattle.jc_classes.specs.Worlds.{World}
use Rattle.jc_index.specs.Indexes.{UserLists, users_of}
use Rattle.jc_link.specs.Closures.{facts_standing}
use Rattle.jc_link.specs.Graphs.{ClassGraph}
use Rattle.jc_report.specs.ClassRows.{required_rows}
use Rattle.jc_report.specs.RequiredRows.{spelled_all}
use Rattle.jc_report.specs.RowKeys.{row_key}
use Rattle.jc_report.specs.Rows.{Row}
use Rattle.jc_linkage.specs.declared.class_entry.ClassEntry.{ClassEntry}
use Rattle.jc_linkage.specs.declared.class_entry.NewEntry.{NewEntry}
use Rattle.jc_linkage.specs.declared.dependants.Dependants.{Dependants}

-- ---- entries

abbrev pub required_by : Option Facts → Part → List Row
required_by (Some f) p = required_rows f p
required_by None p = []

-- the keys are exactly those of the rows
abbrev pub AreKeys : (keys : List Name) → List Row → Type 0
AreKeys keys rows = (key : Name) → has keys key ≡ has (map row_key rows) key

-- the keys of the rows in the entry
abbrev pub keys_of : ClassEntry → List Name
keys_of k = spelled_all k.required

-- the keys are those of the rows that the class requires by its part
abbrev pub HasKeysOf : World → Name → (keys : List Name) → Part → Type 0
HasKeysOf m d keys part = AreKeys keys (required_by (facts_standing (m d)) part)

pub record IsKeptOf (m : World) (d : Name) (k : ClassEntry) : Type 0 where
  pub part : IsPart m d k.part
  pub reach : Lists k.reach (Reach m d)
  pub required : HasKeysOf m d (keys_of k) k.part

abbrev pub KeptMap : Type 0
KeptMap = fin.FinMap name_cmp ClassEntry

-- each given class has its entry, and no other name has an entry
pub record IsKept (given : Name → Bool) (m : World) (kept : KeptMap) : Type 0 where
  pub only : (d : Name) (k : ClassEntry) → fin.get kept d ≡ Some k → given d ≡ true
  pub sound : (d : Name) (k : ClassEntry) → fin.get kept d ≡ Some k → IsKeptOf m d k
  pub complete : (d : Name) → given d ≡ true → IsSome (fin.get kept d)

-- ---- links

-- the relations of a class to names: it reaches them, or it requires rows that have them as keys
pub data Relation : Type 0 where
  Reaches : Relation
  Requires : Relation

abbrev pub names_by : Relation → ClassEntry → List Name
names_by Reaches k = k.reach
names_by Requires k = keys_of k

abbrev pub names_kept : Relation → Option ClassEntry → List Name
names_kept r None = []
names_kept r (Some k) = names_by r k

-- whether the class has the relation to the name by its entry in the map
abbrev pub held_in : Relation → KeptMap → (class name : Name) → Bool
held_in r kept d n = has (names_kept r (fin.get kept d)) n

-- the reach in the entry of the class has a touched name
abbrev pub KeptHits : (touched : Name → Bool) → KeptMap → Name → Type 0
KeptHits touched kept d = (n : Name) × (touched n ≡ true) × (held_in Reaches kept d n ≡ true)

abbrev pub lists_by : Relation → Dependants → UserLists
lists_by Reaches dependants = dependants.reach
lists_by Requires dependants = dependants.required

-- whether the class is linked to the name
abbrev pub linked : Relation → Dependants → (name class : Name) → Bool
linked r dependants n d = has (users_of (lists_by r dependants) n) d

-- the links are the inverse of the entries
abbrev pub AreLinked : KeptMap → Dependants → Type 0
AreLinked kept dependants = (r : Relation) (n d : Name) → linked r dependants n d ≡ held_in r kept d n

-- ---- new entries

-- the class at a place of a graph has this name
abbrev pub IsClassAt : ClassGraph → (place : ℕ) → Name → Type 0
IsClassAt g place name = (place < length g.classes) × (name_at g.classes place ≡ name)

abbrev pub fresh_names : List NewEntry → List Name
fresh_names fresh = map (λ (x : NewEntry). x.name.items) fresh

-- whether the class has the relation to the name by its new entry
abbrev pub fresh_has : Relation → List NewEntry → (class name : Name) → Bool
fresh_has r [] d n = false
fresh_has r (x ∷ xs) d n = (same_name d x.name.items && has (names_by r x.kept) n) || fresh_has r xs d n

abbrev pub AllFresh : World → List NewEntry → Type 0
AllFresh m [] = Unit {0}
AllFresh m (x ∷ xs) = IsKeptOf m x.name.items x.kept × AllFresh m xs

-- the new entry of a class, and o if there is none
abbrev pub fresh_at : List NewEntry → Name → Option ClassEntry → Option ClassEntry
fresh_at [] d o = o
fresh_at (x ∷ xs) d o = if same_name d x.name.items then Some x.kept else fresh_at xs d o
