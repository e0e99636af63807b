-- A graph by its fields.
use Rattle.std.specs.Prelude.{◌≡◌, ◌<◌, ◌≤◌, ℕ, List, [], length, map, Option, Some, IfSome, slice_index_or}
use Rattle.std.specs.List.{All, Contains}
use Rattle.std.specs.declared.vec.Vec.{Vec}
use Rattle.std.specs.declared.alloc.Global.{Global}
use Rattle.jc_graph.specs.Seen.{SeenNodes}
use Rattle.jc_classes.specs.Names.{Name, object as java_lang_object}
use Rattle.jc_classes.specs.Numbers.{name_at}
use Rattle.jc_classes.specs.Parts.{Reach, names_in}
use Rattle.jc_classes.specs.Worlds.{Stands, World, references_of}
use Rattle.jc_resolve.specs.Numbered.{NumberReferences, Numbered}
use Rattle.jc_link.specs.Graphs.{ClassGraph, IsReached}
use Rattle.jc_link.specs.inside.Gathering.{IsClosedGraph, supertypes_in, stand_at, stands_in}
use Rattle.jc_link.specs.declared.graph.ClassGraph.TheInside.{Inside}

abbrev pub nodes_in : List (Vec (Option ℕ) Global) → List (List (Option ℕ))
nodes_in references = map (λ (v : Vec (Option ℕ) Global). v.items) references

abbrev pub graph_shown : Inside → ClassGraph
graph_shown a = record {
  classes = map (name_at a.names) a.classes.items;
  names = a.names;
  stands = stands_in a.standing.items;
}

abbrev pub nodes_at : List (List (Option ℕ)) → ℕ → List (Option ℕ)
nodes_at references i = slice_index_or references i []

abbrev pub class_at : List ℕ → ℕ → ℕ
class_at classes i = slice_index_or classes i 0

-- for each class, the numbers of the classes that its references name
pub record AreReferred (names : List Name) (stands : List Stands) (classes : List ℕ) (references : List (List (Option ℕ))) : Type 0 where
  pub classes_in : All (λ v. v < length names) classes
  pub size : length references ≡ length classes
  pub named : (i : ℕ) → i < length references
      → NumberReferences names (nodes_at references i) (references_of (stand_at stands (class_at classes i)))
  pub within : (i v : ℕ) → i < length references → Contains (nodes_at references i) (Some v) → v < length names

pub record IsWhole (a : Inside) : Type 0 where
  pub graph : IsClosedGraph a.names (stands_in a.standing.items) (supertypes_in a.supertypes.items) a.object
  pub referred : AreReferred a.names (stands_in a.standing.items) a.classes.items (nodes_in a.references.items)

-- the classes reach each of these names
abbrev pub AllReached : World → (classes names : List Name) → Type 0
AllReached m classes names = (i : ℕ) → i < length names → IsReached m classes (name_at names i)

-- numbers of the class, of java/lang/Object and of the classes that its references name
pub record AreStarts (m : World) (d : Name) (names : List Name) (starts : List ℕ) : Type 0 where
  pub sound : (v : ℕ) → Contains starts v → Reach m d (name_at names v)
  pub itself : (v : ℕ) × Contains starts v × (name_at names v ≡ d)
  pub always : (v : ℕ) × Contains starts v × (name_at names v ≡ java_lang_object)
  pub named : (n : Name) → Contains (names_in (references_of (m d))) n → (v : ℕ) × Contains starts v × (name_at names v ≡ n)

-- the numbers of the names that have the property P
pub record AreNumbersOf (names : List Name) (P : Name → Type 0) (numbers : List ℕ) : Type 0 where
  pub sound : (v : ℕ) → Contains numbers v → P (name_at names v)
  pub complete : (n : Name) → P n → (v : ℕ) × Contains numbers v × (name_at names v ≡ n)

-- the working memory of a walk, if it is kept, has a flag for each name
abbrev pub HasRoom : ClassGraph → Option SeenNodes → Type 0
HasRoom g kept = IfSome kept (λ (s : SeenNodes). length s.flags ≡ length g.names)

-- names were only appended
pub record AreKept (old new : List Name) : Type 0 where
  pub longer : length old ≤ length new
  pub same : (i : ℕ) → i < length old → name_at new i ≡ name_at old i

-- the hierarchy is that of the graph
pub record IsHierarchyOf (g : ClassGraph) (h : Numbered) : Type 0 where
  pub supertypes : List (List ℕ)
  pub is : h ≡ record { names = g.names; standing = g.stands; supertypes = supertypes }
