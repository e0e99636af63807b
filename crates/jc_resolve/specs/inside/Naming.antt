-- The names of classes, with numbers of their own.
use Rattle.std.specs.Prelude.{◌≡◌, ℕ, zero, suc, List, [], map, None, Some, Option, option_map, slice_get}
use Rattle.std.specs.Option.{option_map_or}
use Rattle.jc_code.specs.inside.Fronts.{BeginsWith}
use Rattle.jc_classes.specs.Facts.{Reference}
use Rattle.jc_classes.specs.Names.{Name}
use Rattle.jc_classes.specs.Parts.{class_of}
use Rattle.jc_classes.specs.inside.FactsShown.{text_at}
use Rattle.jc_resolve.specs.declared.answer_list.Naming.{Naming}
use Rattle.jc_resolve.specs.declared.entry.Entry.{Entry}
use Rattle.jc_resolve.specs.inside.Entries.{entry_shown}

abbrev pub references_in : Option (List Reference) → List Reference
references_in None = []
references_in (Some references) = references

-- the class that an answer to a reference names by a number. The number 0 is the class of the reference; the listed
-- names are counted from 1
abbrev pub name_told : List Name → Reference → ℕ → Name
name_told texts r zero = option_map_or (λ c. c) (class_of r.named) []
name_told texts r (suc place) = text_at texts place

-- the number is that of the name, whatever names are appended
abbrev pub Tells : List Name → Reference → ℕ → Name → Type 0
Tells texts r number name = (more : List Name) → BeginsWith more texts → name_told more r number ≡ name

abbrev pub IsNumberOf : List Name → Name → ℕ → Type 0
IsNumberOf texts name number = (r : Reference) → Tells texts r number name

-- the reference names the class of a node, or an array of it
abbrev pub NamesNode : (ℕ → Name) → Option ℕ → Reference → Type 0
NamesNode name node r = option_map name node ≡ class_of r.named

-- the number is that of the class of `node`, for references that name the class of the node `own`
abbrev pub IsToldBy : (ℕ → Name) → List Name → Option ℕ → ℕ → ℕ → Type 0
IsToldBy name texts own node number = (r : Reference) → NamesNode name own r → Tells texts r number (name node)

-- for references that name the class of the node `own`, an entry with numbers of names is the same answer as one with
-- nodes
abbrev pub IsNamed : (ℕ → Name) → List Name → Option ℕ → Entry ℕ → Entry ℕ → Type 0
IsNamed name texts own entry named = (r : Reference) (more : List Name) → NamesNode name own r → BeginsWith more texts
    → entry_shown (name_told more r) r named ≡ entry_shown name r entry

-- this for the entries at each place
abbrev pub AreNamed : (ℕ → Name) → List Name → List (Option ℕ) → List (Entry ℕ) → List (Entry ℕ) → Type 0
AreNamed name texts nodes entries named = (at : ℕ) (own : Option ℕ) (entry other : Entry ℕ)
    → slice_get nodes at ≡ Some own → slice_get entries at ≡ Some entry → slice_get named at ≡ Some other
    → IsNamed name texts own entry other

-- the nodes of the classes that the references name
abbrev pub AreNodes : (ℕ → Name) → List (Option ℕ) → List Reference → Type 0
AreNodes name nodes rs = map (option_map name) nodes ≡ map (λ (r : Reference). class_of r.named) rs

-- the texts are the names of the nodes
abbrev pub AreNames : (ℕ → Name) → Naming → Type 0
AreNames name a = a.texts ≡ map name a.nodes.items
