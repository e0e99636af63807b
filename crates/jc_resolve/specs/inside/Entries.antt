-- Answers in which classes are numbers.
use Rattle.std.specs.Prelude.{◌≡◌, ◌⊎◌, ℕ, List, [], ◌∷◌, Option, Some, None}
use Rattle.jc_classes.specs.Facts.{Key, Member, Reference}
use Rattle.jc_classes.specs.Names.{Name, polymorphic_descriptor}
use Rattle.jc_classes.specs.Resolution as defs
use Rattle.jc_classes.specs.Resolution.{Answer as answer}
use Rattle.jc_classes.specs.Worlds.{text_of}
use Rattle.jc_resolve.specs.declared.entry.Entry.{Entry}
use Rattle.jc_resolve.specs.declared.entry.Entry.TheVariants as entry

-- the answer that an entry represents for a reference, where the numbers have these names
abbrev pub entry_shown : (ℕ → Name) → Reference → Entry ℕ → defs.Answer
entry_shown name r (entry.ToClass flags) = answer.ToClass (text_of r.named) flags
entry_shown name r (entry.ToMember flags n) =
    answer.ToMember (name n) (record { name = r.key.name; descriptor = r.key.descriptor; flags = flags })
entry_shown name r (entry.ToPolymorphic flags n) =
    answer.ToMember (name n) (record { name = r.key.name; descriptor = polymorphic_descriptor; flags = flags })
entry_shown name r (entry.Outside n) = answer.Outside (name n)
entry_shown name r entry.NotLoaded = answer.NotLoaded
entry_shown name r (entry.Error e n) = answer.Error e (name n)
entry_shown name r (entry.OwnError e) = answer.Error e (text_of r.named)

-- the answers to the references in order, where the numbers have these names for each reference
abbrev pub entries_shown : (Reference → ℕ → Name) → List Reference → List (Entry ℕ) → List defs.Answer
entries_shown name [] entries = []
entries_shown name (r ∷ rs) [] = []
entries_shown name (r ∷ rs) (e ∷ entries) = entry_shown (name r) r e ∷ entries_shown name rs entries

-- the answers whose numbers are nodes, where the nodes have these names
abbrev pub node_answers : (ℕ → Name) → List Reference → List (Entry ℕ) → List defs.Answer
node_answers name rs entries = entries_shown (λ r. name) rs entries

-- the member has the name of the key, and the descriptor of the key or of signature polymorphic methods (JVMS 2.9)
abbrev pub IsKeyed : Key → Member → Type 0
IsKeyed k x = (x.name ≡ k.name) × ((x.descriptor ≡ k.descriptor) ⊎ (x.descriptor ≡ polymorphic_descriptor))

-- ---- numbers of names in place of nodes

-- the node of the class that an entry names
abbrev pub node_of : Entry ℕ → Option ℕ
node_of (entry.ToClass flags) = None
node_of (entry.ToMember flags v) = Some v
node_of (entry.ToPolymorphic flags v) = Some v
node_of (entry.Outside v) = Some v
node_of entry.NotLoaded = None
node_of (entry.Error e v) = Some v
node_of (entry.OwnError e) = None

-- the entry with a number in place of its node
abbrev pub with_number : Entry ℕ → ℕ → Entry ℕ
with_number (entry.ToClass flags) n = entry.ToClass flags
with_number (entry.ToMember flags v) n = entry.ToMember flags n
with_number (entry.ToPolymorphic flags v) n = entry.ToPolymorphic flags n
with_number (entry.Outside v) n = entry.Outside n
with_number entry.NotLoaded n = entry.NotLoaded
with_number (entry.Error e v) n = entry.Error e n
with_number (entry.OwnError e) n = entry.OwnError e
