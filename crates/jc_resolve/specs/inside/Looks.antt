-- The results of look-up for a class. They hold in every world that agrees with the classes of its reach and in which
-- these load as `loads` says.
use Rattle.std.specs.Prelude.{◌≡◌, ℕ, Option, Result, length, option_map}
use Rattle.jc_classes.specs.Facts.{Key, Named, Reference}
use Rattle.jc_classes.specs.Names.{Name}
use Rattle.jc_classes.specs.Parts.{ResolvesOf}
use Rattle.jc_classes.specs.Resolution.{Answer, ResolvesClass, Settles, Starts, class_answer}
use Rattle.jc_classes.specs.Worlds.{World, text_of}
use Rattle.jc_classes.specs.declared.linkage_error.LinkageError.{LinkageError}
use Rattle.jc_numbered.specs.declared.classes.FoundMember.{FoundMember}
use Rattle.jc_numbered.specs.inside.Indexed.{Indexed, indexed_name, IsIndexed}
use Rattle.jc_numbered.specs.inside.Loading.{load_at, sees}
use Rattle.jc_numbered.specs.inside.Shown.{found_at, indexed_of}
use Rattle.jc_resolve.specs.declared.entry.Entry.{Entry}
use Rattle.jc_resolve.specs.declared.look.Look.{Look}
use Rattle.jc_resolve.specs.declared.resolve.NamedNode.{NamedNode}
use Rattle.jc_resolve.specs.inside.Entries.{entry_shown}
use Rattle.jc_resolve.specs.inside.Resolved.{loading_of, start_shown, NamesSo, TellsLoads}

abbrev pub size_of : Look → ℕ
size_of l = length l.classes.now.standing.now

abbrev pub reach_of : Look → Indexed
reach_of l = indexed_of l.classes.now

-- the name of the class whose references are resolved
abbrev pub asker_of : Look → Name
asker_of l = indexed_name (reach_of l) l.class

-- where look-up of a member begins, or the answer without look-up, for a reference that names `named`
abbrev pub TellsStart : Look → NamedNode → Result ℕ (Entry ℕ) → Type 0
TellsStart l named b = (m : World) (r : Reference) → TellsLoads m (reach_of l) (size_of l) l.loads.now → IsIndexed m (reach_of l)
    → NamesSo (reach_of l) named r → Starts m (asker_of l) r.named (start_shown (reach_of l) r b)

-- the answer to a reference to a member; Resolves is the relation for references of its kind
abbrev pub TellsMember : (World → Name → Named → Key → Answer → Type 0) → Look → NamedNode → Key → Entry ℕ → Type 0
TellsMember Resolves l named k e = (m : World) (r : Reference) → TellsLoads m (reach_of l) (size_of l) l.loads.now → IsIndexed m (reach_of l)
    → NamesSo (reach_of l) named r → r.key ≡ k → Resolves m (asker_of l) r.named k (entry_shown (indexed_name (reach_of l)) r e)

-- the answer to a reference to a member, by what look-up from `start` found; `missing` is the error if it found nothing
abbrev pub TellsOutcome : Look → NamedNode → Key → LinkageError → ℕ → Option FoundMember → Entry ℕ → Type 0
TellsOutcome l named k missing start found e = (m : World) (r : Reference) → IsIndexed m (reach_of l)
    → NamesSo (reach_of l) named r → r.key ≡ k
    → Settles m (asker_of l) r.named (indexed_name (reach_of l) start) missing
    (option_map (found_at (reach_of l)) found) (entry_shown (indexed_name (reach_of l)) r e)

-- the answer to a reference to the class of a node with these flags, or to an array of it
abbrev pub TellsNode : Look → ℕ → ℕ → Entry ℕ → Type 0
TellsNode l node flags e = (r : Reference) → entry_shown (indexed_name (reach_of l)) r e
    ≡ class_answer (text_of r.named) (indexed_name (reach_of l) node) (loading_of (reach_of l) (load_at l.loads.now node))
    (sees (reach_of l) l.class node) flags

-- the answer to a reference to a class
abbrev pub TellsClass : Look → NamedNode → Entry ℕ → Type 0
TellsClass l named e = (m : World) (r : Reference) → TellsLoads m (reach_of l) (size_of l) l.loads.now → IsIndexed m (reach_of l)
    → NamesSo (reach_of l) named r
    → ResolvesClass m (asker_of l) r.named (entry_shown (indexed_name (reach_of l)) r e)

-- the answer to a reference of any kind
abbrev pub TellsReference : Look → Reference → Entry ℕ → Type 0
TellsReference l r e = (m : World) → TellsLoads m (reach_of l) (size_of l) l.loads.now → IsIndexed m (reach_of l)
    → ResolvesOf m (asker_of l) r.kind r (entry_shown (indexed_name (reach_of l)) r e)
