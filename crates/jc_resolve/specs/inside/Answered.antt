-- Answers by nodes, one for each reference of a class.
use Rattle.std.specs.Prelude.{◌≡◌, ◌≢◌, ℕ, ◌<◌, List, length, slice_get, Option, Some}
use Rattle.std.specs.List.{Contains}
use Rattle.jc_classes.specs.Facts.{Reference}
use Rattle.jc_classes.specs.LinkErrors.{LinkError, links_of}
use Rattle.jc_classes.specs.Parts.{AreAnswers, IsAnswer}
use Rattle.jc_classes.specs.Resolution.{Answer}
use Rattle.jc_classes.specs.Worlds.{World, references_of}
use Rattle.jc_numbered.specs.declared.classes.Classes.{Classes}
use Rattle.jc_numbered.specs.declared.loads.Load.{Load}
use Rattle.jc_numbered.specs.inside.Indexed.{Indexed, indexed_name, standing_of, IsIndexed}
use Rattle.jc_numbered.specs.inside.Loading.{load_at}
use Rattle.jc_numbered.specs.inside.Shown.{indexed_of}
use Rattle.jc_resolve.specs.declared.entry.Entry.{Entry}
use Rattle.jc_resolve.specs.declared.look.Look.{Look}
use Rattle.jc_resolve.specs.inside.Entries.{entry_shown, node_answers}
use Rattle.jc_resolve.specs.inside.Looks.{reach_of}
use Rattle.jc_resolve.specs.inside.Naming.{AreNodes}
use Rattle.jc_resolve.specs.inside.Resolved.{loading_of, TellsLoads}

-- the nodes of the classes that the references name
pub record AreNodesOf (count : ℕ) (x : Indexed) (rs : List Reference) (nodes : List (Option ℕ)) : Type 0 where
  pub named : AreNodes (indexed_name x) nodes rs
  pub within : (v : ℕ) → Contains nodes (Some v) → v < count

-- the entry is the answer to the reference, in every world that agrees with x and in which the nodes load as `loads`
-- says
abbrev pub IsAnsweredBy : Indexed → List Load → ℕ → Reference → Entry ℕ → Type 0
IsAnsweredBy x loads class r e = (m : World) → TellsLoads m x (length x.names) loads → IsIndexed m x
    → IsAnswer m (indexed_name x class) (loading_of x (load_at loads class)) r (entry_shown (indexed_name x) r e)

-- the entry at this place is the answer to the reference there
abbrev pub IsAnsweredAt : Indexed → List Load → ℕ → List Reference → List (Entry ℕ) → ℕ → Type 0
IsAnsweredAt x loads class rs entries at = (r : Reference) (e : Entry ℕ) → slice_get rs at ≡ Some r → slice_get entries at ≡ Some e
    → IsAnsweredBy x loads class r e

-- this for the class whose references are resolved
abbrev pub IsAnswered : Look → List Reference → List (Entry ℕ) → ℕ → Type 0
IsAnswered l rs entries at = IsAnsweredAt (reach_of l) l.loads.now l.class rs entries at

-- the number is that of a reference, and the entry there is its answer
abbrev pub IsAnsweredBefore : Look → List Reference → List (Entry ℕ) → ℕ → Type 0
IsAnsweredBefore l rs entries number = (number < length rs) × IsAnswered l rs entries number

abbrev pub AreAllAnswered : Look → List Reference → List (Entry ℕ) → Type 0
AreAllAnswered l rs entries = (at : ℕ) → at < length rs → IsAnswered l rs entries at

-- a step stores the answer to the reference of this number, and keeps the other answers
abbrev pub IsOneMore : Look → List Reference → ℕ → List (Entry ℕ) → List (Entry ℕ) → Type 0
IsOneMore l rs number old new = (at : ℕ) → (at ≢ number → IsAnswered l rs old at) → IsAnswered l rs new at

abbrev pub AreAnswered : Indexed → List Load → ℕ → List Reference → List (Entry ℕ) → Type 0
AreAnswered x loads class rs entries = (length entries ≡ length rs)
    × ((m : World) → TellsLoads m x (length x.names) loads → IsIndexed m x
    → AreAnswers m (indexed_name x class) (loading_of x (load_at loads class)) rs (node_answers (indexed_name x) rs entries))

-- ---- the class of a node

abbrev pub node_references : Classes → ℕ → List Reference
node_references c class = references_of (standing_of (indexed_of c) class)

-- the errors of the instructions of the class
abbrev pub node_links : Classes → ℕ → List Answer → List LinkError
node_links c class answers = links_of (indexed_name (indexed_of c) class) (standing_of (indexed_of c) class) answers

-- the answers to the references of the class
abbrev pub TellsNodeAnswers : Classes → List Load → ℕ → List Answer → Type 0
TellsNodeAnswers c loads class answers = (m : World)
    → TellsLoads m (indexed_of c) (length c.standing.now) loads → IsIndexed m (indexed_of c)
    → AreAnswers m (indexed_name (indexed_of c) class) (loading_of (indexed_of c) (load_at loads class)) (node_references c class) answers
