-- Classes by numbers: what each name is, and the worlds that agree with it.
use Rattle.std.specs.Prelude.{◌≡◌, ℕ, ◌<◌, List, [], map, length, slice_index_or, Option, option_map}
use Rattle.std.specs.List.{Contains}
use Rattle.std.specs.declared.vec.Vec.{Vec}
use Rattle.std.specs.declared.alloc.Global.{Global}
use Rattle.jc_classes.specs.Facts.{Reference}
use Rattle.jc_classes.specs.LinkErrors.{LinkError, links_of}
use Rattle.jc_classes.specs.Loading.{Load, Loading}
use Rattle.jc_classes.specs.Names.{Name}
use Rattle.jc_classes.specs.Numbers.{name_at, IsOnce}
use Rattle.jc_classes.specs.Parts.{AreAnswers, class_of}
use Rattle.jc_classes.specs.Resolution.{Answer}
use Rattle.jc_classes.specs.Worlds.{World, Stands, references_of, supertypes_of}
use Rattle.jc_classes.specs.Worlds.Stands.{Absent}
use Rattle.jc_classes.specs.Lent.{stands_of}
use Rattle.jc_classes.specs.declared.standing.Standing.{Standing}

-- names, and by the number of a name what it is and the numbers of its direct supertypes
pub record Numbered : Type 0 where
  pub names : List Name
  pub standing : List Stands
  pub supertypes : List (List ℕ)

abbrev pub node_name : Numbered → ℕ → Name
node_name h i = name_at h.names i

-- what the name with this number is; `Absent` if no name has the number
abbrev pub standing_at : Numbered → ℕ → Stands
standing_at h i = slice_index_or h.standing i Absent

abbrev pub supertypes_at : Numbered → ℕ → List ℕ
supertypes_at h i = slice_index_or h.supertypes i []

-- the data of these lists, as the code keeps them
abbrev pub numbered : List Name → List Standing → List (Vec ℕ Global) → Numbered
numbered names standing supertypes = record {
  names = names;
  standing = map stands_of standing;
  supertypes = map (λ (v : Vec ℕ Global). v.items) supertypes;
}

-- the names are distinct, and each has an entry in the other lists. Every direct supertype of a name is among the
-- names, and the numbers of supertypes are in the order of `supertypes_of`
pub record IsClosed (h : Numbered) : Type 0 where
  pub standing : length h.standing ≡ length h.names
  pub size : length h.supertypes ≡ length h.names
  pub once : IsOnce h.names
  pub within : (a b : ℕ) → Contains (supertypes_at h a) b → b < length h.names
  pub supertypes : (i : ℕ) → i < length h.names → map (name_at h.names) (supertypes_at h i) ≡ supertypes_of (standing_at h i)

-- the world agrees with h: each name of h is in the world what h says
abbrev pub Agrees : World → Numbered → Type 0
Agrees m h = (i : ℕ) → i < length h.names → m (name_at h.names i) ≡ standing_at h i

-- ---- the references of a class

abbrev pub references_at : Numbered → ℕ → List Reference
references_at h i = references_of (standing_at h i)

-- `nodes` has for each reference the number of the class that it names; for an array, of its innermost class, if it has
-- one
abbrev pub NumberReferences : List Name → List (Option ℕ) → List Reference → Type 0
NumberReferences names nodes references = map (option_map (name_at names)) nodes ≡ map (λ (r : Reference). class_of r.named) references

-- the errors of the class's instructions, if its references have these answers
abbrev pub links_at : Numbered → ℕ → List Answer → List LinkError
links_at h i answers = links_of (node_name h i) (standing_at h i) answers

-- in every world that agrees with h, these are the answers to the references of the class
abbrev pub TellsAnswers : Numbered → ℕ → List Answer → Type 0
TellsAnswers h i answers = (m : World) (how : Loading) → Agrees m h → Load m (node_name h i) how
    → AreAnswers m (node_name h i) how (references_at h i) answers
