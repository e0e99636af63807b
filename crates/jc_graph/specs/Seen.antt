-- The nodes that a walk has seen.
use Rattle.std.specs.Prelude.{◌≡◌, ℕ, ◌<◌, ◌≤◌, ◌+◌, ◌⊎◌, Bool}
use Rattle.std.specs.Prelude.{true, false, cond, List, [], ◌∷◌, length, slice_index_or}
use Rattle.std.specs.Bool.{Decides}
use Rattle.std.specs.List.{Contains, All}
use Rattle.jc_graph.specs.Graph.{Successors, Above}

abbrev pub flag_at : List Bool → ℕ → Bool
flag_at flags v = slice_index_or flags v false

abbrev pub node_at : List ℕ → ℕ → ℕ
node_at nodes i = slice_index_or nodes i 0

-- the list has only nodes, and each node whose flag is set
pub record IsListed (flags : List Bool) (list : List ℕ) : Type 0 where
  pub nodes : All (λ v. v < length flags) list
  pub listed : (v : ℕ) → flag_at flags v ≡ true → Contains list v

-- the nodes whose flags are set are those of the list
pub record IsSeen (flags : List Bool) (list : List ℕ) : Type 0 where
  pub all : IsListed flags list
  pub flagged : (v : ℕ) → Contains list v → flag_at flags v ≡ true

-- a flag for each node, and the nodes whose flags are set, in the order in which they were added
pub record SeenNodes : Type 0 where
  pub flags : List Bool
  pub list : List ℕ

-- the number of flags that are not set
unfoldable pub unseen : List Bool → ℕ
unseen [] = 0
unseen (b ∷ bs) = cond b 0 1 + unseen bs

-- these nodes were added; those that are new are at the end of the list
pub record SeesMore (flags : List Bool) (list : List ℕ) (flags2 : List Bool) (list2 : List ℕ) (nodes : List ℕ) : Type 0 where
  pub seen : IsSeen flags list → IsSeen flags2 list2
  pub size : length flags2 ≡ length flags
  pub kept : (v : ℕ) → flag_at flags v ≡ true → flag_at flags2 v ≡ true
  pub added : (v : ℕ) → Contains nodes v → flag_at flags2 v ≡ true
  pub only : (v : ℕ) → flag_at flags2 v ≡ true → (flag_at flags v ≡ true) ⊎ Contains nodes v
  pub front : (j : ℕ) → j < length list → node_at list2 j ≡ node_at list j
  pub longer : length list ≤ length list2
  pub counted : unseen flags2 + length list2 ≡ unseen flags + length list

-- the node can be reached from one of the starts in one or more steps
abbrev pub AboveSome : Successors → List ℕ → ℕ → Type 0
AboveSome next starts v = (s : ℕ) × Contains starts s × Above next s v

-- the flags and the list have exactly the nodes that can be reached from one of the starts
pub record TellsAbove (count : ℕ) (next : Successors) (starts : List ℕ) (flags : List Bool) (list : List ℕ) : Type 0 where
  pub size : length flags ≡ count
  pub seen : IsSeen flags list
  pub tells : (v : ℕ) → Decides (flag_at flags v) (AboveSome next starts v)
