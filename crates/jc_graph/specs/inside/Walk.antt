-- A walk over the nodes of a graph.
use Rattle.std.specs.Prelude.{◌≡◌, ◌⊎◌, ℕ, ◌+◌, ◌*◌, ◌^◌, ◌<◌, ◌≤◌, Bool, true, false}
use Rattle.std.specs.Prelude.{List, [], ◌∷◌, ◌++◌, length, slice_index_or, slice_set, take, drop, ◌-◌}
use Rattle.std.specs.List.{Contains, All}
use Rattle.jc_graph.specs.declared.walk.Place.{Place}
use Rattle.jc_graph.specs.declared.walk.Place.TheVariants.{Unseen, On, Done}
use Rattle.jc_graph.specs.declared.walk.Segment.{Segment}
use Rattle.jc_graph.specs.declared.walk.Walk.{Walk}
use Rattle.std.specs.Bool.{Decides}
use Rattle.jc_graph.specs.inside.Marks.{set_all}
use Rattle.jc_graph.specs.Graph.{Successors, Above}
pub use Rattle.jc_graph.specs.Seen.{flag_at, node_at}

pub record State : Type 0 where
  pub path : List ℕ
  pub segments : List Segment
  pub steps : List ℕ
  pub place : List Place
  pub circular : List Bool
  pub order : List ℕ

abbrev pub state_of : Walk → State
state_of w = record {
  path = w.path.items;
  segments = w.segments.items;
  steps = w.steps.items;
  place = w.place.items;
  circular = w.circular.items;
  order = w.order.items;
}

abbrev pub place_at : List Place → ℕ → Place
place_at places v = slice_index_or places v Unseen

abbrev pub segment_at : List Segment → ℕ → Segment
segment_at segments k = slice_index_or segments k (record { path_from = 0; steps_from = 0 })

-- each segment that begins at or before the place p also begins at or before the place q
abbrev pub Leads : List Segment → ℕ → ℕ → Type 0
Leads segments p q = All (λ g. g.path_from ≤ p → g.path_from ≤ q) segments

abbrev pub Way : Successors → ℕ → ℕ → Type 0
Way next a b = (a ≡ b) ⊎ Above next a b

-- the pending step with this number leads from a node of the path
pub record Source (next : Successors) (s : State) (i : ℕ) : Type 0 where
  pub at : ℕ
  pub within : at < length s.path
  pub leads : Contains (next (node_at s.path at)) (node_at s.steps i)
  pub after : All (λ g. g.steps_from ≤ i → g.path_from ≤ at) s.segments
  pub before : All (λ g. i < g.steps_from → at < g.path_from) s.segments

-- The step from the place p of the path to w is pending, or it was taken. If it was taken, w is done, or it is on the
-- path and not before the segment of p.
pub data Told (s : State) (p w : ℕ) : Type 0 where
  waits : (i : ℕ) → i < length s.steps → node_at s.steps i ≡ w
      → All (λ g. g.path_from ≤ p → g.steps_from ≤ i) s.segments → Told s p w
  done : place_at s.place w ≡ Done → Told s p w
  back : (q : ℕ) → place_at s.place w ≡ On q → Leads s.segments p q → Told s p w

pub record IsPath (next : Successors) (s : State) : Type 0 where
  pub on_path : (p : ℕ) → p < length s.path → place_at s.place (node_at s.path p) ≡ On p
  pub has_place : (v p : ℕ) → place_at s.place v ≡ On p → (p < length s.path) × (node_at s.path p ≡ v)
  pub first : (segment_at s.segments 0).path_from ≡ 0
  pub covers : length s.segments ≡ 0 → length s.path ≡ 0
  pub rising : (j k : ℕ) → j ≤ k → k < length s.segments
      → (segment_at s.segments j).path_from ≤ (segment_at s.segments k).path_from
  pub within : All (λ g. (g.path_from ≤ length s.path) × (g.steps_from ≤ length s.steps)) s.segments
  pub joined : (p q : ℕ) → p < length s.path → q < length s.path → Leads s.segments p q
      → Way next (node_at s.path p) (node_at s.path q)
  pub sources : (i : ℕ) → i < length s.steps → Source next s i
  pub told : (p w : ℕ) → p < length s.path → Contains (next (node_at s.path p)) w → Told s p w

pub record IsDone (next : Successors) (place : List Place) (circular : List Bool) (order : List ℕ) : Type 0 where
  pub closed : (v w : ℕ) → place_at place v ≡ Done → Contains (next v) w → place_at place w ≡ Done
  pub ring : (v : ℕ) → place_at place v ≡ Done → flag_at circular v ≡ true → Above next v v
  pub plain : (v : ℕ) → place_at place v ≡ Done → flag_at circular v ≡ false → Above next v v → ⊥
  pub listed : (v : ℕ) → place_at place v ≡ Done → Contains order v
  pub done : (k : ℕ) → k < length order → place_at place (node_at order k) ≡ Done
  pub before : (k w : ℕ) → k < length order → flag_at circular (node_at order k) ≡ false
      → Contains (next (node_at order k)) w → (j : ℕ) × (j < k) × (node_at order j ≡ w)

pub record IsWalk (next : Successors) (count : ℕ) (s : State) : Type 0 where
  pub places : length s.place ≡ count
  pub flags : length s.circular ≡ count
  pub path : IsPath next s
  pub done : IsDone next s.place s.circular s.order

-- ---- the effect of each step on a walk

abbrev pub visited : Successors → State → ℕ → State
visited next s v = record {
  path = s.path ++ v ∷ [];
  segments = s.segments ++ (record { path_from = length s.path; steps_from = length s.steps }) ∷ [];
  steps = s.steps ++ next v;
  place = slice_set s.place v (On (length s.path));
  circular = s.circular;
  order = s.order;
}

-- the node was seen, and no node became unseen
abbrev pub SeesNode : List Place → List Place → ℕ → Type 0
SeesNode old new node = (v : ℕ) → place_at new v ≡ Unseen → (place_at old v ≡ Unseen) × (v ≡ node → ⊥)

-- ---- the work that is left

abbrev pub is_unseen : Place → ℕ
is_unseen Unseen = 1
is_unseen (On p) = 0
is_unseen Done = 0

unfoldable pub unseen : List Place → ℕ
unseen [] = 0
unseen (p ∷ ps) = is_unseen p + unseen ps

-- a number that each step of the walk makes smaller
abbrev pub left : State → ℕ
left s = unseen s.place * 2 ^ 66 + length s.steps + 2 * length s.segments

-- the last segment, and the last pending step
abbrev pub last_segment : State → Segment
last_segment s = segment_at s.segments (length s.segments - 1)

abbrev pub last_step : State → ℕ
last_step s = node_at s.steps (length s.steps - 1)

-- the last segment has a pending step
abbrev pub HasStep : State → Type 0
HasStep s = (0 < length s.segments) × ((last_segment s).steps_from < length s.steps)

abbrev pub dropped : State → State
dropped s = record s { steps = take (length s.steps - 1) s.steps }

abbrev pub joined_last : State → State
joined_last s = record s { segments = take (length s.segments - 1) s.segments }

-- the nodes of the last segment
abbrev pub last_nodes : State → List ℕ
last_nodes s = drop (last_segment s).path_from s.path

-- the flag says whether the nodes of a segment that ends are circular
abbrev pub TellsRing : Successors → List ℕ → Bool → Type 0
TellsRing next nodes ring =
    (length nodes ≡ 1 → Decides ring (Contains (next (node_at nodes 0)) (node_at nodes 0)))
    × ((length nodes ≡ 1 → ⊥) → ring ≡ true)

abbrev pub ended : Bool → State → State
ended ring s = record {
  path = take (last_segment s).path_from s.path;
  segments = take (length s.segments - 1) s.segments;
  steps = s.steps;
  place = set_all s.place (last_nodes s) Done;
  circular = set_all s.circular (last_nodes s) ring;
  order = s.order ++ last_nodes s;
}

-- one step of the walk: the new state is a walk, less work is left, and no node became unseen
pub record Turned (next : Successors) (count : ℕ) (old new : State) : Type 0 where
  pub walk : IsWalk next count new
  pub less : left new < left old
  pub stays : (v : ℕ) → place_at new.place v ≡ Unseen → place_at old.place v ≡ Unseen
