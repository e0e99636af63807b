-- What is known of the transitive supertypes of a class.
use Rattle.std.specs.Prelude.{◌≡◌, ℕ, List, [], ◌∷◌, length, Some}
use Rattle.std.specs.List.{filter}
use Rattle.jc_graph.specs.Seen.{TellsAbove}
use Rattle.jc_graph.specs.declared.seen.Seen.{Seen}
use Rattle.jc_numbered.specs.declared.above.Above.{Above}
use Rattle.jc_numbered.specs.inside.Indexed.{Indexed}
use Rattle.jc_numbered.specs.inside.Picks.{is_interface_at}
use Rattle.jc_numbered.specs.inside.Outside.{TellsOutsideAbove}

-- the nodes seen are the transitive supertypes of the nodes `starts`
abbrev pub SeesAbove : ℕ → Indexed → List ℕ → Seen → Type 0
SeesAbove count x starts s = TellsAbove count x.supertypes starts s.flags s.list

-- the value is right for the transitive supertypes of `start`
pub record IsAbove (count : ℕ) (x : Indexed) (start : ℕ) (a : Above) : Type 0 where
  pub seen : SeesAbove count x (start ∷ []) a.seen
  pub interfaces : a.interfaces.items ≡ filter (is_interface_at x) a.seen.list
  pub outside : TellsOutsideAbove x start a.outside

-- the value is right for the class that was asked for, if there is one
pub record Knows (count : ℕ) (x : Indexed) (a : Above) : Type 0 where
  pub size : length a.seen.flags ≡ count
  pub asked : (start : ℕ) → a.start ≡ Some start → IsAbove count x start a
