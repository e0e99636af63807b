-- Names by number: the number of a name is its index in a list that has each name once.
use Rattle.std.specs.Prelude.{◌≡◌, ℕ, ◌+◌, ◌<◌, ◌≤◌, List, [], ◌++◌, map, length, slice_index_or}
use Rattle.std.specs.List.{Contains, All}
use Rattle.jc_classes.specs.Names.{Name}

abbrev pub name_at : List Name → ℕ → Name
name_at names i = slice_index_or names i []

-- the names are distinct
abbrev pub IsOnce : List Name → Type 0
IsOnce names = (i j : ℕ) → i < length names → j < length names → name_at names i ≡ name_at names j → i ≡ j

-- `new` is `old` with some of the names of `added` at its end, and has each name once
pub record Grows (old new added : List Name) : Type 0 where
  pub once : IsOnce new
  pub longer : length old ≤ length new
  pub few : length new ≤ length old + length added
  pub same : (i : ℕ) → i < length old → name_at new i ≡ name_at old i
  pub only : (i : ℕ) → length old ≤ i → i < length new → Contains added (name_at new i)

-- the numbers in `numbers2` name, by `new`, what those in `numbers` name by `old`, and then the names of `added`
pub record AddsNumbers (old : List Name) (numbers : List ℕ) (new : List Name) (numbers2 : List ℕ) (added : List Name) : Type 0 where
  pub grows : Grows old new added
  pub nodes : All (λ v. v < length new) numbers2
  pub named : map (name_at new) numbers2 ≡ map (name_at old) numbers ++ added
