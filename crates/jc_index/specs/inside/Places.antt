-- Places in a sorted list of names.
use Rattle.std.specs.Prelude.{◌≡◌, ℕ, ◌<◌, ◌≤◌, List, length}
use Rattle.std.specs.declared.cmp.Ordering.TheVariants.{Less, Greater}
use Rattle.jc_classes.specs.Names.{Name, name_cmp}
use Rattle.jc_classes.specs.Numbers.{name_at}

abbrev pub StandsAt : List Name → Name → ℕ → Type 0
StandsAt names name at = (at < length names) × (name_at names at ≡ name)

-- the names before `low` are less than this name, and those from `high` on are greater
pub record IsNarrowed (names : List Name) (name : Name) (low high : ℕ) : Type 0 where
  pub ordered : low ≤ high
  pub fits : high ≤ length names
  pub below : (k : ℕ) → k < low → name_cmp (name_at names k) name ≡ Less
  pub above : (k : ℕ) → high ≤ k → k < length names → name_cmp (name_at names k) name ≡ Greater

-- the place where the name can be inserted
abbrev pub IsGapFor : List Name → Name → ℕ → Type 0
IsGapFor names name at = IsNarrowed names name at at
