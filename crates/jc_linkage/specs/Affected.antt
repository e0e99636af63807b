-- The classes that an edit affects, the parts that it computes, and the names that it looks up.
use Rattle.std.specs.Prelude.{◌≡◌, ◌≤◌, ℕ, ◌+◌, ◌-◌, Bool, true, false, List, [], ◌∷◌, length}
use Rattle.jc_classes.specs.Laws.{Hits}
use Rattle.jc_classes.specs.NameLists.{has, Lists}
use Rattle.jc_classes.specs.Names.{Name}
use Rattle.jc_classes.specs.Parts.{Reach}
use Rattle.jc_classes.specs.Worlds.{World}
use Rattle.jc_link.specs.Meters.{Counts, counted}
use Rattle.jc_link.specs.Graphs.{IsReached}
use Rattle.jc_link.specs.declared.meter.Meter.{Meter}

abbrev pub NoRepeat : List Name → Type 0
NoRepeat [] = Unit {0}
NoRepeat (x ∷ xs) = (has xs x ≡ false) × NoRepeat xs

-- the names that have the property P, each once
pub record Enumerates (names : List Name) (P : Name → Type 0) : Type 0 where
  pub once : NoRepeat names
  pub sound : (n : Name) → has names n ≡ true → P n
  pub complete : (n : Name) → P n → has names n ≡ true

-- files give the class, and its reach has a touched name
abbrev pub IsAffected : (given : Name → Bool) → World → (touched : Name → Bool) → Name → Type 0
IsAffected given m touched d = (given d ≡ true) × Hits touched m d

-- the names of the reach of each class, in the order of the classes
abbrev pub AreReaches : World → List Name → List (List Name) → Type 0
AreReaches m [] [] = Unit {0}
AreReaches m (d ∷ ds) (r ∷ rs) = Lists r (Reach m d) × AreReaches m ds rs
AreReaches m [] (r ∷ rs) = ⊥
AreReaches m (d ∷ ds) [] = ⊥

abbrev pub sum_of_lengths : List (List Name) → ℕ
sum_of_lengths [] = 0
sum_of_lengths (r ∷ rs) = length r + sum_of_lengths rs

-- ---- the cost of an edit

abbrev pub counts_of : Meter → Counts
counts_of meter = record { asks = meter.asks; made = meter.made }

-- one part was computed for each affected class, and each name that these classes reach was looked up once
pub record IsCounted (given : Name → Bool) (m : World) (touched : Name → Bool) (old new : Counts) : Type 0 where
  pub affected : List Name
  pub reaches : List (List Name)
  pub reached : List Name
  pub are_affected : Enumerates affected (IsAffected given m touched)
  pub are_reaches : AreReaches m affected reaches
  pub are_reached : Enumerates reached (IsReached m affected)
  pub made : new.made ≡ counted old.made (length affected)
  pub asks : new.asks ≡ counted old.asks (length reached)

-- ---- bounds of the cost

-- at most one part per affected class is computed, and at most as many names are looked up as their reaches have, plus
-- two
pub record IsBounded (given : Name → Bool) (m : World) (touched : Name → Bool) (made asks : ℕ) : Type 0 where
  pub affected : List Name
  pub reaches : List (List Name)
  pub are_affected : Enumerates affected (IsAffected given m touched)
  pub are_reaches : AreReaches m affected reaches
  pub made_few : made ≤ length affected
  pub asked_few : asks ≤ 2 + sum_of_lengths reaches

-- exact counts are within the bounds
abbrev pub CountsAreBounded : Type 0
CountsAreBounded = (given : Name → Bool) (m : World) (touched : Name → Bool) (old new : Counts)
    → IsCounted given m touched old new → IsBounded given m touched (new.made - old.made) (new.asks - old.asks)
