-- The choice among superinterface methods.
use Rattle.std.specs.Prelude.{◌≡◌, ℕ, ◌⊎◌, Bool, true, false, List, Option, Some, None}
use Rattle.std.specs.List.{Contains}
use Rattle.jc_classes.specs.Facts.{Key}
use Rattle.jc_numbered.specs.inside.Indexed.{Indexed}
use Rattle.jc_numbered.specs.inside.Picks.{is_pick, IsLowest}

-- no other node of the list passes the test
abbrev pub NoOther : (ℕ → Bool) → List ℕ → ℕ → Type 0
NoOther p nodes v = (w : ℕ) → Contains nodes w → p w ≡ true → w ≡ v

-- the only node of the list that passes the test
pub record IsSole (p : ℕ → Bool) (nodes : List ℕ) (v : ℕ) : Type 0 where
  pub listed : Contains nodes v
  pub passes : p v ≡ true
  pub only : NoOther p nodes v

abbrev pub TellsSole : (ℕ → Bool) → List ℕ → Option ℕ → Type 0
TellsSole p nodes None = (v : ℕ) → IsSole p nodes v → ⊥
TellsSole p nodes (Some v) = IsSole p nodes v

abbrev pub TellsFirst : (ℕ → Bool) → List ℕ → Option ℕ → Type 0
TellsFirst p nodes None = (v : ℕ) → Contains nodes v → p v ≡ false
TellsFirst p nodes (Some v) = Contains nodes v × (p v ≡ true)

-- the node that is the only pick, or else the node with the least name
abbrev pub TellsPick : Indexed → Key → List Bool → List ℕ → Option ℕ → Type 0
TellsPick x k covered nodes None = (v : ℕ) → Contains nodes v → ⊥
TellsPick x k covered nodes (Some v) =
    IsSole (is_pick x k covered) nodes v ⊎ (((w : ℕ) → IsSole (is_pick x k covered) nodes w → ⊥) × IsLowest x nodes v)
