-- Switches and the iterators over their tables, as data (JVMS 6.5).
use Rattle.std.specs.Prelude.{◌≡◌, ℕ, ℤ, List, [], ◌∷◌, Option}
use Rattle.std.specs.Option.{MatchOption}
use Rattle.jc_code.specs.declared.switch.Case.{Case}

-- the place of a tableswitch in the code, and the targets that are left of it
pub record TargetsLeft : Type 0 where
  pub place : ℕ
  pub left : List ℤ

-- the place of a lookupswitch in the code, and the cases that are left of it
pub record CasesLeft : Type 0 where
  pub place : ℕ
  pub left : List Case

-- the target for all other values, the lowest and the highest value, and the targets of the values from low to high
pub record TableSwitch : Type 0 where
  pub default : ℤ
  pub low : ℤ
  pub high : ℤ
  pub targets : TargetsLeft

-- the target for all other values, and the cases
pub record LookupSwitch : Type 0 where
  pub default : ℤ
  pub cases : CasesLeft

-- one step of an iterator returns the first target that is left, or none if no target is left
abbrev pub GivesTarget : TargetsLeft → Option ℤ → TargetsLeft → Type 0
GivesTarget old result new =
    (new.place ≡ old.place) × MatchOption result ((old.left ≡ []) × (new.left ≡ [])) (λ target. old.left ≡ target ∷ new.left)

-- one step of an iterator returns the first case that is left, or none if no case is left
abbrev pub GivesCase : CasesLeft → Option Case → CasesLeft → Type 0
GivesCase old result new =
    (new.place ≡ old.place) × MatchOption result ((old.left ≡ []) × (new.left ≡ [])) (λ case. old.left ≡ case ∷ new.left)
