-- What is left of an iterator over instructions.
use Rattle.std.specs.Prelude.{◌≡◌, ℕ, List, [], ◌∷◌, Option}
use Rattle.std.specs.Option.{MatchOption}
use Rattle.jc_code.specs.declared.insn.Insn.{Insn}

-- the place reached, the instructions that are left, and the place where they end
pub record InsnsLeft : Type 0 where
  pub place : ℕ
  pub left : List (ℕ × Insn)
  pub end : ℕ

-- one step: the first instruction that is left, which is at the place reached. If none is left, the end is reached
abbrev pub GivesInsn : InsnsLeft → Option (ℕ × Insn) → InsnsLeft → Type 0
GivesInsn old result new =
    (new.end ≡ old.end)
    × MatchOption result
    ((old.left ≡ []) × (new.left ≡ []) × (old.place ≡ old.end) × (new.place ≡ old.end))
    (λ item. (old.left ≡ item ∷ new.left) × (item.0 ≡ old.place))
