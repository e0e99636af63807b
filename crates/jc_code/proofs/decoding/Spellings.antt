-- What is said of a spelling behind its opcode.
use Rattle.std.proofs.Common.{◌≡◌, ℕ, List, ◌∷◌, ◌++◌, Option, Some}
use Rattle.jc_view.proofs.reading.BigEndian.{Takes}
use Rattle.jc_code.specs.declared.insn.Insn.{Insn}
use Rattle.jc_code.specs.Insns.{IsSpelling}

-- what was read is spelled so
pub record TakesBody (at opcode : ℕ) (insn : Insn) (xs rest : List ℕ) : Type 0 where
  pub body : List ℕ
  pub spelling : IsSpelling at insn (opcode ∷ body)
  pub takes : Takes xs body rest

-- a spelling that is read again
pub record IsReadAgain (opcode : ℕ) (after_body : List ℕ → Option (List ℕ)) (read_as : List ℕ → Insn) (insn : Insn) (s rest : List ℕ) : Type 0 where
  pub body : List ℕ
  pub spelling : s ≡ opcode ∷ body
  pub left : after_body (body ++ rest) ≡ Some rest
  pub value : read_as (body ++ rest) ≡ insn
