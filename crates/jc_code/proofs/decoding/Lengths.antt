-- How long a spelling is.
use Rattle.std.proofs.Common.{◌≡◌, ℕ, List, [], ◌∷◌, ◌++◌, length, Some, option_and_then, sym, ap, ◌∙◌, arith, length-append}
use Rattle.jc_view.proofs.places.Entries.{after_length}
use Rattle.jc_code.specs.declared.opcode.Operands.{Operands}
use Rattle.jc_code.specs.declared.opcode.Operands.TheVariants as operands
use Rattle.jc_code.specs.declared.insn.Insn.{Insn}
use Rattle.jc_code.specs.Opcodes.{operands_of, operand_size, HasSize}
use Rattle.jc_code.specs.Insns.{IsSpelling}
use Rattle.jc_code.specs.InsnReading.{after_operands, after_insn}
use Rattle.jc_code.proofs.decoding.ReadAgain.{insn_again}

sized_front : (at : ℕ) (what : Operands) (xs : List ℕ) → HasSize what → after_operands at what xs ≡ Some [] → length xs ≡ operand_size what
sized_front at operands.TableSwitch xs h e = absurd h
sized_front at operands.LookupSwitch xs h e = absurd h
sized_front at operands.Wide xs h e = absurd h
sized_front at what xs h e = let size = after_length (operand_size what) xs [] e in omega arith

behind_opcode : (at opcode : ℕ) (what : Operands) (xs : List ℕ) → operands_of opcode ≡ Some what → after_insn at (opcode ∷ xs) ≡ after_operands at what xs
unfolding after_insn
behind_opcode at opcode what xs e = ap (option_and_then (λ w. after_operands at w xs)) e

pub spelling_length : (at : ℕ) (insn : Insn) (opcode : ℕ) (s : List ℕ) (what : Operands) → IsSpelling at insn (opcode ∷ s) → operands_of opcode ≡ Some what → HasSize what → length s ≡ operand_size what
spelling_length at insn opcode s what is has sized =
    let again = insn_again at insn (opcode ∷ s) [] is in
    let front = sized_front at what (s ++ []) sized (sym (behind_opcode at opcode what (s ++ []) has) ∙ again.0) in
    omega (arith, length-append s [])
