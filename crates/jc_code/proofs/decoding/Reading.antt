-- Reading an instruction by its opcode.
use Rattle.std.proofs.Common.{◌≡◌, ℕ, ◌≤◌, List, [], ◌∷◌, length, Option, Some, None, refl, sym, ap, subst, ◌∙◌, arith}
use Rattle.std.proofs.lemmas.List.{length-drop}
use Rattle.jc_base.specs.Cursor.{Reading, past}
use Rattle.jc_base.specs.Endian.{big_number}
use Rattle.jc_view.specs.Moves.{Lends}
use Rattle.jc_code.specs.declared.opcode.Operands.{Operands}
use Rattle.jc_code.specs.declared.insn.Insn.{Insn}
use Rattle.jc_code.specs.Opcodes.{opcode_at, operands_of}
use Rattle.jc_code.specs.InsnReading.{first_operands, after_operands, operands_value, after_insn, insn_value, after_widened, widened_value, after_wide, wide_value}
use Rattle.jc_code.specs.inside.Decoding.{same}
use Rattle.jc_code.proofs.decoding.Opcodes.{no_operands}

pub first_operands_are : (xs : List ℕ) → 1 ≤ length xs → first_operands xs ≡ operands_of (big_number 1 xs)
first_operands_are [] le = absurd (omega arith)
first_operands_are (x ∷ xs) le = ap operands_of (omega arith)

-- no opcode stands at the front
pub no_first : (xs : List ℕ) (n : ℕ) → 1 ≤ length xs → n ≡ big_number 1 xs → None ≡ opcode_at n → first_operands xs ≡ None
no_first xs n le e none = first_operands_are xs le ∙ ap operands_of (sym e) ∙ no_operands n none

pub insn_cut : (at : ℕ) (xs : List ℕ) → first_operands xs ≡ None → after_insn at xs ≡ None
unfolding after_insn
insn_cut at xs e = rw e refl

module _ (old new : Reading) (what : Operands) (first : first_operands old.rest ≡ Some what) (long : 1 ≤ length old.rest) where
  pub insn_lends : (result : Option Insn) → Lends same (after_operands old.place what) (operands_value old.place (big_number 1 old.rest) what) (past 1 old) result new
      → Lends same (after_insn old.place) (insn_value old.place) old result new
  unfolding after_insn insn_value
  insn_lends None h = rw first h
  insn_lends (Some insn) h = (rw first h.0, (let keeps = h.1 in omega (arith, length-drop 1 old.rest)), h.2 ∙ rw first refl)

  wide_lends : (result : Option Insn) → Lends same (after_widened what) (widened_value (big_number 1 old.rest) what) (past 1 old) result new
      → Lends same after_wide wide_value old result new
  wide_lends None h = rw first h
  wide_lends (Some insn) h = (rw first h.0, (let keeps = h.1 in omega (arith, length-drop 1 old.rest)), h.2 ∙ rw first refl)

  -- the same from a place, an opcode and a cursor that are these
  pub insn_lends_at : (at opcode : ℕ) (mid : Reading) (result : Option Insn) → at ≡ old.place → opcode ≡ big_number 1 old.rest → mid ≡ past 1 old
      → Lends same (after_operands at what) (operands_value at opcode what) mid result new → Lends same (after_insn old.place) (insn_value old.place) old result new
  insn_lends_at at opcode mid result e f g h =
      let placed = subst (λ (p : ℕ). Lends same (after_operands p what) (operands_value p opcode what) mid result new) e h in
      let told = subst (λ (o : ℕ). Lends same (after_operands old.place what) (operands_value old.place o what) mid result new) f placed in
      insn_lends result (subst (λ (r : Reading). Lends same (after_operands old.place what) (operands_value old.place (big_number 1 old.rest) what) r result new) g told)

  -- behind `wide`, from an opcode and a cursor that are these
  pub wide_lends_at : (opcode : ℕ) (mid : Reading) (result : Option Insn) → opcode ≡ big_number 1 old.rest → mid ≡ past 1 old
      → Lends same (after_widened what) (widened_value opcode what) mid result new → Lends same after_wide wide_value old result new
  wide_lends_at opcode mid result f g h =
      let told = subst (λ (o : ℕ). Lends same (after_widened what) (widened_value o what) mid result new) f h in
      wide_lends result (subst (λ (r : Reading). Lends same (after_widened what) (widened_value (big_number 1 old.rest) what) r result new) g told)
