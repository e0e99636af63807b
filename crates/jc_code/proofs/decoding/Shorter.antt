-- An instruction takes at least one byte.
use Rattle.std.proofs.Common.{◌≡◌, ℕ, ◌+◌, ◌*◌, ◌^◌, ◌<◌, ◌≤◌, cond, ltb, List, [], ◌∷◌, length, drop, Some, None, option_and_then, arith}
use Rattle.std.proofs.lemmas.List.{length-drop}
use Rattle.jc_view.specs.Reading.{after}
use Rattle.jc_view.proofs.reading.BigEndian.{then_some}
use Rattle.jc_view.proofs.reading.Codes.{test_is}
use Rattle.jc_view.proofs.places.Entries.{after_length}
use Rattle.jc_code.specs.declared.opcode.Operands.{Operands}
use Rattle.jc_code.specs.declared.opcode.Operands.TheVariants as operands
use Rattle.jc_code.specs.Opcodes.{operand_size}
use Rattle.jc_code.specs.InsnReading.{pad, low_value, high_value, target_count, case_count, first_operands, after_table_switch, after_lookup_switch, after_widened, after_wide, after_operands, after_insn}

after_fixed : (n : ℕ) (xs rest : List ℕ) → after n xs ≡ Some rest → length rest ≤ length xs
after_fixed n xs rest e = let size = after_length n xs rest e in omega arith

table_switch_size : (at : ℕ) (xs rest : List ℕ) → after_table_switch at xs ≡ Some rest → length rest ≤ length xs
table_switch_size at xs rest e =
    let told = target_count (low_value at xs) (high_value at xs) in
    let b = then_some (after (pad at + 12) xs) (λ ys. option_and_then (λ n. after (4 * n) ys) told) rest e in
    let d = then_some told (λ n. after (4 * n) b.0) rest b.2 in
    omega (arith, after_fixed (pad at + 12) xs b.0 b.1, after_fixed (4 * d.0) b.0 rest d.2)

lookup_switch_size : (at : ℕ) (xs rest : List ℕ) → after_lookup_switch at xs ≡ Some rest → length rest ≤ length xs
lookup_switch_size at xs rest e =
    let n = case_count at xs in
    let b = then_some (after (pad at + 8) xs) (λ ys. cond (ltb n (2 ^ 31)) (after (8 * n) ys) None) rest e in
    let d = test_is (ltb n (2 ^ 31)) (after (8 * n) b.0) rest b.2 in
    omega (arith, after_fixed (pad at + 8) xs b.0 b.1, after_fixed (8 * n) b.0 rest d.1)

widened_size : (what : Operands) (xs rest : List ℕ) → after_widened what xs ≡ Some rest → length rest ≤ length xs
widened_size (operands.Local slots) xs rest e = after_fixed 2 xs rest e
widened_size operands.Increment xs rest e = after_fixed 4 xs rest e
widened_size what xs rest e = absurd cc

wide_size : (xs rest : List ℕ) → after_wide xs ≡ Some rest → length rest ≤ length xs
wide_size xs rest e =
    let b = then_some (first_operands xs) (λ what. after_widened what (drop 1 xs)) rest e in
    omega (arith, widened_size b.0 (drop 1 xs) rest b.2, length-drop 1 xs)

operands_size : (at : ℕ) (what : Operands) (xs rest : List ℕ) → after_operands at what xs ≡ Some rest → length rest ≤ length xs
operands_size at operands.TableSwitch xs rest e = table_switch_size at xs rest e
operands_size at operands.LookupSwitch xs rest e = lookup_switch_size at xs rest e
operands_size at operands.Wide xs rest e = wide_size xs rest e
operands_size at what xs rest e = after_fixed (operand_size what) xs rest e

pub insn_shorter : (at : ℕ) (xs rest : List ℕ) → after_insn at xs ≡ Some rest → length rest < length xs
unfolding after_insn
insn_shorter at [] rest e = absurd cc
insn_shorter at (x ∷ xs) rest e =
    let b = then_some (first_operands (x ∷ xs)) (λ what. after_operands at what xs) rest e in
    let size = operands_size at b.0 xs rest b.2 in
    omega arith
