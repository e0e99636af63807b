-- The instructions that are decoded from bytes, as functions that compute. The law `codes_are_read` says that they are
-- the instructions of `Insns`.
use Rattle.std.specs.Prelude.{ℕ, zero, suc, ◌+◌, ◌-◌, ◌*◌, ◌%◌, ◌^◌, ℤ, pos}
use Rattle.std.specs.Prelude.{◌+ℤ◌, ◌-ℤ◌, int_le, nat_abs, true, false, List, [], ◌∷◌}
use Rattle.std.specs.Prelude.{length, drop, Option, Some, None, if◌then◌else◌, nat_lt, option_and_then}
use Rattle.std.specs.Option.{option_map_or}
use Rattle.std.specs.Int.{cast_signed, w8, w16, w32}
use Rattle.jc_base.specs.Endian.{big_number}
use Rattle.jc_view.specs.ConstantPool.{index_value}
use Rattle.jc_view.specs.Reading.{after, each_value}
use Rattle.jc_code.specs.declared.opcode.Operands.{Operands}
use Rattle.jc_code.specs.declared.opcode.Operands.TheVariants as operands
use Rattle.jc_code.specs.declared.insn.Insn.{Insn}
use Rattle.jc_code.specs.declared.insn.Insn.TheVariants as insns
use Rattle.jc_code.specs.declared.switch.Case.{Case}
use Rattle.jc_code.specs.Opcodes.{operands_of, operand_size}

-- ---- signed numbers

abbrev pub byte_value : List ℕ → ℤ
byte_value xs = cast_signed w8 (big_number 1 xs)

abbrev pub short_value : List ℕ → ℤ
short_value xs = cast_signed w16 (big_number 2 xs)

abbrev pub int_value : List ℕ → ℤ
int_value xs = cast_signed w32 (big_number 4 xs)

-- the target of an instruction at a place, from its offset
abbrev pub target_value : ℕ → List ℕ → ℤ
target_value at xs = pos at +ℤ int_value xs

-- ---- tables of switches

abbrev pub case_value : ℕ → List ℕ → Case
case_value at xs = record { value = int_value xs; target = target_value at (drop 4 xs) }

-- the number of bytes of the pad, which follows the opcode of a switch at a place
abbrev pub pad : ℕ → ℕ
pad at = 3 - at % 4

-- in a tableswitch the default target follows the pad, then the lowest and the highest value
abbrev pub low_value : ℕ → List ℕ → ℤ
low_value at xs = int_value (drop (pad at + 4) xs)

abbrev pub high_value : ℕ → List ℕ → ℤ
high_value at xs = int_value (drop (pad at + 8) xs)

-- the number of targets of a tableswitch; none if the lowest value is above the highest
abbrev pub target_count : ℤ → ℤ → Option ℕ
target_count low high = if int_le low high then Some (nat_abs (high -ℤ low) + 1) else None

abbrev pub after_table_switch : ℕ → List ℕ → Option (List ℕ)
after_table_switch at xs =
    option_and_then
    (λ rest. option_and_then (λ count. after (4 * count) rest) (target_count (low_value at xs) (high_value at xs)))
    (after (pad at + 12) xs)

abbrev pub table_switch_value : ℕ → List ℕ → Insn
table_switch_value at xs =
    insns.TableSwitch (record {
      default = target_value at (drop (pad at) xs);
      low = low_value at xs;
      high = high_value at xs;
      targets = record {
        place = at;
        left = each_value (after 4) (target_value at) (nat_abs (high_value at xs -ℤ low_value at xs) + 1) (drop (pad at + 12) xs);
      };
    })

-- the number of cases of a lookupswitch
abbrev pub case_count : ℕ → List ℕ → ℕ
case_count at xs = big_number 4 (drop (pad at + 4) xs)

abbrev pub after_lookup_switch : ℕ → List ℕ → Option (List ℕ)
after_lookup_switch at xs =
    option_and_then
    (λ rest. if nat_lt (case_count at xs) (2 ^ 31) then after (8 * case_count at xs) rest else None)
    (after (pad at + 8) xs)

abbrev pub lookup_switch_value : ℕ → List ℕ → Insn
lookup_switch_value at xs =
    insns.LookupSwitch (record {
      default = target_value at (drop (pad at) xs);
      cases = record { place = at; left = each_value (after 8) (case_value at) (case_count at xs) (drop (pad at + 8) xs) };
    })

-- ---- operands

-- what is left after operands in their wide form
abbrev pub after_widened : Operands → List ℕ → Option (List ℕ)
after_widened (operands.Local slots) xs = after 2 xs
after_widened operands.Increment xs = after 4 xs
after_widened what xs = None

abbrev pub widened_value : ℕ → Operands → List ℕ → Insn
widened_value opcode operands.Increment xs = insns.Increment (big_number 2 xs) (short_value (drop 2 xs)) true
widened_value opcode what xs = insns.Local opcode (big_number 2 xs) true

-- the kind of operands of the opcode in the first byte
abbrev pub first_operands : List ℕ → Option Operands
first_operands [] = None
first_operands (opcode ∷ xs) = operands_of opcode

abbrev pub after_wide : List ℕ → Option (List ℕ)
after_wide xs = option_and_then (λ what. after_widened what (drop 1 xs)) (first_operands xs)

abbrev pub wide_value : List ℕ → Insn
wide_value xs = option_map_or (λ what. widened_value (big_number 1 xs) what (drop 1 xs)) (first_operands xs) (insns.Plain 0)

abbrev pub after_operands : ℕ → Operands → List ℕ → Option (List ℕ)
after_operands at operands.TableSwitch xs = after_table_switch at xs
after_operands at operands.LookupSwitch xs = after_lookup_switch at xs
after_operands at operands.Wide xs = after_wide xs
after_operands at what xs = after (operand_size what) xs

abbrev pub operands_value : ℕ → ℕ → Operands → List ℕ → Insn
operands_value at opcode operands.Empty xs = insns.Plain opcode
operands_value at opcode (operands.ImplicitLocal index slots) xs = insns.Plain opcode
operands_value at opcode (operands.Local slots) xs = insns.Local opcode (big_number 1 xs) false
operands_value at opcode operands.Byte xs = insns.Push opcode (byte_value xs)
operands_value at opcode operands.Short xs = insns.Push opcode (short_value xs)
operands_value at opcode operands.ShortLoad xs = insns.Ldc opcode (record { 0 = big_number 1 xs })
operands_value at opcode operands.Load xs = insns.Ldc opcode (index_value xs)
operands_value at opcode operands.Increment xs = insns.Increment (big_number 1 xs) (byte_value (drop 1 xs)) false
operands_value at opcode operands.Branch xs = insns.Branch opcode (pos at +ℤ short_value xs)
operands_value at opcode operands.WideBranch xs = insns.Branch opcode (target_value at xs)
operands_value at opcode operands.TableSwitch xs = table_switch_value at xs
operands_value at opcode operands.LookupSwitch xs = lookup_switch_value at xs
operands_value at opcode operands.Field xs = insns.Field opcode (index_value xs)
operands_value at opcode operands.Invoke xs = insns.Invoke opcode (index_value xs)
operands_value at opcode operands.InvokeInterface xs =
    insns.InvokeInterface (index_value xs) (big_number 1 (drop 2 xs)) (big_number 1 (drop 3 xs))
operands_value at opcode operands.InvokeDynamic xs = insns.InvokeDynamic (index_value xs) (big_number 2 (drop 2 xs))
operands_value at opcode operands.Type xs = insns.Type opcode (index_value xs)
operands_value at opcode operands.NewArray xs = insns.NewArray (big_number 1 xs)
operands_value at opcode operands.MultiNewArray xs = insns.MultiNewArray (index_value xs) (big_number 1 (drop 2 xs))
operands_value at opcode operands.Wide xs = wide_value xs

-- ---- instructions

-- what is left after the first instruction, which is at a place of the code
unfoldable pub after_insn : ℕ → List ℕ → Option (List ℕ)
after_insn at xs = option_and_then (λ what. after_operands at what (drop 1 xs)) (first_operands xs)

-- the first instruction
unfoldable pub insn_value : ℕ → List ℕ → Insn
insn_value at xs = option_map_or (λ what. operands_value at (big_number 1 xs) what (drop 1 xs)) (first_operands xs) (insns.Plain 0)

-- at most `fuel` instructions from a place on, and where they end
unfoldable pub insns_within : ℕ → ℕ → List ℕ → List (ℕ × Insn)
insns_within zero at xs = []
insns_within (suc fuel) at xs =
    option_map_or (λ rest. (at, insn_value at xs) ∷ insns_within fuel (at + length xs - length rest) rest) (after_insn at xs) []

unfoldable pub end_within : ℕ → ℕ → List ℕ → ℕ
end_within zero at xs = at
end_within (suc fuel) at xs = option_map_or (λ rest. end_within fuel (at + length xs - length rest) rest) (after_insn at xs) at

unfoldable pub insns_from : ℕ → List ℕ → List (ℕ × Insn)
insns_from at xs = insns_within (length xs) at xs

unfoldable pub end_from : ℕ → List ℕ → ℕ
end_from at xs = end_within (length xs) at xs

-- ---- the instructions of a code

-- the instructions of a code, one after another from its start
abbrev pub insns_of : List ℕ → List (ℕ × Insn)
insns_of code = insns_from 0 code

-- the place where these instructions end
abbrev pub end_of : List ℕ → ℕ
end_of code = end_from 0 code
