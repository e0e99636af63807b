-- The views of instructions, switches and their iterators, as functions of their bytes.
use Rattle.std.specs.Prelude.{◌≡◌, ℕ, ◌+◌, ◌-ℤ◌, ◌*◌, ◌<◌, ◌^◌, nat_abs, List, [], length, drop}
use Rattle.std.specs.Prelude.{Option, Some, None, option_map, if◌then◌else◌, nat_lt}
use Rattle.jc_base.specs.Endian.{big_number}
use Rattle.jc_base.specs.Cursor.{Reading}
use Rattle.jc_view.specs.Moves.{Lends}
use Rattle.jc_view.specs.Reading.{after, after_each, each_value}
use Rattle.jc_code.specs.declared.switch.TableSwitch.TheInside as tables
use Rattle.jc_code.specs.declared.switch.LookupSwitch.TheInside as lookups
use Rattle.jc_code.specs.declared.switch.Targets.TheInside as targets
use Rattle.jc_code.specs.declared.switch.Cases.TheInside as cases
use Rattle.jc_code.specs.declared.insn.Insn.{Insn}
use Rattle.jc_code.specs.declared.opcode.Operands.{Operands}
use Rattle.jc_code.specs.Opcodes.{operands_of}
use Rattle.jc_code.specs.Switches.{TableSwitch, LookupSwitch, TargetsLeft, CasesLeft}
use Rattle.jc_code.specs.InsnsLeft.{InsnsLeft}
use Rattle.jc_code.specs.InsnReading.{end_from, insns_from, int_value, target_value, case_value, target_count}

abbrev pub same : {X : Type 0} → X → X
same x = x

-- the operands after an opcode are read by their kind
abbrev pub LendsOperands : (Operands → List ℕ → Option (List ℕ)) → (Operands → List ℕ → Insn) → ℕ
    → Reading → Option Insn → Reading → Type 0
LendsOperands after_it value opcode old result new =
    (what : Operands) → operands_of opcode ≡ Some what → Lends same (after_it what) (value what) old result new

-- the instructions at the start of the bytes, which are at a place of the code
abbrev pub insns_left : ℕ → List ℕ → InsnsLeft
insns_left at xs = record { place = at; left = insns_from at xs; end = end_from at xs }

abbrev pub targets_left : targets.Inside → TargetsLeft
targets_left t = record { place = t.place; left = each_value (after 4) (target_value t.place) t.left t.cursor.rest }

-- the cursor has the table and no other bytes
abbrev pub AreTargets : targets.Inside → Type 0
AreTargets t = after_each (after 4) t.left t.cursor.rest ≡ Some []

abbrev pub cases_left : cases.Inside → CasesLeft
cases_left t = record { place = t.place; left = each_value (after 8) (case_value t.place) t.left t.cursor.rest }

abbrev pub AreCases : cases.Inside → Type 0
AreCases t = after_each (after 8) t.left t.cursor.rest ≡ Some []

-- ---- the bytes of a switch, from its default target on

-- the number of bytes of a head and its entries, if the head is whole and has a count of entries
abbrev pub size_with : ℕ → ℕ → Option ℕ → List ℕ → Option ℕ
size_with head entry count xs = if nat_lt (length xs) head then None else option_map (λ n. head + entry * n) count

-- a tableswitch: the default target, the lowest and the highest value, then the targets
abbrev pub table_count : List ℕ → Option ℕ
table_count xs = target_count (int_value (drop 4 xs)) (int_value (drop 8 xs))

abbrev pub table_size : List ℕ → Option ℕ
table_size xs = size_with 12 4 (table_count xs) xs

abbrev pub table_at : ℕ → List ℕ → TableSwitch
table_at place xs = record {
  default = target_value place xs;
  low = int_value (drop 4 xs);
  high = int_value (drop 8 xs);
  targets = record {
    place = place;
    left = each_value (after 4) (target_value place) (nat_abs (int_value (drop 8 xs) -ℤ int_value (drop 4 xs)) + 1) (drop 12 xs);
  };
}

-- a lookupswitch: the default target, the number of cases, then the cases
abbrev pub lookup_count : List ℕ → Option ℕ
lookup_count xs = if nat_lt (big_number 4 (drop 4 xs)) (2 ^ 31) then Some (big_number 4 (drop 4 xs)) else None

abbrev pub lookup_size : List ℕ → Option ℕ
lookup_size xs = size_with 8 8 (lookup_count xs) xs

abbrev pub lookup_at : ℕ → List ℕ → LookupSwitch
lookup_at place xs = record {
  default = target_value place xs;
  cases = record { place = place; left = each_value (after 8) (case_value place) (big_number 4 (drop 4 xs)) (drop 8 xs) };
}

-- the bytes are exactly those of one switch, in a method's code
abbrev pub IsWhole : (List ℕ → Option ℕ) → List ℕ → Type 0
IsWhole size xs = (size xs ≡ Some (length xs)) × (length xs < 2 ^ 16)

abbrev pub table_switch : tables.Inside → TableSwitch
table_switch t = table_at t.place t.bytes.now

abbrev pub IsTableBytes : tables.Inside → Type 0
IsTableBytes t = IsWhole table_size t.bytes.now

abbrev pub lookup_switch : lookups.Inside → LookupSwitch
lookup_switch t = lookup_at t.place t.bytes.now

abbrev pub IsLookupBytes : lookups.Inside → Type 0
IsLookupBytes t = IsWhole lookup_size t.bytes.now
