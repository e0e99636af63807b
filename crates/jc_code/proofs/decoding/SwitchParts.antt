-- A switch is the numbers before its table, and the table.
use Rattle.std.specs.Prelude.{ℤ, pos, ◌+ℤ◌, ◌-ℤ◌, int_le, nat_abs}
use Rattle.std.specs.Int.{cast_signed, w32}
use Rattle.std.proofs.Common.{◌≡◌, ℕ, ◌+◌, ◌-◌, ◌*◌, ◌^◌, ◌<◌, cond, ltb, List, take, drop, Some, None, option_and_then, refl, sym, ap, ◌∙◌, arith}
use Rattle.std.proofs.lemmas.Bool.{lt-ltb}
use Rattle.std.proofs.lemmas.List.{drop-take}
use Rattle.std.proofs.lemmas.Option.{cond_some}
use Rattle.jc_base.specs.Endian.{big_number}
use Rattle.jc_base.proofs.Numbers.{big_from-take}
use Rattle.jc_view.specs.Reading.{after, each_value}
use Rattle.jc_view.proofs.reading.BigEndian.{after_some}
use Rattle.jc_code.specs.declared.insn.Insn.TheVariants as insns
use Rattle.jc_code.specs.declared.switch.Case.{Case}
use Rattle.jc_code.specs.InsnReading.{pad, target_value, case_value, low_value, high_value, case_count, target_count, after_table_switch, table_switch_value, after_lookup_switch, lookup_switch_value}
use Rattle.jc_code.proofs.decoding.Tables.{IsInFront}

-- the numbers before the table of a tableswitch
pub record TableHead : Type 0 where
  pub default : ℤ
  pub low : ℤ
  pub high : ℤ

abbrev pub table_head_value : ℕ → List ℕ → TableHead
table_head_value at xs = record { default = target_value at (drop (pad at) xs); low = low_value at xs; high = high_value at xs }

-- the numbers before the table of a lookupswitch
pub record LookupHead : Type 0 where
  pub default : ℤ
  pub count : ℕ

abbrev pub lookup_head_value : ℕ → List ℕ → LookupHead
lookup_head_value at xs = record { default = target_value at (drop (pad at) xs); count = case_count at xs }

pub target_in_front : (at : ℕ) → IsInFront 4 (target_value at)
target_in_front at m xs le = ap (λ (n : ℕ). pos at +ℤ cast_signed w32 n) (big_from-take 0 4 m xs le)

case_is : (a b x y : ℕ) (at : ℕ) → a ≡ x → b ≡ y
    → ◌≡◌ {A = Case} (record { value = cast_signed w32 a; target = pos at +ℤ cast_signed w32 b }) (record { value = cast_signed w32 x; target = pos at +ℤ cast_signed w32 y })
case_is a b x y at e f i = record { value = cast_signed w32 (e i); target = pos at +ℤ cast_signed w32 (f i) }

pub case_in_front : (at : ℕ) → IsInFront 8 (case_value at)
case_in_front at m xs le =
    let size : m ≡ 4 + (m - 4) = omega arith in
    let behind : drop 4 (take m xs) ≡ take (m - 4) (drop 4 xs) = ap (λ (k : ℕ). drop 4 (take k xs)) size ∙ drop-take 4 (m - 4) xs in
    case_is _ _ _ _ at (big_from-take 0 4 m xs (omega arith)) (ap (big_number 4) behind ∙ big_from-take 0 4 (m - 4) (drop 4 xs) (omega arith))

-- ---- a tableswitch

pub count_is : (n : ℕ) (low high : ℤ) → Some n ≡ target_count low high → n ≡ nat_abs (high -ℤ low) + 1
count_is n low high e = sym (cond_some (int_le low high) (nat_abs (high -ℤ low) + 1) n (sym e)).1

module _ (at : ℕ) (xs ys : List ℕ) (head : TableHead) (count : ℕ) (front : after (pad at + 12) xs ≡ Some ys) (is_head : head ≡ table_head_value at xs) (is_count : Some count ≡ target_count head.low head.high) where
  pub behind_table_switch : after_table_switch at xs ≡ after (4 * count) ys
  behind_table_switch =
      let told : target_count (table_head_value at xs).low (table_head_value at xs).high ≡ Some count = sym (is_count ∙ ap (λ (h : TableHead). target_count h.low h.high) is_head) in
      ap (option_and_then (λ rest. option_and_then (λ n. after (4 * n) rest) (target_count (table_head_value at xs).low (table_head_value at xs).high))) front
      ∙ ap (option_and_then (λ n. after (4 * n) ys)) told

  pub table_switch_is : (left : List ℤ) → left ≡ each_value (after 4) (target_value at) count ys
      → insns.TableSwitch (record { default = head.default; low = head.low; high = head.high; targets = record { place = at; left = left } }) ≡ table_switch_value at xs
  table_switch_is left e =
      let told : count ≡ nat_abs ((table_head_value at xs).high -ℤ (table_head_value at xs).low) + 1 = count_is count head.low head.high is_count ∙ ap (λ (h : TableHead). nat_abs (h.high -ℤ h.low) + 1) is_head in
      let here : ys ≡ drop (pad at + 12) xs = sym (after_some (pad at + 12) xs ys front).left in
      let targets = e ∙ ap (each_value (after 4) (target_value at) count) here ∙ ap (λ (n : ℕ). each_value (after 4) (target_value at) n (drop (pad at + 12) xs)) told in
      ap (λ (h : TableHead). insns.TableSwitch (record { default = h.default; low = h.low; high = h.high; targets = record { place = at; left = left } })) is_head
      ∙ ap (λ (zs : List ℤ). insns.TableSwitch (record { default = (table_head_value at xs).default; low = (table_head_value at xs).low; high = (table_head_value at xs).high; targets = record { place = at; left = zs } })) targets

-- ---- a lookupswitch

module _ (at : ℕ) (xs ys : List ℕ) (head : LookupHead) (front : after (pad at + 8) xs ≡ Some ys) (is_head : head ≡ lookup_head_value at xs) (few : head.count < 2 ^ 31) where
  pub behind_lookup_switch : after_lookup_switch at xs ≡ after (8 * head.count) ys
  behind_lookup_switch =
      let told : (lookup_head_value at xs).count ≡ head.count = ap (λ (h : LookupHead). h.count) (sym is_head) in
      ap (option_and_then (λ rest. cond (ltb (lookup_head_value at xs).count (2 ^ 31)) (after (8 * (lookup_head_value at xs).count) rest) None)) front
      ∙ ap (λ (n : ℕ). cond (ltb n (2 ^ 31)) (after (8 * n) ys) None) told
      ∙ rw (lt-ltb head.count (2 ^ 31) few) refl

  pub lookup_switch_is : (left : List Case) → left ≡ each_value (after 8) (case_value at) head.count ys
      → insns.LookupSwitch (record { default = head.default; cases = record { place = at; left = left } }) ≡ lookup_switch_value at xs
  lookup_switch_is left e =
      let here : ys ≡ drop (pad at + 8) xs = sym (after_some (pad at + 8) xs ys front).left in
      ap (λ (cs : List Case). insns.LookupSwitch (record { default = head.default; cases = record { place = at; left = cs } })) (e ∙ ap (each_value (after 8) (case_value at) head.count) here)
      ∙ ap (λ (h : LookupHead). insns.LookupSwitch (record { default = h.default; cases = record { place = at; left = each_value (after 8) (case_value at) h.count (drop (pad at + 8) xs) } })) is_head
