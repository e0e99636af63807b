-- The number of bytes of a switch from its default target on, and what is read from these bytes alone.
use Rattle.std.specs.Prelude.{ℤ, ◌-ℤ◌, nat_abs}
use Rattle.std.specs.Int.{cast_signed, w32}
use Rattle.std.proofs.Common.{◌≡◌, ℕ, ◌+◌, ◌-◌, ◌*◌, ◌<◌, ◌≤◌, ◌^◌, Bool, true, false, cond, ltb, List, [], length, take, drop, Option, Some, None, option_map, option_and_then, refl, sym, ap, ◌∙◌, arith, inl, inr}
use Rattle.std.proofs.lemmas.Bool.{cases_lt, lt-ltb, le-ltb}
use Rattle.std.proofs.lemmas.List.{length-drop, length-take-le, take_all, drop-drop, drop-take}
use Rattle.std.proofs.lemmas.Option.{cond_some, none-some, same_Some}
use Rattle.jc_base.specs.Endian.{big_number}
use Rattle.jc_base.proofs.Numbers.{big_from-take}
use Rattle.jc_view.specs.Reading.{after, after_each, each_value}
use Rattle.jc_view.proofs.reading.BigEndian.{after_some, after_front}
use Rattle.jc_code.specs.declared.insn.Insn.TheVariants as insns
use Rattle.jc_code.specs.Switches.{TableSwitch, LookupSwitch}
use Rattle.jc_code.specs.InsnReading.{pad, int_value, target_value, case_value, low_value, high_value, target_count, case_count, after_table_switch, table_switch_value, after_lookup_switch, lookup_switch_value}
use Rattle.jc_code.specs.inside.Decoding.{size_with, table_count, table_size, table_at, lookup_count, lookup_size, lookup_at}
use Rattle.jc_code.proofs.decoding.Behind.{after_short}
use Rattle.jc_code.proofs.decoding.Tables.{part_is_whole, part_values}
use Rattle.jc_code.proofs.decoding.SwitchParts.{target_in_front, case_in_front, count_is}

-- ---- a head and its entries

-- bytes of two sizes, one after the other
after_sum : (m n : ℕ) (xs : List ℕ) → m ≤ length xs → after n (drop m xs) ≡ after (m + n) xs
after_sum m n xs le =
    elim (cases_lt (length xs) (m + n)) [
      | inl lt ↦ after_short n (drop m xs) (omega (arith, length-drop m xs)) ∙ sym (after_short (m + n) xs lt)
      | inr all ↦ after_front n (drop m xs) (omega (arith, length-drop m xs)) ∙ ap (λ (ys : List ℕ). Some ys) (drop-drop n m xs) ∙ sym (after_front (m + n) xs all)
    ]

-- the entries after the head of a switch
abbrev entries_after : ℕ → ℕ → Option ℕ → List ℕ → Option (List ℕ)
entries_after head entry count xs = option_and_then (λ rest. option_and_then (λ n. after (entry * n) rest) count) (after head xs)

-- as many bytes as a size says
abbrev pub after_size : Option ℕ → List ℕ → Option (List ℕ)
after_size size xs = option_and_then (λ n. after n xs) size

no_head : (head entry : ℕ) (count : Option ℕ) (xs : List ℕ) → length xs < head → size_with head entry count xs ≡ None
no_head head entry count xs lt = rw (lt-ltb _ _ lt) refl

whole_head : (head entry : ℕ) (count : Option ℕ) (xs : List ℕ) → head ≤ length xs → size_with head entry count xs ≡ option_map (λ n. head + entry * n) count
whole_head head entry count xs le = rw (le-ltb _ _ le) refl

counted : (head entry : ℕ) (count : Option ℕ) (xs : List ℕ) → head ≤ length xs
    → option_and_then (λ n. after (entry * n) (drop head xs)) count ≡ after_size (option_map (λ n. head + entry * n) count) xs
counted head entry None xs le = refl
counted head entry (Some n) xs le = after_sum head (entry * n) xs le

sized : (head entry : ℕ) (count : Option ℕ) (xs : List ℕ) → entries_after head entry count xs ≡ after_size (size_with head entry count xs) xs
sized head entry count xs =
    let entries = option_and_then (λ rest. option_and_then (λ n. after (entry * n) rest) count) in
    elim (cases_lt (length xs) head) [
      | inl lt ↦ ap entries (after_short head xs lt) ∙ ap (λ (size : Option ℕ). after_size size xs) (sym (no_head head entry count xs lt))
      | inr le ↦ ap entries (after_front head xs le) ∙ counted head entry count xs le ∙ ap (λ (size : Option ℕ). after_size size xs) (sym (whole_head head entry count xs le))
    ]

-- what a size says
record IsSized (head entry : ℕ) (count : Option ℕ) (xs : List ℕ) (size : ℕ) : Type 0 where
  pub entries : ℕ
  pub told : count ≡ Some entries
  pub long : head ≤ length xs
  pub sum : head + entry * entries ≡ size

size_told : (head entry : ℕ) (count : Option ℕ) (xs : List ℕ) (size : ℕ) → size_with head entry count xs ≡ Some size → IsSized head entry count xs size
size_told head entry None xs size e =
    elim (cases_lt (length xs) head) [
      | inl lt ↦ absurd (none-some size (sym (no_head head entry None xs lt) ∙ e))
      | inr le ↦ absurd (none-some size (sym (whole_head head entry None xs le) ∙ e))
    ]
size_told head entry (Some n) xs size e =
    elim (cases_lt (length xs) head) [
      | inl lt ↦ absurd (none-some size (sym (no_head head entry (Some n) xs lt) ∙ e))
      | inr le ↦ record { entries = n; told = refl; long = le; sum = same_Some (head + entry * n) size (sym (whole_head head entry (Some n) xs le) ∙ e) }
    ]

-- after the pad
behind_pad : (p k : ℕ) (xs ys : List ℕ) → after p xs ≡ Some ys → drop (p + k) xs ≡ drop k ys
behind_pad p k xs ys e = sym (drop-drop k p xs) ∙ ap (drop k) (after_some p xs ys e).left

head_behind : (p head : ℕ) (xs ys : List ℕ) → after p xs ≡ Some ys → after (p + head) xs ≡ after head ys
head_behind p head xs ys e = let f = after_some p xs ys e in sym (after_sum p head xs f.long) ∙ ap (after head) f.left

-- a number before the end of a part
int_in_front : (k m : ℕ) (xs : List ℕ) → k + 4 ≤ m → big_number 4 (drop k (take m xs)) ≡ big_number 4 (drop k xs)
int_in_front k m xs le =
    let size : m ≡ k + (m - k) = omega arith in
    ap (λ (j : ℕ). big_number 4 (drop k (take j xs))) size
    ∙ ap (big_number 4) (drop-take k (m - k) xs)
    ∙ big_from-take 0 4 (m - k) (drop k xs) (omega arith)

-- the part of a size has that size, if the count is read from the head
part_size : (head entry : ℕ) (count : List ℕ → Option ℕ) → ((m : ℕ) (xs : List ℕ) → head ≤ m → count (take m xs) ≡ count xs)
    → (size : ℕ) (xs : List ℕ) → size_with head entry (count xs) xs ≡ Some size → size ≤ length xs
    → size_with head entry (count (take size xs)) (take size xs) ≡ Some (length (take size xs))
part_size head entry count front size xs e le =
    let told = size_told head entry (count xs) xs size e in
    let sum = told.sum in
    let long : length (take size xs) ≡ size = length-take-le size xs le in
    whole_head head entry (count (take size xs)) (take size xs) (omega arith)
    ∙ ap (option_map (λ n. head + entry * n)) (front size xs (omega arith) ∙ told.told)
    ∙ ap (λ (n : ℕ). Some n) (sum ∙ sym long)

-- ---- a tableswitch

module _ (at : ℕ) (xs ys : List ℕ) (e : after (pad at) xs ≡ Some ys) where
  low_is : low_value at xs ≡ int_value (drop 4 ys)
  low_is = ap int_value (behind_pad (pad at) 4 xs ys e)

  high_is : high_value at xs ≡ int_value (drop 8 ys)
  high_is = ap int_value (behind_pad (pad at) 8 xs ys e)

  pub table_behind : after_table_switch at xs ≡ after_size (table_size ys) ys
  table_behind =
      let count : target_count (low_value at xs) (high_value at xs) ≡ table_count ys =
      ap (λ (z : ℤ). target_count z (high_value at xs)) low_is ∙ ap (target_count (int_value (drop 4 ys))) high_is in
      ap (λ (o : Option ℕ). entries_after (pad at + 12) 4 o xs) count
      ∙ ap (option_and_then (λ rest. option_and_then (λ n. after (4 * n) rest) (table_count ys))) (head_behind (pad at) 12 xs ys e)
      ∙ sized 12 4 (table_count ys) ys

table_is : (at : ℕ) (a b d x y z : ℤ) (n m : ℕ) (xs ys : List ℕ) → a ≡ x → b ≡ y → d ≡ z → each_value (after 4) (target_value at) n xs ≡ each_value (after 4) (target_value at) m ys
    → ◌≡◌ {A = TableSwitch} (record { default = a; low = b; high = d; targets = record { place = at; left = each_value (after 4) (target_value at) n xs } })
    (record { default = x; low = y; high = z; targets = record { place = at; left = each_value (after 4) (target_value at) m ys } })
table_is at a b d x y z n m xs ys e f g h i = record { default = e i; low = f i; high = g i; targets = record { place = at; left = h i } }

pub table_value_behind : (at : ℕ) (xs ys : List ℕ) → after (pad at) xs ≡ Some ys → table_switch_value at xs ≡ insns.TableSwitch (table_at at ys)
table_value_behind at xs ys e =
    let low = low_is at xs ys e in
    let high = high_is at xs ys e in
    let targets = each_value (after 4) (target_value at) in
    let count : nat_abs (high_value at xs -ℤ low_value at xs) + 1 ≡ nat_abs (int_value (drop 8 ys) -ℤ int_value (drop 4 ys)) + 1 =
    ap (λ (z : ℤ). nat_abs (z -ℤ low_value at xs) + 1) high ∙ ap (λ (z : ℤ). nat_abs (int_value (drop 8 ys) -ℤ z) + 1) low in
    ap (λ (t : TableSwitch). insns.TableSwitch t)
    (table_is at _ _ _ _ _ _ _ _ _ _
    (ap (target_value at) (after_some (pad at) xs ys e).left)
    low
    high
    (ap (λ (n : ℕ). targets n (drop (pad at + 12) xs)) count ∙ ap (targets _) (behind_pad (pad at) 12 xs ys e)))

table_count_in_front : (m : ℕ) (xs : List ℕ) → 12 ≤ m → table_count (take m xs) ≡ table_count xs
table_count_in_front m xs le =
    ap (λ (n : ℕ). target_count (cast_signed w32 n) (int_value (drop 8 (take m xs)))) (int_in_front 4 m xs (omega arith))
    ∙ ap (λ (n : ℕ). target_count (int_value (drop 4 xs)) (cast_signed w32 n)) (int_in_front 8 m xs (omega arith))

-- the targets that a size has room for
table_entries : (xs : List ℕ) (size : ℕ) → (told : IsSized 12 4 (table_count xs) xs size) → told.entries ≡ nat_abs (int_value (drop 8 xs) -ℤ int_value (drop 4 xs)) + 1
table_entries xs size told = count_is told.entries (int_value (drop 4 xs)) (int_value (drop 8 xs)) (sym told.told)

pub table_part : (at size : ℕ) (xs : List ℕ) → table_size xs ≡ Some size → size ≤ length xs → table_at at (take size xs) ≡ table_at at xs
table_part at size xs e le =
    let told = size_told 12 4 (table_count xs) xs size e in
    let n = told.entries in
    let sum = told.sum in
    let long : 12 ≤ size = omega arith in
    let count = table_entries xs size told in
    let low : int_value (drop 4 (take size xs)) ≡ int_value (drop 4 xs) = ap (cast_signed w32) (int_in_front 4 size xs (omega arith)) in
    let high : int_value (drop 8 (take size xs)) ≡ int_value (drop 8 xs) = ap (cast_signed w32) (int_in_front 8 size xs (omega arith)) in
    let targets = each_value (after 4) (target_value at) in
    let part_count : nat_abs (int_value (drop 8 (take size xs)) -ℤ int_value (drop 4 (take size xs))) + 1 ≡ n =
    ap (λ (z : ℤ). nat_abs (z -ℤ int_value (drop 4 (take size xs))) + 1) high ∙ ap (λ (z : ℤ). nat_abs (int_value (drop 8 xs) -ℤ z) + 1) low ∙ sym count in
    let part : drop 12 (take size xs) ≡ take (4 * n) (drop 12 xs) = ap (λ (k : ℕ). drop 12 (take k xs)) (sym sum) ∙ drop-take 12 (4 * n) xs in
    table_is at _ _ _ _ _ _ _ _ _ _
    (target_in_front at size xs (omega arith))
    low
    high
    (ap (λ (k : ℕ). targets k (drop 12 (take size xs))) part_count
    ∙ ap (targets n) part
    ∙ part_values 4 (target_value at) (target_in_front at) n (drop 12 xs) (omega (arith, length-drop 12 xs))
    ∙ ap (λ (k : ℕ). targets k (drop 12 xs)) count)

pub table_whole : (size : ℕ) (xs : List ℕ) → table_size xs ≡ Some size → size ≤ length xs → table_size (take size xs) ≡ Some (length (take size xs))
table_whole size xs e le = part_size 12 4 table_count table_count_in_front size xs e le

-- ---- a lookupswitch

few_or_none : (b : Bool) (n : ℕ) (o : Option (List ℕ))
    → option_and_then (λ rest. cond b (after (8 * n) rest) None) o ≡ option_and_then (λ rest. option_and_then (λ m. after (8 * m) rest) (cond b (Some n) None)) o
few_or_none true n o = refl
few_or_none false n o = refl

abbrev few : ℕ → Option ℕ
few n = cond (ltb n (2 ^ 31)) (Some n) None

pub lookup_behind : (at : ℕ) (xs ys : List ℕ) → after (pad at) xs ≡ Some ys → after_lookup_switch at xs ≡ after_size (lookup_size ys) ys
lookup_behind at xs ys e =
    let count : few (case_count at xs) ≡ lookup_count ys = ap (λ (zs : List ℕ). few (big_number 4 zs)) (behind_pad (pad at) 4 xs ys e) in
    few_or_none (ltb (case_count at xs) (2 ^ 31)) (case_count at xs) (after (pad at + 8) xs)
    ∙ ap (λ (o : Option ℕ). entries_after (pad at + 8) 8 o xs) count
    ∙ ap (option_and_then (λ rest. option_and_then (λ n. after (8 * n) rest) (lookup_count ys))) (head_behind (pad at) 8 xs ys e)
    ∙ sized 8 8 (lookup_count ys) ys

lookup_is : (at : ℕ) (a x : ℤ) (n m : ℕ) (xs ys : List ℕ) → a ≡ x → each_value (after 8) (case_value at) n xs ≡ each_value (after 8) (case_value at) m ys
    → ◌≡◌ {A = LookupSwitch} (record { default = a; cases = record { place = at; left = each_value (after 8) (case_value at) n xs } })
    (record { default = x; cases = record { place = at; left = each_value (after 8) (case_value at) m ys } })
lookup_is at a x n m xs ys e h i = record { default = e i; cases = record { place = at; left = h i } }

pub lookup_value_behind : (at : ℕ) (xs ys : List ℕ) → after (pad at) xs ≡ Some ys → lookup_switch_value at xs ≡ insns.LookupSwitch (lookup_at at ys)
lookup_value_behind at xs ys e =
    let cases = each_value (after 8) (case_value at) in
    ap (λ (t : LookupSwitch). insns.LookupSwitch t)
    (lookup_is at _ _ _ _ _ _
    (ap (target_value at) (after_some (pad at) xs ys e).left)
    (ap (λ (zs : List ℕ). cases (big_number 4 zs) (drop (pad at + 8) xs)) (behind_pad (pad at) 4 xs ys e) ∙ ap (cases _) (behind_pad (pad at) 8 xs ys e)))

lookup_count_in_front : (m : ℕ) (xs : List ℕ) → 8 ≤ m → lookup_count (take m xs) ≡ lookup_count xs
lookup_count_in_front m xs le = ap few (int_in_front 4 m xs (omega arith))

lookup_entries : (xs : List ℕ) (size : ℕ) → (told : IsSized 8 8 (lookup_count xs) xs size) → told.entries ≡ big_number 4 (drop 4 xs)
lookup_entries xs size told = sym (cond_some (ltb (big_number 4 (drop 4 xs)) (2 ^ 31)) (big_number 4 (drop 4 xs)) told.entries told.told).1

pub lookup_part : (at size : ℕ) (xs : List ℕ) → lookup_size xs ≡ Some size → size ≤ length xs → lookup_at at (take size xs) ≡ lookup_at at xs
lookup_part at size xs e le =
    let told = size_told 8 8 (lookup_count xs) xs size e in
    let n = told.entries in
    let sum = told.sum in
    let long : 8 ≤ size = omega arith in
    let count = lookup_entries xs size told in
    let cases = each_value (after 8) (case_value at) in
    let part : drop 8 (take size xs) ≡ take (8 * n) (drop 8 xs) = ap (λ (k : ℕ). drop 8 (take k xs)) (sym sum) ∙ drop-take 8 (8 * n) xs in
    lookup_is at _ _ _ _ _ _
    (target_in_front at size xs (omega arith))
    (ap (λ (k : ℕ). cases k (drop 8 (take size xs))) (int_in_front 4 size xs (omega arith) ∙ sym count)
    ∙ ap (cases n) part
    ∙ part_values 8 (case_value at) (case_in_front at) n (drop 8 xs) (omega (arith, length-drop 8 xs))
    ∙ ap (λ (k : ℕ). cases k (drop 8 xs)) count)

pub lookup_whole : (size : ℕ) (xs : List ℕ) → lookup_size xs ≡ Some size → size ≤ length xs → lookup_size (take size xs) ≡ Some (length (take size xs))
lookup_whole size xs e le = part_size 8 8 lookup_count lookup_count_in_front size xs e le

-- ---- the table of a switch whose bytes are whole

-- `left` entries are all bytes after the head
pub table_is_whole : (head entry : ℕ) (count : Option ℕ) (xs : List ℕ) (left : ℕ) → size_with head entry count xs ≡ Some (length xs)
    → ((n : ℕ) → head + entry * n ≡ length xs → n ≡ left) → after_each (after entry) left (drop head xs) ≡ Some []
table_is_whole head entry count xs left e divides =
    let told = size_told head entry count xs (length xs) e in
    let sum = told.sum in
    let same = divides told.entries sum in
    let size : length (drop head xs) ≡ entry * left = omega (arith, length-drop head xs, ap (λ (k : ℕ). entry * k) same) in
    let all : take (entry * left) (drop head xs) ≡ drop head xs = take_all (entry * left) (drop head xs) (omega arith) in
    ap (after_each (after entry) left) (sym all) ∙ part_is_whole entry left (drop head xs) (omega arith)
