-- A switch that is read is the one that was spelled, and what was spelled is read again.
use Rattle.std.specs.Prelude.{ℤ, pos}
use Rattle.std.specs.Int.{w32}
use Rattle.std.specs.List.{flat_map}
use Rattle.std.proofs.Common.{◌≡◌, ℕ, ◌+◌, ◌*◌, ◌^◌, ◌<◌, cond, ltb, List, ◌∷◌, ◌++◌, take, drop, length, Some, None, option_and_then, refl, sym, ap, subst, ◌∙◌, arith, append_assoc}
use Rattle.std.proofs.lemmas.Bool.{ltb-true}
use Rattle.jc_base.specs.Endian.{big_bytes, big_number}
use Rattle.jc_view.specs.Reading.{after, each_value}
use Rattle.jc_view.proofs.reading.BigEndian.{IsBytes, width4, Takes, Takes-then, takes_front, takes_number, again_number, after_some, after_text, then_some}
use Rattle.jc_view.proofs.reading.Tables.{each_takes, each_again, each_size}
use Rattle.jc_view.proofs.reading.Codes.{test_is}
use Rattle.jc_code.specs.declared.insn.Insn.TheVariants as insns
use Rattle.jc_code.specs.Switches.{TableSwitch, LookupSwitch}
use Rattle.jc_code.specs.Insns.{int_bytes, target_bytes, case_bytes, IsPad, IsIntTarget, IsTableSwitch, IsLookupSwitch, tableswitch, lookupswitch}
use Rattle.jc_code.specs.InsnReading.{pad, int_value, target_value, case_value, low_value, high_value, target_count, case_count, after_table_switch, table_switch_value, after_lookup_switch, lookup_switch_value}
use Rattle.jc_code.proofs.decoding.Behind.{both_behind, split_behind}
use Rattle.jc_code.proofs.decoding.Signed.{takes_signed, again_signed, takes_target, again_target}
use Rattle.jc_code.proofs.decoding.Spellings.{IsReadAgain}
use Rattle.jc_code.proofs.decoding.SwitchTables.{reads_target, reads_case, count_takes, count_again}
use Rattle.jc_code.proofs.decoding.SwitchParts.{TableHead, LookupHead, table_head_value, lookup_head_value, behind_table_switch, table_switch_is, behind_lookup_switch, lookup_switch_is}

is_pad : (at : ℕ) (bytes : List ℕ) → length bytes ≡ pad at → IsPad at bytes
is_pad at bytes e = (omega arith, omega arith)

pad_is : (at : ℕ) (bytes : List ℕ) → IsPad at bytes → length bytes ≡ pad at
pad_is at bytes h = let few = h.0 in let even = h.1 in omega arith

-- what a switch took: its spelling behind the opcode
pub record TakesTable (at : ℕ) (switch : TableSwitch) (xs rest : List ℕ) : Type 0 where
  pub body : List ℕ
  pub is : IsTableSwitch at switch (tableswitch ∷ body)
  pub takes : Takes xs body rest

pub record TakesLookup (at : ℕ) (switch : LookupSwitch) (xs rest : List ℕ) : Type 0 where
  pub body : List ℕ
  pub is : IsLookupSwitch at switch (lookupswitch ∷ body)
  pub takes : Takes xs body rest

-- the pad and the default, of which both switches begin
pub record TakesDefault (at : ℕ) (xs : List ℕ) : Type 0 where
  pub takes : Takes xs (take (pad at) xs ++ target_bytes at (target_value at (drop (pad at) xs))) (drop (pad at + 4) xs)
  pub is_pad : IsPad at (take (pad at) xs)
  pub fits : IsIntTarget at (target_value at (drop (pad at) xs))

default_takes : (at : ℕ) (xs : List ℕ) → IsBytes xs → after (pad at + 4) xs ≡ Some (drop (pad at + 4) xs) → TakesDefault at xs
default_takes at xs fits e =
    let p = pad at in
    let b = split_behind p 4 (p + 4) xs (drop (p + 4) xs) refl e in
    let front = takes_front p xs (drop p xs) fits b.0 in
    let default = takes_target at (drop p xs) (drop (p + 4) xs) front.0.rest_fits b.1 in
    record {
      takes = Takes-then xs (take p xs) (drop p xs) (target_bytes at (target_value at (drop p xs))) (drop (p + 4) xs) front.0 default.0;
      is_pad = is_pad at (take p xs) front.1;
      fits = default.1;
    }

pub table_takes : (at : ℕ) (xs rest : List ℕ) → IsBytes xs → after_table_switch at xs ≡ Some rest → (switch : TableSwitch) × (table_switch_value at xs ≡ insns.TableSwitch switch) × TakesTable at switch xs rest
table_takes at xs rest fits e =
    let p = pad at in
    let low = low_value at xs in
    let high = high_value at xs in
    let told = target_count low high in
    let b = then_some (after (p + 12) xs) (λ ys. option_and_then (λ n. after (4 * n) ys) told) rest e in
    let ys = b.0 in
    let d = then_some told (λ n. after (4 * n) ys) rest b.2 in
    let n = d.0 in
    let to_high = split_behind (p + 8) 4 (p + 12) xs ys (omega arith) b.1 in
    let to_low = split_behind (p + 4) 4 (p + 8) xs (drop (p + 8) xs) (omega arith) to_high.0 in
    let first = default_takes at xs fits to_low.0 in
    let second = takes_signed w32 4 width4 refl (drop (p + 4) xs) (drop (p + 8) xs) first.takes.rest_fits to_low.1 in
    let third = takes_signed w32 4 width4 refl (drop (p + 8) xs) ys second.0.rest_fits to_high.1 in
    let table = each_takes (reads_target at) n ys rest third.0.rest_fits (each_size 4 n ys ∙ d.2) in
    let targets = each_value (after 4) (target_value at) n ys in
    let head = take p xs ++ target_bytes at (target_value at (drop p xs)) in
    let one = Takes-then xs head (drop (p + 4) xs) (int_bytes low) (drop (p + 8) xs) first.takes second.0 in
    let two = Takes-then xs (head ++ int_bytes low) (drop (p + 8) xs) (int_bytes high) ys one third.0 in
    let whole = Takes-then xs (head ++ int_bytes low ++ int_bytes high) ys (flat_map (target_bytes at) targets) rest two table.0 in
    let counted = count_takes n low high d.1 in (
      record { default = target_value at (drop p xs); low = low; high = high; targets = record { place = at; left = targets } },
      sym (table_switch_is at xs ys (table_head_value at xs) n b.1 refl (sym d.1) targets refl),
      record {
        body = head ++ int_bytes low ++ int_bytes high ++ flat_map (target_bytes at) targets;
        is = record {
          pad = take p xs;
          is_pad = first.is_pad;
          default = first.fits;
          low = second.1;
          high = third.1;
          rising = counted.0;
          place = refl;
          count = ap (λ (k : ℕ). pos k) table.2 ∙ counted.1;
          targets = table.1;
          spelling = refl;
        };
        takes = whole;
      },
    )

five_apart : (a b c d e rest : List ℕ) → (a ++ b ++ c ++ d ++ e) ++ rest ≡ a ++ (b ++ (c ++ (d ++ (e ++ rest))))
five_apart a b c d e rest = simp append_assoc

four_apart : (a b c d rest : List ℕ) → (a ++ b ++ c ++ d) ++ rest ≡ a ++ (b ++ (c ++ (d ++ rest)))
four_apart a b c d rest = simp append_assoc

table_head_is : {a b c x y z : ℤ} → a ≡ x → b ≡ y → c ≡ z → ◌≡◌ {A = TableHead} (record { default = a; low = b; high = c }) (record { default = x; low = y; high = z })
table_head_is e f g i = record { default = e i; low = f i; high = g i }

lookup_head_is : {a x : ℤ} {b y : ℕ} → a ≡ x → b ≡ y → ◌≡◌ {A = LookupHead} (record { default = a; count = b }) (record { default = x; count = y })
lookup_head_is e f i = record { default = e i; count = f i }

pub table_again : (at : ℕ) (switch : TableSwitch) (s rest : List ℕ) → IsTableSwitch at switch s → IsReadAgain tableswitch (after_table_switch at) (table_switch_value at) (insns.TableSwitch switch) s rest
table_again at switch s rest is =
    let p = pad at in
    let left = switch.targets.left in
    let n = length left in
    let table = flat_map (target_bytes at) left in
    let x4 = table ++ rest in
    let x3 = int_bytes switch.high ++ x4 in
    let x2 = int_bytes switch.low ++ x3 in
    let x1 = target_bytes at switch.default ++ x2 in
    let xs = is.pad ++ x1 in
    let body = is.pad ++ target_bytes at switch.default ++ int_bytes switch.low ++ int_bytes switch.high ++ table in
    let regrouped : body ++ rest ≡ xs = five_apart is.pad (target_bytes at switch.default) (int_bytes switch.low) (int_bytes switch.high) table rest in
    let default = again_target at switch.default x2 is.default in
    let low = again_signed w32 4 refl switch.low x3 is.low in
    let high = again_signed w32 4 refl switch.high x4 is.high in
    let to_default : after p xs ≡ Some x1 = after_text is.pad x1 p (pad_is at is.pad is.is_pad) in
    let to_low = both_behind p 4 (p + 4) xs x1 x2 refl to_default default.0 in
    let to_high = both_behind (p + 4) 4 (p + 8) xs x2 x3 (omega arith) to_low low.0 in
    let to_table = both_behind (p + 8) 4 (p + 12) xs x3 x4 (omega arith) to_high high.0 in
    let head : TableHead = record { default = switch.default; low = switch.low; high = switch.high } in
    let is_head : head ≡ table_head_value at xs =
    sym (table_head_is (ap (target_value at) (after_some p xs x1 to_default).left ∙ default.1) (ap int_value (after_some (p + 4) xs x2 to_low).left ∙ low.1) (ap int_value (after_some (p + 8) xs x3 to_high).left ∙ high.1)) in
    let is_count = sym (count_again n switch.low switch.high is.rising is.count) in
    let all = each_again (reads_target at) left rest is.targets in
    let value : table_switch_value at xs ≡ insns.TableSwitch switch =
    sym (table_switch_is at xs x4 head n to_table is_head is_count left (sym all.1))
    ∙ ap (λ (place : ℕ). insns.TableSwitch (record { default = switch.default; low = switch.low; high = switch.high; targets = record { place = place; left = left } })) (sym is.place) in
    record {
      body = body;
      spelling = is.spelling;
      left = ap (after_table_switch at) regrouped ∙ behind_table_switch at xs x4 head n to_table is_head is_count ∙ sym (each_size 4 n x4) ∙ all.0;
      value = ap (table_switch_value at) regrouped ∙ value;
    }

pub lookup_takes : (at : ℕ) (xs rest : List ℕ) → IsBytes xs → after_lookup_switch at xs ≡ Some rest → (switch : LookupSwitch) × (lookup_switch_value at xs ≡ insns.LookupSwitch switch) × TakesLookup at switch xs rest
lookup_takes at xs rest fits e =
    let p = pad at in
    let n = case_count at xs in
    let b = then_some (after (p + 8) xs) (λ ys. cond (ltb n (2 ^ 31)) (after (8 * n) ys) None) rest e in
    let ys = b.0 in
    let d = test_is (ltb n (2 ^ 31)) (after (8 * n) ys) rest b.2 in
    let few = ltb-true n (2 ^ 31) d.0 in
    let to_count = split_behind (p + 4) 4 (p + 8) xs ys (omega arith) b.1 in
    let first = default_takes at xs fits to_count.0 in
    let second = takes_number 4 width4 (drop (p + 4) xs) ys first.takes.rest_fits to_count.1 in
    let table = each_takes (reads_case at) n ys rest second.0.rest_fits (each_size 8 n ys ∙ d.1) in
    let cases = each_value (after 8) (case_value at) n ys in
    let head = take p xs ++ target_bytes at (target_value at (drop p xs)) in
    let one = Takes-then xs head (drop (p + 4) xs) (big_bytes 4 n) ys first.takes second.0 in
    let whole = Takes-then xs (head ++ big_bytes 4 n) ys (flat_map (case_bytes at) cases) rest one table.0 in (
      record { default = target_value at (drop p xs); cases = record { place = at; left = cases } },
      sym (lookup_switch_is at xs ys (lookup_head_value at xs) b.1 refl few cases refl),
      record {
        body = head ++ big_bytes 4 n ++ flat_map (case_bytes at) cases;
        is = record {
          pad = take p xs;
          is_pad = first.is_pad;
          default = first.fits;
          place = refl;
          count = subst (λ (k : ℕ). k < 2 ^ 31) (sym table.2) few;
          cases = table.1;
          spelling = ap (λ (k : ℕ). lookupswitch ∷ (head ++ big_bytes 4 k ++ flat_map (case_bytes at) cases)) (sym table.2);
        };
        takes = whole;
      },
    )

pub lookup_again : (at : ℕ) (switch : LookupSwitch) (s rest : List ℕ) → IsLookupSwitch at switch s → IsReadAgain lookupswitch (after_lookup_switch at) (lookup_switch_value at) (insns.LookupSwitch switch) s rest
lookup_again at switch s rest is =
    let p = pad at in
    let left = switch.cases.left in
    let n = length left in
    let table = flat_map (case_bytes at) left in
    let x3 = table ++ rest in
    let x2 = big_bytes 4 n ++ x3 in
    let x1 = target_bytes at switch.default ++ x2 in
    let xs = is.pad ++ x1 in
    let body = is.pad ++ target_bytes at switch.default ++ big_bytes 4 n ++ table in
    let regrouped : body ++ rest ≡ xs = four_apart is.pad (target_bytes at switch.default) (big_bytes 4 n) table rest in
    let few = is.count in
    let default = again_target at switch.default x2 is.default in
    let count = again_number 4 n x3 (omega arith) in
    let to_default : after p xs ≡ Some x1 = after_text is.pad x1 p (pad_is at is.pad is.is_pad) in
    let to_count = both_behind p 4 (p + 4) xs x1 x2 refl to_default default.0 in
    let to_table = both_behind (p + 4) 4 (p + 8) xs x2 x3 (omega arith) to_count count.0 in
    let head : LookupHead = record { default = switch.default; count = n } in
    let is_head : head ≡ lookup_head_value at xs =
    sym (lookup_head_is (ap (target_value at) (after_some p xs x1 to_default).left ∙ default.1) (ap (big_number 4) (after_some (p + 4) xs x2 to_count).left ∙ count.1)) in
    let all = each_again (reads_case at) left rest is.cases in
    let value : lookup_switch_value at xs ≡ insns.LookupSwitch switch =
    sym (lookup_switch_is at xs x3 head to_table is_head few left (sym all.1))
    ∙ ap (λ (place : ℕ). insns.LookupSwitch (record { default = switch.default; cases = record { place = place; left = left } })) (sym is.place) in
    record {
      body = body;
      spelling = is.spelling;
      left = ap (after_lookup_switch at) regrouped ∙ behind_lookup_switch at xs x3 head to_table is_head few ∙ sym (each_size 8 n x3) ∙ all.0;
      value = ap (lookup_switch_value at) regrouped ∙ value;
    }
