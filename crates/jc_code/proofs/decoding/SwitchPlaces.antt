-- Where the table of a switch stands in the code.
use Rattle.std.proofs.Common.{◌≡◌, ℕ, ◌+◌, List, ◌∷◌, ◌++◌, length, take, drop, refl, sym, ap, ◌∙◌, arith, append_assoc, length-append}
use Rattle.std.specs.Prelude.{ℤ}
use Rattle.std.specs.Int.{cast_unsigned, w32}
use Rattle.std.specs.List.{flat_map}
use Rattle.std.proofs.lemmas.List.{drop_at, take_at}
use Rattle.jc_base.specs.Endian.{big_bytes}
use Rattle.jc_view.proofs.reading.BigEndian.{length-big_bytes}
use Rattle.jc_code.specs.declared.insn.Insn.TheVariants as insns
use Rattle.jc_code.specs.Switches.{TableSwitch, LookupSwitch}
use Rattle.jc_code.specs.Insns.{Stands, IsPad, IsPartAt, aligned, targets_place, cases_place, int_bytes, target_bytes, case_bytes, offset_to, tableswitch, lookupswitch}

pad_ends : (at : ℕ) (pad : List ℕ) → IsPad at pad → at + 1 + length pad ≡ aligned at
pad_ends at pad h = let few = h.0 in let even = h.1 in omega arith

length-int : (z : ℤ) → length (int_bytes z) ≡ 4
length-int z = length-big_bytes 4 (cast_unsigned w32 z)

-- the part behind a front of the place's length
part_at : (code front table behind : List ℕ) (place : ℕ) → code ≡ front ++ (table ++ behind) → length front ≡ place → IsPartAt code place table
part_at code front table behind place e size =
    ap (λ (xs : List ℕ). take (length table) (drop place xs)) e ∙ ap (take (length table)) (drop_at front (table ++ behind) place size) ∙ take_at table behind (length table) refl

regrouped : (before front table behind : List ℕ) → before ++ (front ++ table) ++ behind ≡ (before ++ front) ++ (table ++ behind)
regrouped before front table behind = simp append_assoc

pub targets_lie : (code : List ℕ) (at : ℕ) (switch : TableSwitch) → Stands code at (insns.TableSwitch switch) → IsPartAt code (targets_place at) (flat_map (target_bytes switch.targets.place) switch.targets.left)
targets_lie code at switch h =
    let stands = h.1 in
    let is = stands.spelling in
    let table = flat_map (target_bytes at) switch.targets.left in
    let default = target_bytes at switch.default in
    let low = int_bytes switch.low in
    let high = int_bytes switch.high in
    let front = tableswitch ∷ (is.pad ++ default ++ low ++ high) in
    let joined : code ≡ (stands.before ++ front) ++ (table ++ stands.behind) =
    stands.joined ∙ ap (λ (s : List ℕ). stands.before ++ s ++ stands.behind) is.spelling ∙ regrouped stands.before front table stands.behind in
    let size : length (stands.before ++ front) ≡ targets_place at = omega (
      arith,
      stands.place,
      pad_ends at is.pad is.is_pad,
      length-append stands.before front,
      length-append (is.pad ++ default ++ low) high,
      length-append (is.pad ++ default) low,
      length-append is.pad default,
      length-int (offset_to at switch.default),
      length-int switch.low,
      length-int switch.high,
    ) in
    ap (λ (place : ℕ). take (length (flat_map (target_bytes place) switch.targets.left)) (drop (targets_place at) code)) is.place
    ∙ part_at code (stands.before ++ front) table stands.behind (targets_place at) joined size
    ∙ ap (λ (place : ℕ). flat_map (target_bytes place) switch.targets.left) (sym is.place)

pub cases_lie : (code : List ℕ) (at : ℕ) (switch : LookupSwitch) → Stands code at (insns.LookupSwitch switch) → IsPartAt code (cases_place at) (flat_map (case_bytes switch.cases.place) switch.cases.left)
cases_lie code at switch h =
    let stands = h.1 in
    let is = stands.spelling in
    let table = flat_map (case_bytes at) switch.cases.left in
    let default = target_bytes at switch.default in
    let count = big_bytes 4 (length switch.cases.left) in
    let front = lookupswitch ∷ (is.pad ++ default ++ count) in
    let joined : code ≡ (stands.before ++ front) ++ (table ++ stands.behind) =
    stands.joined ∙ ap (λ (s : List ℕ). stands.before ++ s ++ stands.behind) is.spelling ∙ regrouped stands.before front table stands.behind in
    let size : length (stands.before ++ front) ≡ cases_place at = omega (
      arith,
      stands.place,
      pad_ends at is.pad is.is_pad,
      length-append stands.before front,
      length-append (is.pad ++ default) count,
      length-append is.pad default,
      length-int (offset_to at switch.default),
      length-big_bytes 4 (length switch.cases.left),
    ) in
    ap (λ (place : ℕ). take (length (flat_map (case_bytes place) switch.cases.left)) (drop (cases_place at) code)) is.place
    ∙ part_at code (stands.before ++ front) table stands.behind (cases_place at) joined size
    ∙ ap (λ (place : ℕ). flat_map (case_bytes place) switch.cases.left) (sym is.place)
