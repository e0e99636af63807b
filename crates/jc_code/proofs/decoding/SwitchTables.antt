-- The entries of the tables of switches, and how many there are.
use Rattle.std.specs.Prelude.{ℤ, pos, ◌+ℤ◌, ◌-ℤ◌, ◌≤ℤ◌, int_le, nat_abs}
use Rattle.std.specs.Int.{w32, cast_unsigned}
use Rattle.std.specs.Int.Signed.{le_z_yes, yes_non_neg, pos-nat_abs}
use Rattle.std.proofs.Common.{◌≡◌, ℕ, ◌+◌, Bool, true, false, T, List, [], ◌++◌, drop, Option, Some, refl, sym, ap, subst, ◌∙◌, arith, append_assoc}
use Rattle.std.proofs.lemmas.Int.{ints}
use Rattle.std.proofs.lemmas.List.{drop_at, append-nil}
use Rattle.std.proofs.lemmas.Option.{cond_some}
use Rattle.std.specs.List.{flat_map}
use Rattle.jc_view.specs.Reading.{after, after_each, each_value}
use Rattle.jc_view.proofs.reading.BigEndian.{IsBytes, width4, Takes, Takes-then, after_both, length-big_bytes}
use Rattle.jc_view.proofs.reading.Tables.{Reads, each_takes}
use Rattle.jc_code.specs.declared.switch.Case.{Case}
use Rattle.jc_code.specs.Insns.{int_bytes, target_bytes, case_bytes, IsIntTarget, IsCase}
use Rattle.jc_code.specs.InsnReading.{int_value, target_value, case_value, target_count}
use Rattle.jc_code.proofs.decoding.Behind.{both_behind}
use Rattle.jc_code.proofs.decoding.Signed.{takes_signed, again_signed, takes_target, again_target}

pub reads_target : (at : ℕ) → Reads (target_bytes at) (IsIntTarget at) (after 4) (target_value at)
reads_target at = record { takes = takes_target at; again = again_target at }

case_takes : (at : ℕ) (xs rest : List ℕ) → IsBytes xs → after 8 xs ≡ Some rest → Takes xs (case_bytes at (case_value at xs)) rest × IsCase at (case_value at xs)
case_takes at xs rest fits e =
    let b = after_both 4 4 xs rest e in
    let value = takes_signed w32 4 width4 refl xs (drop 4 xs) fits b.0 in
    let target = takes_target at (drop 4 xs) rest value.0.rest_fits b.1 in
    (Takes-then xs (int_bytes (int_value xs)) (drop 4 xs) (target_bytes at (target_value at (drop 4 xs))) rest value.0 target.0, (value.1, target.1))

case_again : (at : ℕ) (case : Case) (rest : List ℕ) → IsCase at case → (after 8 (case_bytes at case ++ rest) ≡ Some rest) × (case_value at (case_bytes at case ++ rest) ≡ case)
case_again at case rest fits =
    let target = target_bytes at case.target in
    let regrouped : case_bytes at case ++ rest ≡ int_bytes case.value ++ (target ++ rest) = append_assoc (int_bytes case.value) target rest in
    let one = again_signed w32 4 refl case.value (target ++ rest) fits.0 in
    let two = again_target at case.target rest fits.1 in
    let behind : drop 4 (int_bytes case.value ++ (target ++ rest)) ≡ target ++ rest = drop_at (int_bytes case.value) (target ++ rest) 4 (length-big_bytes 4 (cast_unsigned w32 case.value)) in
    let whole = int_bytes case.value ++ (target ++ rest) in (
      ap (after 8) regrouped ∙ both_behind 4 4 8 whole (target ++ rest) rest refl one.0 two.0,
      ap (case_value at) regrouped ∙ case_is _ _ _ _ one.1 (ap (target_value at) behind ∙ two.1),
    )
  where
    case_is : (a b x y : ℤ) → a ≡ x → b ≡ y → ◌≡◌ {A = Case} (record { value = a; target = b }) (record { value = x; target = y })
    case_is a b x y e f i = record { value = e i; target = f i }

pub reads_case : (at : ℕ) → Reads (case_bytes at) (IsCase at) (after 8) (case_value at)
reads_case at = record { takes = case_takes at; again = case_again at }

-- ---- how many targets there are from the lowest value to the highest

is_true : (b : Bool) → T b → b ≡ true
is_true true t = refl
is_true false t = absurd t

pub count_takes : (n : ℕ) (low high : ℤ) → target_count low high ≡ Some n → (low ≤ℤ high) × (pos n ≡ high -ℤ low +ℤ pos 1)
count_takes n low high e =
    let told = cond_some (int_le low high) (nat_abs (high -ℤ low) + 1) n e in
    let rising : low ≤ℤ high = le_z_yes (subst T (sym told.0) tt) in
    let above : pos 0 ≤ℤ (high -ℤ low) = omega (arith, ints) in
    (rising, ap (λ (k : ℕ). pos k) (sym told.1) ∙ ap (λ (z : ℤ). z +ℤ pos 1) (pos-nat_abs (high -ℤ low) (yes_non_neg above)))

pub count_again : (n : ℕ) (low high : ℤ) → low ≤ℤ high → pos n ≡ high -ℤ low +ℤ pos 1 → target_count low high ≡ Some n
count_again n low high rising e =
    let test : int_le low high ≡ true = is_true (int_le low high) rising.le in
    let above : pos 0 ≤ℤ (high -ℤ low) = omega (arith, ints) in
    let same : pos (nat_abs (high -ℤ low) + 1) ≡ pos n = ap (λ (z : ℤ). z +ℤ pos 1) (pos-nat_abs (high -ℤ low) (yes_non_neg above)) ∙ sym e in
    let size : nat_abs (high -ℤ low) + 1 ≡ n = cc in
    rw (test, size) refl

-- entries that are all of the bytes
pub table_bytes : {X : Type 0} {bytes : X → List ℕ} {Fits : X → Type 0} {one : List ℕ → Option (List ℕ)} {value : List ℕ → X} → Reads bytes Fits one value
    → (n : ℕ) (xs : List ℕ) → IsBytes xs → after_each one n xs ≡ Some [] → xs ≡ flat_map bytes (each_value one value n xs)
table_bytes {bytes = bytes} {one = one} {value = value} reads n xs fits e = (each_takes reads n xs [] fits e).0.parts ∙ append-nil (flat_map bytes (each_value one value n xs))
