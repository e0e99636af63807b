-- Signed numbers in two's complement, and the offset of a target.
use Rattle.std.specs.Prelude.{ℤ, pos, ◌+ℤ◌, FitsSigned}
use Rattle.std.specs.Int.{Width, cast_signed, cast_unsigned, w32}
use mir.Val.{bits}
use Rattle.std.proofs.Common.{◌≡◌, ℕ, ◌^◌, ◌<◌, List, ◌++◌, Some, refl, sym, ap, subst, ◌∙◌, arith}
use Rattle.std.proofs.Math.Facts.{sfits_to_z, Fits-of_lt, Fits-lt-pow, Fits-of_z}
use Rattle.std.proofs.lemmas.Int.{to_z-of_z, of_z-to_z, ints}
use Rattle.jc_base.specs.Endian.{big_bytes, big_number}
use Rattle.jc_view.specs.Reading.{after}
use Rattle.jc_view.proofs.reading.BigEndian.{IsBytes, IsWidth, width4, Takes, takes_number, again_number}
use Rattle.jc_code.specs.Insns.{offset_to, target_bytes, IsIntTarget}
use Rattle.jc_code.specs.InsnReading.{target_value}

abbrev pub signed_bytes : Width → ℕ → ℤ → List ℕ
signed_bytes w n z = big_bytes n (cast_unsigned w z)

abbrev pub signed_value : Width → ℕ → List ℕ → ℤ
signed_value w n xs = cast_signed w (big_number n xs)

pub takes_signed : (w : Width) (n : ℕ) → IsWidth n → 256 ^ n ≡ 2 ^ bits w → (xs rest : List ℕ) → IsBytes xs → after n xs ≡ Some rest
    → Takes xs (signed_bytes w n (signed_value w n xs)) rest × FitsSigned w (signed_value w n xs)
takes_signed w n width size xs rest fits e =
    let t = takes_number n width xs rest fits e in
    let lt : big_number n xs < 2 ^ bits w = subst (λ (m : ℕ). big_number n xs < m) size t.1 in
    (subst (λ (m : ℕ). Takes xs (big_bytes n m) rest) (sym (of_z-to_z w (big_number n xs) lt)) t.0, sfits_to_z (Fits-of_lt lt))

pub again_signed : (w : Width) (n : ℕ) → 256 ^ n ≡ 2 ^ bits w → (z : ℤ) (rest : List ℕ) → FitsSigned w z
    → (after n (signed_bytes w n z ++ rest) ≡ Some rest) × (signed_value w n (signed_bytes w n z ++ rest) ≡ z)
again_signed w n size z rest fits =
    let lt : cast_unsigned w z < 256 ^ n = subst (λ (m : ℕ). cast_unsigned w z < m) (sym size) (Fits-lt-pow (Fits-of_z fits)) in
    let a = again_number n (cast_unsigned w z) rest lt in
    (a.0, ap (cast_signed w) a.1 ∙ to_z-of_z w z fits)

-- ---- targets

pub offset_again : (at : ℕ) (z : ℤ) → offset_to at (pos at +ℤ z) ≡ z
offset_again at z = omega (arith, ints)

pub target_again : (at : ℕ) (target : ℤ) → pos at +ℤ offset_to at target ≡ target
target_again at target = omega (arith, ints)

pub takes_offset : (w : Width) (n : ℕ) → IsWidth n → 256 ^ n ≡ 2 ^ bits w → (at : ℕ) (xs rest : List ℕ) → IsBytes xs → after n xs ≡ Some rest
    → Takes xs (signed_bytes w n (offset_to at (pos at +ℤ signed_value w n xs))) rest × FitsSigned w (offset_to at (pos at +ℤ signed_value w n xs))
takes_offset w n width size at xs rest fits e =
    subst (λ (z : ℤ). Takes xs (signed_bytes w n z) rest × FitsSigned w z) (sym (offset_again at (signed_value w n xs))) (takes_signed w n width size xs rest fits e)

pub again_offset : (w : Width) (n : ℕ) → 256 ^ n ≡ 2 ^ bits w → (at : ℕ) (target : ℤ) (rest : List ℕ) → FitsSigned w (offset_to at target)
    → (after n (signed_bytes w n (offset_to at target) ++ rest) ≡ Some rest) × (pos at +ℤ signed_value w n (signed_bytes w n (offset_to at target) ++ rest) ≡ target)
again_offset w n size at target rest fits =
    let a = again_signed w n size (offset_to at target) rest fits in
    (a.0, ap (λ (z : ℤ). pos at +ℤ z) a.1 ∙ target_again at target)

pub takes_target : (at : ℕ) (xs rest : List ℕ) → IsBytes xs → after 4 xs ≡ Some rest
    → Takes xs (target_bytes at (target_value at xs)) rest × IsIntTarget at (target_value at xs)
takes_target at xs rest fits e = takes_offset w32 4 width4 refl at xs rest fits e

pub again_target : (at : ℕ) (target : ℤ) (rest : List ℕ) → IsIntTarget at target
    → (after 4 (target_bytes at target ++ rest) ≡ Some rest) × (target_value at (target_bytes at target ++ rest) ≡ target)
again_target at target rest fits = again_offset w32 4 refl at target rest fits
