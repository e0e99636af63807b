-- Signed numbers, behind the bits that hold them.
use Rattle.std.proofs.Common.{◌≡◌, ◌∙◌, ℤ, ◌++◌, ap, to_z, of_z, codes, SFits}
use Rattle.std.proofs.lemmas.Int.{to_z-of_z}
use Rattle.std.specs.Fmt.{signed_decimal}
use Rattle.std.specs.Int.{Width, w64}
use Rattle.jc_list.specs.InsnLines.{blank_signed, switch_line}

pub same_signed : (w : Width) (z : ℤ) → SFits w z → signed_decimal (to_z w (of_z w z)) ≡ signed_decimal z
same_signed w z fits = ap signed_decimal (to_z-of_z w z fits)

pub same_blank : (w : Width) (z : ℤ) → SFits w z → codes " " ++ signed_decimal (to_z w (of_z w z)) ≡ blank_signed z
same_blank w z fits = ap blank_signed (to_z-of_z w z fits)

pub same_switch_line : (value target number : ℤ) → SFits w64 value → SFits w64 target → value ≡ number
    → switch_line (to_z w64 (of_z w64 value)) (to_z w64 (of_z w64 target)) ≡ switch_line number target
same_switch_line value target number fits reaches same =
    ap (λ v. switch_line v (to_z w64 (of_z w64 target))) (to_z-of_z w64 value fits ∙ same) ∙ ap (λ t. switch_line number t) (to_z-of_z w64 target reaches)
