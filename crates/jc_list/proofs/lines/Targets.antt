-- The targets of a tableswitch, by the number of each.
use Rattle.std.proofs.Common.{◌≡◌, ◌∙◌, ℤ, pos, ◌+ℤ◌, ℕ, ◌+◌, ◌++◌, List, [], ◌∷◌, ap, arith, length, refl}
use Rattle.std.proofs.lemmas.Int.{ints}
use Rattle.jc_list.specs.InsnLines.{switch_line, target_lines}

pub from_first : (low : ℤ) → low +ℤ pos 0 ≡ low
from_first low = omega (arith, ints)

pub next_target : (low : ℤ) (index : ℕ) (left rest : List ℤ) (target : ℤ) → left ≡ target ∷ rest
    → target_lines (low +ℤ pos index) left ≡ switch_line (low +ℤ pos index) target ++ target_lines (low +ℤ pos (index + 1)) rest
next_target low index left rest target next =
    let one_more : (low +ℤ pos index) +ℤ pos 1 ≡ low +ℤ pos (index + 1) = omega (arith, ints) in
    ap (target_lines (low +ℤ pos index)) next ∙ ap (λ v. switch_line (low +ℤ pos index) target ++ target_lines v rest) one_more

pub no_target_left : (value : ℤ) (left : List ℤ) → length left ≡ 0 → target_lines value left ≡ []
no_target_left value [] none = refl
no_target_left value (target ∷ left) none = absurd (omega arith)
