-- A bit of a set is set or cleared.
use Rattle.std.proofs.Common.{◌≡◌, ◌∙◌, ℕ, ◌-◌, ◌*◌, ◌%◌, ◌<◌, ◌^◌, ◌==◌, Bool, true, false, cond, bit_and, bit_or, w32, refl, ap, sym, arith}
use Rattle.std.specs.Int.{bit_at}
use Rattle.std.proofs.lemmas.Bool.{eqb-true, eqb-false}
use Rattle.std.proofs.lemmas.Nat.Bits.{bit_at_set_same, bit_at_set_other, bit_at_clear_same, bit_at_clear_other}
use Rattle.jc_file.specs.declared.fault.FormatRule.{FormatRule}
use Rattle.jc_file.specs.FaultOrder.{rule_number}
use Rattle.jc_file.specs.inside.RuleSets.{same_rule}

pub is_small : (rule : FormatRule) → rule_number rule < 32
is_small rule = grind arith

module _ (bits : ℕ) (rule : FormatRule) where
  abbrev set : ℕ
  set = bit_or bits (1 * 2 ^ rule_number rule % 4294967296)

  abbrev cleared : ℕ
  cleared = bit_and bits (4294967295 - 1 * 2 ^ rule_number rule % 4294967296)

  -- whether the bit of another is the same, or is as it was
  set_by : (other : FormatRule) (b : Bool) → same_rule rule other ≡ b → (bit_at set (rule_number other) == 1) ≡ cond b true (bit_at bits (rule_number other) == 1)
  set_by other true e = ap (λ k. bit_at set k == 1) (sym (eqb-true (rule_number rule) (rule_number other) e)) ∙ ap (λ d. d == 1) (bit_at_set_same w32 bits (rule_number rule) (is_small rule))
  set_by other false e = ap (λ d. d == 1) (bit_at_set_other w32 bits (rule_number rule) (is_small rule) (rule_number other) (λ same. eqb-false (rule_number rule) (rule_number other) e (sym same)))

  cleared_by : (other : FormatRule) (b : Bool) → same_rule rule other ≡ b → (bit_at cleared (rule_number other) == 1) ≡ cond b false (bit_at bits (rule_number other) == 1)
  cleared_by other true e = ap (λ k. bit_at cleared k == 1) (sym (eqb-true (rule_number rule) (rule_number other) e)) ∙ ap (λ d. d == 1) (bit_at_clear_same w32 bits (rule_number rule) (is_small rule))
  cleared_by other false e = ap (λ d. d == 1) (bit_at_clear_other w32 bits (rule_number rule) (is_small rule) (rule_number other) (is_small other) (λ same. eqb-false (rule_number rule) (rule_number other) e (sym same)))

  pub bit_set : (other : FormatRule) → (bit_at set (rule_number other) == 1) ≡ cond (same_rule rule other) true (bit_at bits (rule_number other) == 1)
  bit_set other = set_by other (same_rule rule other) refl

  pub bit_cleared : (other : FormatRule) → (bit_at cleared (rule_number other) == 1) ≡ cond (same_rule rule other) false (bit_at bits (rule_number other) == 1)
  bit_cleared other = cleared_by other (same_rule rule other) refl
