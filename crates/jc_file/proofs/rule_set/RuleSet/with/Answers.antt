use Rattle.std.proofs.Common.{◌∙◌, ◌*◌, ◌-◌, ◌%◌, ◌^◌, ◌==◌, cond, bit_and, bit_or, ap, sym}
use Rattle.std.specs.Int.{bit_at}
use Rattle.jc_file.specs.FaultOrder.{rule_number}
use Rattle.jc_file.specs.inside.RuleSets.{has, same_rule}
use Rattle.jc_file.proofs.sets.RuleBits.{bit_cleared, bit_set}
use Rattle.jc_file.proofs.rule_set.RuleSet.with.Goals as goal

pub returns-then-is_broken : goal.returns-then-is_broken
returns-then-is_broken c = λ other.
    ap (λ n. bit_at (bit_or c.args.self.bits (1 * 2 ^ n % 4294967296)) (rule_number other) == 1) c.number.ensures
    ∙ bit_set c.args.self.bits c.args.rule other
    ∙ ap (λ b. cond (same_rule c.args.rule other) b (has c.args.self other)) (sym c.if-is_broken.true)

pub returns-else-is_broken : goal.returns-else-is_broken
returns-else-is_broken c = λ other.
    ap (λ n. bit_at (bit_and c.args.self.bits (4294967295 - 1 * 2 ^ n % 4294967296)) (rule_number other) == 1) c.number.ensures
    ∙ bit_cleared c.args.self.bits c.args.rule other
    ∙ ap (λ b. cond (same_rule c.args.rule other) b (has c.args.self other)) (sym c.if-is_broken.false)
