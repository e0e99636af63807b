-- Sets of format rules.
use Rattle.std.specs.Prelude.{Bool, ◌==◌}
use Rattle.std.specs.Int.{bit_at}
use Rattle.jc_file.specs.declared.fault.FormatRule.{FormatRule}
use Rattle.jc_file.specs.FaultOrder.{rule_number}
use Rattle.jc_file.specs.declared.rule_set.RuleSet.{RuleSet}

abbrev pub same_rule : FormatRule → FormatRule → Bool
same_rule a b = rule_number a == rule_number b

-- the bit at the number of the rule is set
abbrev pub has : RuleSet → FormatRule → Bool
has s rule = bit_at s.bits (rule_number rule) == 1
