use Rattle.std.proofs.Common.{◌∙◌, sym}
use Rattle.jc_file.proofs.sets.SpelledTexts.{known_breaks_none}
use Rattle.jc_file.proofs.tables.rules_at.Goals as goal

pub returns-then-is_name_or_descriptor-clause-rules : goal.returns-then-is_name_or_descriptor-clause-rules
returns-then-is_name_or_descriptor-clause-rules c = λ rule.
    c.none.ensures rule ∙ sym (known_breaks_none c.args.texts.now (record { 0 = c.args.index }) rule (c.is_name_or_descriptor.ensures c.if-is_name_or_descriptor.true))
