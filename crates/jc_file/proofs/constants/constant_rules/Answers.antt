use Rattle.std.proofs.Common.{ap, sym, subst}
use Rattle.jc_view.specs.Lent.{constant_of}
use Rattle.jc_file.specs.inside.RuleTables.{AreBroken, constant_tests}
use Rattle.jc_file.proofs.constants.constant_rules.Goals as goal

pub returns-in-Utf8-clause-rules : goal.returns-in-Utf8-clause-rules
returns-in-Utf8-clause-rules c =
    subst (λ k. AreBroken (constant_tests c.args.texts.now k) c.utf8_rules.result) (sym (ap constant_of c.in-Utf8.is)) (c.utf8_rules.ensures c.args.texts.now)
