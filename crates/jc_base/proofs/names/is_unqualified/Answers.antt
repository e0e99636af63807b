use Rattle.jc_base.proofs.texts.TestsDecide.{same_answer, unqualified_decides}
use Rattle.jc_base.proofs.names.is_unqualified.Goals as goal

pub returns-then-is_plain_name-clause-name : goal.returns-then-is_plain_name-clause-name
returns-then-is_plain_name-clause-name c = (λ yes. c.is_plain_name.ensures c.if-is_plain_name.true, λ name. c.if-is_plain_name.true)

pub returns-then-is_plain_name-clause-computed : goal.returns-then-is_plain_name-clause-computed
returns-then-is_plain_name-clause-computed c = same_answer _ _ (returns-then-is_plain_name-clause-name c) (unqualified_decides c.args.text.now)
