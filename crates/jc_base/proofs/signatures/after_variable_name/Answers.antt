use Rattle.jc_base.proofs.grammar.Identifiers.{variable_ends, variable_refused}
use Rattle.jc_base.proofs.signatures.after_variable_name.Goals as goal

pub returns-then-stop-eq59 : goal.returns-then-stop-eq59
returns-then-stop-eq59 c = variable_ends c.args.stop c.if-stop-eq59.true

pub returns-else-stop-eq59 : goal.returns-else-stop-eq59
returns-else-stop-eq59 c = variable_refused c.args.stop c.if-stop-eq59.false
