use Rattle.jc_base.proofs.grammar.Identifiers.{param_goes_on, param_refused}
use Rattle.jc_base.proofs.signatures.after_param_name.Goals as goal

pub returns-then-stop-eq58 : goal.returns-then-stop-eq58
returns-then-stop-eq58 c = param_goes_on c.args.stop c.if-stop-eq58.true

pub returns-else-stop-eq58 : goal.returns-else-stop-eq58
returns-else-stop-eq58 c = param_refused c.args.stop c.if-stop-eq58.false
