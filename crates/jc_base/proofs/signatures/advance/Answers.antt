use Rattle.jc_base.proofs.grammar.Stack.{nothing_left}
use Rattle.jc_base.proofs.signatures.advance.Goals as goal

pub returns-in_err-first : goal.returns-in_err-first
returns-in_err-first c = rw c.from_residual.ensures (nothing_left c.args.entry c.args.text.now c.in_err-first.ensures.cases)
