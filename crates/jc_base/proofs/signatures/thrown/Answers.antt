use Rattle.std.proofs.Common.{arith}
use Rattle.jc_base.proofs.grammar.FirstByte.{thrown_is_class, thrown_is_variable, thrown_refused}
use Rattle.jc_base.proofs.signatures.thrown.Goals as goal

pub returns-in-76 : goal.returns-in-76
returns-in-76 c = thrown_is_class c.args.first c.in-76.is

pub returns-in-84 : goal.returns-in-84
returns-in-84 c = thrown_is_variable c.args.first c.in-84.is

pub returns-in_default : goal.returns-in_default
returns-in_default c = thrown_refused c.args.first (λ e. omega arith) (λ e. omega arith)
