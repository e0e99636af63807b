use Rattle.std.proofs.Common.{arith}
use Rattle.jc_base.proofs.grammar.FirstByte.{reference_class, reference_variable, reference_array, reference_refused}
use Rattle.jc_base.proofs.signatures.reference.Goals as goal

pub returns-in-76 : goal.returns-in-76
returns-in-76 c = reference_class c.args.first c.in-76.is

pub returns-in-84 : goal.returns-in-84
returns-in-84 c = reference_variable c.args.first c.in-84.is

pub returns-in-91 : goal.returns-in-91
returns-in-91 c = reference_array c.args.first c.in-91.is

pub returns-in_default : goal.returns-in_default
returns-in_default c = reference_refused c.args.first (λ e. omega arith) (λ e. omega arith) (λ e. omega arith)
