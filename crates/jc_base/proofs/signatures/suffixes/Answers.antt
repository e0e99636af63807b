use Rattle.std.proofs.Common.{arith}
use Rattle.jc_base.proofs.grammar.FirstByte.{suffix_begins, suffixes_end, suffixes_refused}
use Rattle.jc_base.proofs.signatures.suffixes.Goals as goal

pub returns-in-46 : goal.returns-in-46
returns-in-46 c = suffix_begins c.args.first c.in-46.is

pub returns-in-59 : goal.returns-in-59
returns-in-59 c = suffixes_end c.args.first c.in-59.is

pub returns-in_default : goal.returns-in_default
returns-in_default c = suffixes_refused c.args.first (λ e. omega arith) (λ e. omega arith)
