use Rattle.jc_base.proofs.grammar.FirstByte.{throws_begins, throws_refused}
use Rattle.jc_base.proofs.signatures.throws.Goals as goal

pub returns-then-first-eq94 : goal.returns-then-first-eq94
returns-then-first-eq94 c = throws_begins c.args.first c.if-first-eq94.true

pub returns-else-first-eq94 : goal.returns-else-first-eq94
returns-else-first-eq94 c = throws_refused c.args.first c.if-first-eq94.false
