use Rattle.jc_base.proofs.grammar.FirstByte.{class_begins, class_refused}
use Rattle.jc_base.proofs.signatures.class_type.Goals as goal

pub returns-then-first-eq76 : goal.returns-then-first-eq76
returns-then-first-eq76 c = class_begins c.args.first c.if-first-eq76.true

pub returns-else-first-eq76 : goal.returns-else-first-eq76
returns-else-first-eq76 c = class_refused c.args.first c.if-first-eq76.false
