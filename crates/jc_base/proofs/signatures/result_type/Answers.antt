use Rattle.jc_base.proofs.grammar.FirstByte.{result_is_void, result_is_java}
use Rattle.jc_base.proofs.signatures.result_type.Goals as goal

pub returns-then-first-eq86 : goal.returns-then-first-eq86
returns-then-first-eq86 c = result_is_void c.args.first c.if-first-eq86.true

pub returns-else-first-eq86 : goal.returns-else-first-eq86
returns-else-first-eq86 c = result_is_java c.args.first c.java.result c.if-first-eq86.false c.java.ensures
