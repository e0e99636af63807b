use Rattle.jc_base.proofs.grammar.FirstByte.{arguments_begin, no_arguments}
use Rattle.jc_base.proofs.signatures.name_end.Goals as goal

pub returns-then-first-eq60 : goal.returns-then-first-eq60
returns-then-first-eq60 c = arguments_begin c.args.first c.if-first-eq60.true

pub returns-else-first-eq60 : goal.returns-else-first-eq60
returns-else-first-eq60 c = no_arguments c.args.first c.suffixes.result c.if-first-eq60.false c.suffixes.ensures
