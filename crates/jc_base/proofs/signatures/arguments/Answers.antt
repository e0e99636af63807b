use Rattle.std.proofs.Common.{[], ◌∷◌}
use Rattle.jc_base.specs.Signatures.{Mark, Many, Argument, Suffix}
use Rattle.jc_base.proofs.grammar.FirstByte.{many_ends, many_goes_on, argument_refuses_end}
use Rattle.jc_base.proofs.signatures.arguments.Goals as goal

pub returns-then-first-eq62 : goal.returns-then-first-eq62
returns-then-first-eq62 c = many_ends Argument (Many Suffix ∷ Mark 59 ∷ []) 62 c.args.first argument_refuses_end c.if-first-eq62.true

pub returns-else-first-eq62 : goal.returns-else-first-eq62
returns-else-first-eq62 c = many_goes_on Argument (Many Suffix ∷ Mark 59 ∷ []) 62 c.args.first c.first_argument.result c.if-first-eq62.false c.first_argument.ensures
