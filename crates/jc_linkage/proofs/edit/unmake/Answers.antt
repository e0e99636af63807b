use Rattle.std.proofs.Common.{◌||◌, subst}
use Rattle.jc_linkage.specs.Steps.{at_step}
use Rattle.jc_linkage.specs.inside.Stepping.{AreTaken}
use Rattle.jc_linkage.proofs.edit.unmake.Goals as goal

pub returns-clause-taken : goal.returns-clause-taken
returns-clause-taken c = λ vacant taken. c.take_back.ensures.taken vacant (subst (λ back. AreTaken (λ n. vacant n || at_step back n) c.args.table.now) c.in-Some.is taken)
