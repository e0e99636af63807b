use Rattle.std.proofs.Common.{false}
use Rattle.jc_linkage.proofs.steps.ClassesStepped.{there_still}
use Rattle.jc_linkage.specs.Steps.{at_step}
use Rattle.jc_linkage.proofs.edit.unmake_both.Goals as goal

pub unmake-requires-2 : goal.unmake-requires-2
unmake-requires-2 c = there_still c.args.first c.args.table.now c.unmake.new.table c.requires.first (λ n s h. c.unmake.ensures.there n (c.requires.apart n s) h)

pub returns-clause-taken : goal.returns-clause-taken
returns-clause-taken c = λ taken. c.unmake-2.ensures.taken (λ n. false) (c.unmake.ensures.taken (at_step c.args.first) taken)
