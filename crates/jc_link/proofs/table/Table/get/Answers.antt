use Rattle.std.proofs.Common.{◌∙◌, ap}
use Rattle.jc_link.specs.Tables.{or_built_in}
use Rattle.jc_link.proofs.table.Table.get.Goals as goal

pub returns-in-Some-clause-found : goal.returns-in-Some-clause-found
returns-in-Some-clause-found c = ap (λ o. or_built_in o c.args.name.now) c.in-Some.ensures

pub returns-in-None-clause-found : goal.returns-in-None-clause-found
returns-in-None-clause-found c = c.built_in.ensures ∙ ap (λ o. or_built_in o c.args.name.now) c.in-None.ensures
