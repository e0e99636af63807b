use Rattle.std.proofs.Common.{[], ap, ◌∙◌}
use Rattle.std.specs.Option.{unwrap_or}
use Rattle.std.proofs.lemmas.Option.{unwrap_or-slice_get}
use Rattle.jc_link.proofs.numbering.interface_name.Goals as goal

pub returns-in-None : goal.returns-in-None
returns-in-None c = ap (λ o. unwrap_or o []) c.in-None.ensures ∙ unwrap_or-slice_get c.args.facts.now.interfaces c.args.number []
