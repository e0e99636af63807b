use Rattle.jc_base.proofs.grammar.Identifiers.{simple_goes_on}
use Rattle.jc_base.proofs.signatures.after_simple_name.Goals as goal

pub returns : goal.returns
returns c = simple_goes_on c.args.stop c.name_end.result c.name_end.ensures
