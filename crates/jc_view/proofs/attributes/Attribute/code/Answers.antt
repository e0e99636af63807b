use Rattle.std.proofs.Common.{rules}
use Rattle.jc_view.proofs.attributes.Attribute.code.Goals as goal

pub returns : goal.returns
returns c = search rules
