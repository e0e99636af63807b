use Rattle.std.proofs.Common.{rules}
use Rattle.jc_view.proofs.attribute_kind.AttributeKind.belongs_to.Goals as goal

pub returns-in-Class : goal.returns-in-Class
returns-in-Class c = search rules
