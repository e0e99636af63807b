use Rattle.jc_base.proofs.grammar.Identifiers.{package_goes_on, no_package}
use Rattle.jc_base.proofs.signatures.after_class_name.Goals as goal

pub returns-then-stop-eq47 : goal.returns-then-stop-eq47
returns-then-stop-eq47 c = package_goes_on c.args.stop c.if-stop-eq47.true

pub returns-else-stop-eq47 : goal.returns-else-stop-eq47
returns-else-stop-eq47 c = no_package c.args.stop c.after_simple_name.result c.if-stop-eq47.false c.after_simple_name.ensures
