use Rattle.std.proofs.Common.{rules}
use Rattle.jc_linkage.proofs.dependants.Dependants.unlink_but.Goals as goal

pub returns : goal.returns
returns c = search rules
