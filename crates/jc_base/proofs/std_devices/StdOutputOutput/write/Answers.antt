use Rattle.std.proofs.Common.{rules}
use Rattle.jc_base.proofs.std_devices.StdOutputOutput.write.Goals as goal

pub returns-in-Ok-eq0-clause-some : goal.returns-in-Ok-eq0-clause-some
returns-in-Ok-eq0-clause-some c = search rules
