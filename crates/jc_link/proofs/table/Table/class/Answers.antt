use Rattle.std.proofs.Common.{rules}
use Rattle.jc_link.proofs.table.Table.class.Goals as goal

pub returns-in-Some-Some : goal.returns-in-Some-Some
returns-in-Some-Some c = search rules
