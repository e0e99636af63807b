use Rattle.std.proofs.Common.{rules}
use Rattle.jc_view.specs.Reading.{last_at}
use Rattle.jc_view.proofs.layout_reader.read_last.Goals as goal

pub returns-clause-numbers : goal.returns-clause-numbers
unfolding last_at
returns-clause-numbers c = search rules
