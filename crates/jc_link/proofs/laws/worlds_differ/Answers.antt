use Rattle.jc_link.proofs.tables.Changes.{worlds_differ}
use Rattle.jc_link.proofs.laws.worlds_differ.Goals as goal

pub returns : goal.returns
returns c = worlds_differ
