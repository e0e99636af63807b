use Rattle.jc_link.proofs.tables.Changes.{prefixes_differ}
use Rattle.jc_link.proofs.laws.prefixes_differ.Goals as goal

pub returns : goal.returns
returns c = prefixes_differ
