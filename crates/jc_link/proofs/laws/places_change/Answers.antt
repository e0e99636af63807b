use Rattle.jc_link.proofs.tables.Changes.{places_change}
use Rattle.jc_link.proofs.laws.places_change.Goals as goal

pub returns : goal.returns
returns c = places_change
