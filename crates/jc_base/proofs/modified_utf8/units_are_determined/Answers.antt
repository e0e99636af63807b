use Rattle.jc_base.proofs.texts.FirstUnitIsSpelled.{same_units}
use Rattle.jc_base.proofs.texts.WellSpelledFronts.{one_longest}
use Rattle.jc_base.proofs.modified_utf8.units_are_determined.Goals as goal

pub returns : goal.returns
returns c = record { units = same_units; fronts = one_longest }
