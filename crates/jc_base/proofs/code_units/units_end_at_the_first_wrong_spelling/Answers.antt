use Rattle.jc_base.proofs.texts.UnitsBefore.{units_before-text, units_before-front}
use Rattle.jc_base.proofs.code_units.units_end_at_the_first_wrong_spelling.Goals as goal

pub returns : goal.returns
returns c = record { text = units_before-text; front = units_before-front }
