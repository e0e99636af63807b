use Rattle.jc_code.proofs.decoding.SwitchPlaces.{targets_lie, cases_lie}
use Rattle.jc_code.proofs.laws.switch_tables_lie_in_the_code.Goals as goal

pub returns-clause-targets : goal.returns-clause-targets
returns-clause-targets c = targets_lie

pub returns-clause-cases : goal.returns-clause-cases
returns-clause-cases c = cases_lie
