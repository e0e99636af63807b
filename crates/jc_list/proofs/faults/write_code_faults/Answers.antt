use Rattle.jc_list.proofs.fronts.OneBehindAnother.{begins_nothing, lists_front}
use Rattle.jc_list.proofs.faults.write_code_faults.Goals as goal

pub returns-in_err-sizes-clause-lists : goal.returns-in_err-sizes-clause-lists
returns-in_err-sizes-clause-lists g c = lists_front c.from_residual.result c.from_residual.ensures.0 (begins_nothing _ _ _ _)
