use Rattle.jc_session.proofs.runs.OneRun.{one_run}
use Rattle.jc_session.proofs.laws.one_run.Goals as goal

pub returns : goal.returns
returns c = λ h s lines q r a b. one_run a b
