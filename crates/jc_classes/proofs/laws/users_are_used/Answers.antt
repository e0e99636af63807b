use Rattle.jc_classes.proofs.using.UsersUsed.{users_used}
use Rattle.jc_classes.proofs.laws.users_are_used.Goals as goal

pub returns : goal.returns
returns c = users_used
