use Rattle.std.proofs.Common.{rules}
use Rattle.jc_view.proofs.view.ClassView.constant.Goals as goal

pub returns : goal.returns
returns c = search rules
