use Rattle.std.proofs.Common.{sym}
use Rattle.jc_report.proofs.row_keys.KeyOrder.{key_order}
use Rattle.jc_report.proofs.laws.keys_keep_order.Goals as goal

pub returns : goal.returns
returns c = λ a b. sym (key_order a b)
