use Rattle.jc_base.proofs.texts.TestsDecide.{units_decide, unqualified_decides, method_name_decides, class_decides}
use Rattle.jc_base.proofs.names.texts_are_decided.Goals as goal

pub returns : goal.returns
returns c = record { units = units_decide; unqualified = unqualified_decides; method = method_name_decides; class = class_decides }
