use Rattle.jc_view.proofs.refusals.Layouts.{one_layout, one_class, one_refusal, none_applies}
use Rattle.jc_view.proofs.laws.layouts_are_apart.Goals as goal

pub returns : goal.returns
returns c = record { fronts = λ k l fits other rest. one_layout k l rest fits other; one_record = one_class; refusals = one_refusal; readable = λ b e h. none_applies b e h }
