use Rattle.std.proofs.Common.{Ok, ap, subst, sym, ◌∙◌}
use Rattle.jc_input.specs.Sources.{answer_of}
use Rattle.jc_session.specs.inside.Adding.{AddsOne}
use Rattle.jc_session.proofs.tree_check.add.Goals as goal

pub returns-in-Ok : goal.returns-in-Ok
returns-in-Ok c = λ f h. subst (λ a. AddsOne f c.args.path.now a c.add_bytes.result) (ap Ok c.deref.ensures.value ∙ sym (ap answer_of c.in-Ok.is)) (c.add_bytes.ensures f h)
