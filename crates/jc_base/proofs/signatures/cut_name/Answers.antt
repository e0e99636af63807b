use Rattle.jc_base.proofs.grammar.Cuts.{cut_at, cut_nowhere}
use Rattle.jc_base.proofs.signatures.cut_name.Goals as goal

pub returns-in_err-place : goal.returns-in_err-place
returns-in_err-place c = rw c.from_residual.ensures (cut_nowhere c.args.text.now c.in_err-place.ensures.value)

pub returns : goal.returns
returns c = cut_at c.args.text.now c.in_ok-place.place c.in_ok-place.ensures.value c.in_ok-place.ensures.within
