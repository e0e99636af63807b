use Rattle.std.proofs.Common.{◌≡◌, subst}
use Rattle.jc_base.specs.ModifiedUtf8.{IsLongestFront}
use Rattle.jc_base.proofs.texts.WellSpelledFronts.{one_longest}
use Rattle.jc_base.proofs.modified_utf8.units.Goals as goal

pub returns-in-Err-clause-bad : goal.returns-in-Err-clause-bad
returns-in-Err-clause-bad c = λ place. (
  λ e. let same : c.in-Err.place ≡ place = cc in subst (IsLongestFront c.args.text.now) same c.in-Err.ensures.place,
  λ longest. let same = one_longest c.args.text.now c.in-Err.place place c.in-Err.ensures.place longest in cc,
)
