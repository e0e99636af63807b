use Rattle.std.proofs.Common.{sym, subst}
use Rattle.std.specs.FinMap as fin
use Rattle.jc_classes.specs.inside.Numbering.{IsDigested, place_at}
use Rattle.jc_classes.proofs.numbering.Digests.{digested_empty}
use Rattle.jc_classes.proofs.numbers.Numbers.new.Goals as goal

pub invariant_of-result : goal.invariant_of-result
invariant_of-result c = subst (λ p. IsDigested (place_at c.new.result) p c.new-3.result) (sym c.new-2.ensures)
    (subst (IsDigested (place_at c.new.result) fin.empty) (sym c.new-3.ensures) (digested_empty c.new.result c.new.ensures.empty))
