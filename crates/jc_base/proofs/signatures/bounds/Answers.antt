use Rattle.std.proofs.Common.{[], ◌∷◌, Some, arith}
use Rattle.jc_base.specs.Signatures.{Mark, Many, Param, Bound}
use Rattle.jc_base.specs.declared.signatures.Owed.TheVariants as entry
use Rattle.jc_base.proofs.grammar.Steps.{byte_gives, more_bounds, bounds_end, next_param}
use Rattle.jc_base.proofs.grammar.Stack.{nothing_left}
use Rattle.jc_base.proofs.signatures.bounds.Goals as goal

pub returns-in_err-first : goal.returns-in_err-first
returns-in_err-first c = rw c.from_residual.ensures (nothing_left entry.Bounds c.args.text.now c.in_err-first.ensures.cases)

pub returns-in-58 : goal.returns-in-58
returns-in-58 c = byte_gives (Many Bound ∷ Many Param ∷ Mark 62 ∷ []) c.args.text.now c.in_ok-first.first.now c.in_ok-first.rest.now (Some _) c.in_ok-first.ensures.cases.0 (more_bounds c.in_ok-first.first.now c.in-58.is)

pub returns-in-62 : goal.returns-in-62
returns-in-62 c = byte_gives (Many Bound ∷ Many Param ∷ Mark 62 ∷ []) c.args.text.now c.in_ok-first.first.now c.in_ok-first.rest.now (Some _) c.in_ok-first.ensures.cases.0 (bounds_end c.in_ok-first.first.now c.in-62.is)

pub returns-in_default : goal.returns-in_default
returns-in_default c = next_param c.args.text.now c.in_ok-first.first.now c.in_ok-first.rest.now c.first_param.result c.in_ok-first.ensures.cases.0 (λ e. omega arith) (λ e. omega arith) c.first_param.ensures
