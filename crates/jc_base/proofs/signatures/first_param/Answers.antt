use Rattle.std.proofs.Common.{[], ◌∷◌, sym, subst}
use Rattle.jc_base.specs.inside.Owed.{GivesRest}
use Rattle.jc_base.specs.Signatures.{Mark, Many, Param}
use Rattle.jc_base.proofs.grammar.Steps.{named_gives, first_param_needs_name}
use Rattle.jc_base.proofs.signatures.first_param.Goals as goal

pub returns-in_err-stop : goal.returns-in_err-stop
returns-in_err-stop c = rw c.from_residual.ensures (first_param_needs_name c.args.text.now c.in_err-stop.ensures)

pub returns : goal.returns
returns c =
    c.with_rest.ensures (Param ∷ Many Param ∷ Mark 62 ∷ []) c.args.text.now
    (subst (GivesRest (Param ∷ Many Param ∷ Mark 62 ∷ []) c.args.text.now c.in_ok-stop.rest.now) (sym c.alone.ensures.value)
    (named_gives (Param ∷ Many Param ∷ Mark 62 ∷ []) c.args.text.now c.in_ok-stop.stop c.in_ok-stop.rest.now c.after_param_name.result c.in_ok-stop.ensures c.after_param_name.ensures))
