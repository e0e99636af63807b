use Rattle.std.proofs.Common.{[], ◌∷◌, sym, subst}
use Rattle.jc_base.specs.inside.Owed.{GivesRest}
use Rattle.jc_base.specs.Signatures.{Identifier, Mark}
use Rattle.jc_base.proofs.grammar.Steps.{named_gives, variable_name_needs_name}
use Rattle.jc_base.proofs.signatures.variable_name.Goals as goal

pub returns-in_err-stop : goal.returns-in_err-stop
returns-in_err-stop c = rw c.from_residual.ensures (variable_name_needs_name c.args.text.now c.in_err-stop.ensures)

pub returns : goal.returns
returns c =
    c.with_rest.ensures (Identifier ∷ Mark 59 ∷ []) c.args.text.now
    (subst (GivesRest (Identifier ∷ Mark 59 ∷ []) c.args.text.now c.in_ok-stop.rest.now) (sym c.alone.ensures.value)
    (named_gives (Identifier ∷ Mark 59 ∷ []) c.args.text.now c.in_ok-stop.stop c.in_ok-stop.rest.now c.after_variable_name.result c.in_ok-stop.ensures c.after_variable_name.ensures))
