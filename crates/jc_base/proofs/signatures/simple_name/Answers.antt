use Rattle.std.proofs.Common.{[], ◌∷◌, sym, subst}
use Rattle.jc_base.specs.inside.Owed.{GivesRest}
use Rattle.jc_base.specs.Signatures.{Mark, Many, SimpleClass, Suffix}
use Rattle.jc_base.proofs.grammar.Steps.{named_gives, simple_name_needs_name}
use Rattle.jc_base.proofs.signatures.simple_name.Goals as goal

pub returns-in_err-stop : goal.returns-in_err-stop
returns-in_err-stop c = rw c.from_residual.ensures (simple_name_needs_name c.args.text.now c.in_err-stop.ensures)

pub returns : goal.returns
returns c =
    c.with_rest.ensures (SimpleClass ∷ Many Suffix ∷ Mark 59 ∷ []) c.args.text.now
    (subst (GivesRest (SimpleClass ∷ Many Suffix ∷ Mark 59 ∷ []) c.args.text.now c.in_ok-stop.rest.now) (sym c.alone.ensures.value)
    (named_gives (SimpleClass ∷ Many Suffix ∷ Mark 59 ∷ []) c.args.text.now c.in_ok-stop.stop c.in_ok-stop.rest.now c.after_simple_name.result c.in_ok-stop.ensures c.after_simple_name.ensures))
