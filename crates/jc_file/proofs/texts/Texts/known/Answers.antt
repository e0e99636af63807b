use Rattle.std.proofs.Common.{◌∙◌, ap, sym, subst}
use Rattle.std.specs.Prelude.{slice_get}
use Rattle.jc_file.specs.inside.Texts.{IsKnown}
use Rattle.jc_file.proofs.texts.Texts.known.Goals as goal

pub returns-in-Some : goal.returns-in-Some
returns-in-Some c =
    subst (λ k. IsKnown k c.args.index c.in-Some.known) c.self.view_is
    (c.self.invariant c.args.index.0 c.in-Some.known
    (ap (λ ks. slice_get ks c.args.index.0) (sym c.deref.ensures.value) ∙ sym c.known_at.ensures ∙ c.in-Some.is))

pub returns-in-None : goal.returns-in-None
returns-in-None c = c.nothing.ensures c.args.self.now c.args.index
