use Rattle.std.proofs.Common.{sym, subst}
use Rattle.jc_file.specs.inside.Texts.{IsKnown}
use Rattle.jc_file.proofs.sets.KnownTexts.{noted}
use Rattle.jc_file.proofs.texts.Texts.note.Goals as goal

pub invariant_of-self : goal.invariant_of-self
invariant_of-self c =
    noted c.self.inside.class.now c.self.inside.known.items c.args.index c.args.known c.self.invariant
    (subst (λ k. IsKnown k c.args.index c.args.known) (sym c.self.view_is) c.requires)
