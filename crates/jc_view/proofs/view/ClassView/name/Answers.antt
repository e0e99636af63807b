use Rattle.std.proofs.Common.{subst}
use Rattle.jc_view.specs.ClassFile.{ClassFile, FitsClassFile}
use Rattle.jc_view.proofs.places.ConstantPlaces.{lent}
use Rattle.jc_view.proofs.view.ClassView.name.Goals as goal

pub returns-clause-lent : goal.returns-clause-lent
returns-clause-lent c = λ named.
    lent c.args.self.now named.entry c.self.inside.name.now (subst (λ (k : ClassFile). FitsClassFile k) c.self.view_is c.self.invariant.holds.fits) named.text
