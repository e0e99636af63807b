use Rattle.std.proofs.Common.{ap, subst}
use Rattle.jc_classes.specs.Facts.{Facts}
use Rattle.jc_classes.specs.FactsOrder.{AreByIndex, AreByPlace}
use Rattle.jc_classes.proofs.facts.Facts.are_in_order.Goals as goal

pub returns-clause-references : goal.returns-clause-references
returns-clause-references c = subst AreByIndex (ap (λ (f : Facts). f.references) c.self.view_is) c.self.invariant.references

pub returns-clause-uses : goal.returns-clause-uses
returns-clause-uses c = subst AreByPlace (ap (λ (f : Facts). f.uses) c.self.view_is) c.self.invariant.uses
