use Rattle.std.proofs.Common.{◌≤◌, length, subst}
use Rattle.std.specs.List.{All}
use Rattle.jc_base.specs.Descriptors.{MethodType, IsFieldDescriptor}
use Rattle.jc_base.proofs.types.ParametersInFront.{at_most_255}
use Rattle.jc_base.proofs.descriptors.MethodDesc.params.Goals as goal

pub returns-clause-each : goal.returns-clause-each
returns-clause-each c = subst (λ (m : MethodType). All IsFieldDescriptor m.params) c.self.view_is c.self.invariant.0.each

pub invariant_of-result : goal.invariant_of-result
invariant_of-result c = record { few = at_most_255 _ c.self.invariant.0 }

pub returns-clause-few : goal.returns-clause-few
returns-clause-few c = subst (λ (m : MethodType). length m.params ≤ 255) c.self.view_is (at_most_255 _ c.self.invariant.0)
