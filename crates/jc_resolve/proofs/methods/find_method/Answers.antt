use Rattle.jc_classes.specs.MethodLookup.FindsMethod.{in_class, in_interface}
use Rattle.jc_resolve.proofs.lookups.IfOks.{if_ok_map}
use Rattle.jc_resolve.proofs.methods.find_method.Goals as goal

pub returns-in-Some-clause-found : goal.returns-in-Some-clause-found
returns-in-Some-clause-found c = λ m h. in_class (c.in-Some.ensures.found m h)

pub returns-in-None-clause-found : goal.returns-in-None-clause-found
returns-in-None-clause-found c = if_ok_map c.find_above.result _ _ (λ r f m h. in_interface (c.in-None.ensures.found m h) (f m h)) c.find_above.ensures.found
