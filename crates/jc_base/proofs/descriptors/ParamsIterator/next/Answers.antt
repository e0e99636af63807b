use Rattle.std.proofs.Common.{ap, rules, length, arith}
use Rattle.jc_base.proofs.types.FieldsInFront.{fields_end, fields_step}
use Rattle.jc_base.proofs.descriptors.ParamsIterator.next.Goals as goal

pub returns-in_err-param-clause-steps : goal.returns-in_err-param-clause-steps
returns-in_err-param-clause-steps c =
    let none = fields_end c.args.self.now.rest.now c.in_err-param.ensures.none in
    rw c.from_residual.ensures (none, none)

pub returns-clause-steps : goal.returns-clause-steps
returns-clause-steps c = fields_step c.args.self.now.rest.now _ _ c.in_ok-param.ensures.found

pub returns-clause-goes : goal.returns-clause-goes
returns-clause-goes c =
    let shorter = ap length (fields_step c.args.self.now.rest.now _ _ c.in_ok-param.ensures.found) in search rules

pub invariant_of-self : goal.invariant_of-self
invariant_of-self c =
    let shorter = ap length (fields_step c.args.self.now.rest.now _ _ c.in_ok-param.ensures.found) in
    record { few = omega (arith, shorter, c.args.self.now.few) }
