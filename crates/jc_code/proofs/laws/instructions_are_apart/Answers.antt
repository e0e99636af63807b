use Rattle.jc_code.proofs.decoding.Standing.{insns_apart, code_apart}
use Rattle.jc_code.proofs.laws.instructions_are_apart.Goals as goal

pub returns-clause-one : goal.returns-clause-one
returns-clause-one c = insns_apart

pub returns-clause-items : goal.returns-clause-items
returns-clause-items c = λ code items more end last first second. (code_apart code items more end last first second).0

pub returns-clause-end : goal.returns-clause-end
returns-clause-end c = λ code items more end last first second. (code_apart code items more end last first second).1
