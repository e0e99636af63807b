use Rattle.std.proofs.Common.{arith, subst}
use Rattle.jc_resolve.specs.inside.AbstractMethods.{AreNumbers}
use Rattle.jc_resolve.proofs.lookups.AbstractLemmas.{numbers_none, numbers_start}
use Rattle.jc_resolve.proofs.abstract_methods.no_numbers.Goals as goal

pub loop-init : goal.loop-init
loop-init c = λ all. numbers_start all c.in_ok-of_class.of_class.items c.in_ok-of_class.ensures.items

pub loop-preserved : goal.loop-preserved
loop-preserved c = λ all. numbers_none c.loop.counter all c.loop.of_class.items c.push.new.self.items c.new.result (c.loop.invariant all) c.in_ok-push.ensures.items c.new.ensures.items

pub returns : goal.returns
returns c = λ all. subst (λ n. AreNumbers n 0 all c.loop.of_class.items) (let q = c.loop-test.false in let r = c.loop.auto.counter-end in omega arith) (c.loop.invariant all)
