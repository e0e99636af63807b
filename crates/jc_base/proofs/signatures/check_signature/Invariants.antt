use Rattle.std.proofs.Common.{length}
use Rattle.jc_base.proofs.grammar.Stack.{IsJudged}
use Rattle.jc_base.proofs.signatures.check_signature.Given as goal

abbrev pub invariant-loop-rest : goal.invariant-loop-rest
invariant-loop-rest l = IsJudged l.kind l.text l.stack.items l.rest

abbrev pub decreases-loop-rest : goal.decreases-loop-rest
decreases-loop-rest l = length l.rest
