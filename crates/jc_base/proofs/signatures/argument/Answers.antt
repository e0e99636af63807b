use Rattle.std.proofs.Common.{inl, inr, arith}
use Rattle.jc_base.proofs.grammar.FirstByte.{argument_is_any, argument_extends, argument_super, argument_other}
use Rattle.jc_base.proofs.signatures.argument.Goals as goal

pub returns-in-42 : goal.returns-in-42
returns-in-42 c = argument_is_any c.args.first c.in-42.is

pub returns-in-43 : goal.returns-in-43
returns-in-43 c = elim c.in-43.is [ inl e ↦ argument_extends c.args.first e | inr e ↦ argument_super c.args.first e ]

pub returns-in_default : goal.returns-in_default
returns-in_default c = argument_other c.args.first c.reference.result (λ e. grind arith) (λ e. grind arith) (λ e. grind arith) c.reference.ensures
