use Rattle.std.proofs.Common.{[], ◌∷◌}
use Rattle.jc_base.specs.Signatures.{ClassType}
use Rattle.jc_base.proofs.grammar.FirstByte.{params_begin, no_params, class_refuses_params}
use Rattle.jc_base.proofs.signatures.class_signature.Goals as goal

pub returns-then-first-eq60 : goal.returns-then-first-eq60
returns-then-first-eq60 c = params_begin (ClassType ∷ []) c.args.first class_refuses_params c.if-first-eq60.true

pub returns-else-first-eq60 : goal.returns-else-first-eq60
returns-else-first-eq60 c = no_params (ClassType ∷ []) c.args.first c.alone.result c.if-first-eq60.false (c.alone.ensures.gives (ClassType ∷ []) c.args.first c.class_type.ensures)
