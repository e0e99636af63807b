use Rattle.std.proofs.Common.{[], ◌∷◌}
use Rattle.jc_base.specs.Signatures.{Mark, Many, JavaType, Result}
use Rattle.jc_base.proofs.grammar.FirstByte.{params_begin, no_params, method_refuses_params}
use Rattle.jc_base.proofs.signatures.method_signature.Goals as goal

pub returns-then-first-eq60 : goal.returns-then-first-eq60
returns-then-first-eq60 c = params_begin (Mark 40 ∷ Many JavaType ∷ Mark 41 ∷ Result ∷ []) c.args.first method_refuses_params c.if-first-eq60.true

pub returns-else-first-eq60 : goal.returns-else-first-eq60
returns-else-first-eq60 c = no_params (Mark 40 ∷ Many JavaType ∷ Mark 41 ∷ Result ∷ []) c.args.first c.alone.result c.if-first-eq60.false (c.alone.ensures.gives (Mark 40 ∷ Many JavaType ∷ Mark 41 ∷ Result ∷ []) c.args.first c.method_types.ensures)
