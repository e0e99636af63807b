use Rattle.std.proofs.Common.{[], ◌∷◌}
use Rattle.jc_base.specs.Signatures.{JavaType, Result}
use Rattle.jc_base.proofs.grammar.FirstByte.{many_ends, many_goes_on, close_refused}
use Rattle.jc_base.proofs.signatures.parameters.Goals as goal

pub returns-then-first-eq41 : goal.returns-then-first-eq41
returns-then-first-eq41 c = many_ends JavaType (Result ∷ []) 41 c.args.first close_refused c.if-first-eq41.true

pub returns-else-first-eq41 : goal.returns-else-first-eq41
returns-else-first-eq41 c = many_goes_on JavaType (Result ∷ []) 41 c.args.first c.followed.result c.if-first-eq41.false (c.followed.ensures (JavaType ∷ []) c.args.first c.java.ensures)
