use Rattle.std.proofs.Common.{[], ◌∷◌}
use Rattle.jc_base.specs.Signatures.{Mark, Many, JavaType, Result}
use Rattle.jc_base.proofs.grammar.FirstByte.{mark_begins, mark_refused}
use Rattle.jc_base.proofs.signatures.method_types.Goals as goal

pub returns-then-first-eq40 : goal.returns-then-first-eq40
returns-then-first-eq40 c = mark_begins (Many JavaType ∷ Mark 41 ∷ Result ∷ []) 40 c.args.first c.if-first-eq40.true

pub returns-else-first-eq40 : goal.returns-else-first-eq40
returns-else-first-eq40 c = mark_refused (Many JavaType ∷ Mark 41 ∷ Result ∷ []) 40 c.args.first c.if-first-eq40.false
