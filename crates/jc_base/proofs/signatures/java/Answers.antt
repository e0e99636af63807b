use Rattle.std.proofs.Common.{sym, ◌∙◌}
use Rattle.std.proofs.lemmas.Bool.{false≢true}
use Rattle.jc_base.proofs.grammar.FirstByte.{java_base, java_other}
use Rattle.jc_base.proofs.signatures.java.Goals as goal

pub returns-then-is_base_letter : goal.returns-then-is_base_letter
returns-then-is_base_letter c = java_base c.args.first (c.is_base_letter.ensures.base.0 c.if-is_base_letter.true)

pub returns-else-is_base_letter : goal.returns-else-is_base_letter
returns-else-is_base_letter c = java_other c.args.first c.reference.result (λ has. false≢true (sym c.if-is_base_letter.false ∙ c.is_base_letter.ensures.base.1 has)) c.reference.ensures
