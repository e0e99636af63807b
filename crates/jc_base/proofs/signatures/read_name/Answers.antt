use Rattle.std.proofs.Common.{sym, ◌∙◌}
use Rattle.std.proofs.lemmas.Bool.{false≢true}
use Rattle.jc_base.proofs.grammar.Identifiers.{no_stop_no_name, no_text_no_name}
use Rattle.jc_base.proofs.grammar.Cuts.{has_name}
use Rattle.jc_base.proofs.signatures.read_name.Goals as goal

pub returns-in_err-name : goal.returns-in_err-name
returns-in_err-name c = rw c.from_residual.ensures (no_stop_no_name c.args.text.now c.in_err-name.ensures)

pub returns-then-is_text : goal.returns-then-is_text
returns-then-is_text c = has_name c.args.text.now c.in_ok-name.name.now c.in_ok-name.stop c.in_ok-name.rest.now c.in_ok-name.ensures (c.is_text.ensures.0 c.if-is_text.true)

pub returns-else-is_text : goal.returns-else-is_text
returns-else-is_text c = no_text_no_name c.args.text.now c.in_ok-name.name.now c.in_ok-name.stop c.in_ok-name.rest.now c.in_ok-name.ensures (λ is. false≢true (sym c.if-is_text.false ∙ c.is_text.ensures.1 (is.0, is.1)))
