use Rattle.jc_base.proofs.grammar.TestDecides.{signature_decides}
use Rattle.jc_base.proofs.signatures.signatures_are_decided.Goals as goal

pub returns : goal.returns
returns c = signature_decides
