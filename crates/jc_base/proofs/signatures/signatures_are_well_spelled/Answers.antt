use Rattle.jc_base.proofs.grammar.SignaturesAreTexts.{signature_spelled}
use Rattle.jc_base.proofs.signatures.signatures_are_well_spelled.Goals as goal

pub returns : goal.returns
returns c = signature_spelled
