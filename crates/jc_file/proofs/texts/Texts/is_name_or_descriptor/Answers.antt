use Rattle.std.proofs.Common.{◌∙◌, sym}
use Rattle.jc_file.proofs.sets.SpelledTexts.{known_spelled}
use Rattle.jc_file.proofs.texts.Texts.is_name_or_descriptor.Goals as goal

pub returns : goal.returns
returns c = λ e. known_spelled c.args.self.now c.args.index c.known.result c.known.ensures (sym c.is_name_or_descriptor.ensures ∙ e)
