use Rattle.jc_base.proofs.texts.SpelledBytes.{text_in_range}
use Rattle.jc_base.proofs.modified_utf8.bytes_are_in_range.Goals as goal

pub returns : goal.returns
returns c = text_in_range
