use Rattle.std.proofs.Common.{ap, ◌∙◌}
use Rattle.jc_classes.specs.inside.TextList.{texts_from}
use Rattle.jc_classes.proofs.texts.TextLists.{no_texts}
use Rattle.jc_classes.proofs.text_list.TextList.with_room.Goals as goal

pub returns : goal.returns
returns c = ap (texts_from c.in_ok-bytes.bytes.items 0) c.in_ok-ends.ensures.items ∙ no_texts c.in_ok-bytes.bytes.items
