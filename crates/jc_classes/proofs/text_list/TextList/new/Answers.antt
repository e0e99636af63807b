use Rattle.std.proofs.Common.{ap, ◌∙◌}
use Rattle.jc_classes.specs.inside.TextList.{texts_from}
use Rattle.jc_classes.proofs.texts.TextLists.{no_texts}
use Rattle.jc_classes.proofs.text_list.TextList.new.Goals as goal

pub returns : goal.returns
returns c = ap (texts_from c.new.result.items 0) c.new-2.ensures.items ∙ no_texts c.new.result.items
