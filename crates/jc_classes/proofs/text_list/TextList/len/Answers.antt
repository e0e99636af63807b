use Rattle.std.proofs.Common.{length, ap, arith}
use Rattle.jc_classes.proofs.texts.TextLists.{length_texts}
use Rattle.jc_classes.proofs.text_list.TextList.len.Goals as goal

pub returns : goal.returns
returns c = omega (arith, c.len.ensures, c.self.inside.ends.ok, length_texts c.self.inside.bytes.items 0 c.self.inside.ends.items, ap length c.self.view_is)
