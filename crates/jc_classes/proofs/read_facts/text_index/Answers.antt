use Rattle.std.proofs.Common.{Some, sym, ap, ◌∙◌}
use Rattle.jc_classes.proofs.texts.ConstantTexts.{text_there, utf8_there}
use Rattle.jc_classes.proofs.read_facts.text_index.Goals as goal

pub returns-then-is_entry : goal.returns-then-is_entry
returns-then-is_entry c =
    let there = utf8_there c.args.class.now c.args.index (sym c.is_entry.ensures ∙ c.if-is_entry.true) in
    ap Some (text_there c.args.class.now c.args.index there.0 there.1) ∙ sym there.1
