use Rattle.std.proofs.Common.{None}
use Rattle.jc_code.proofs.sizes.FilledLists.{one_more}
use Rattle.jc_code.proofs.text_sizes.add_slots.Goals as goal

pub returns-in_ok-push : goal.returns-in_ok-push
returns-in_ok-push c = λ at fills is.
    let slots = c.args.slots.now in
    one_more None at c.args.index slots.items fills c.resize.new.self.items c.push.new.self.items c.args.more _ slots.ok.0 c.in_ok-resize.ensures.items c.in_ok-push.ensures.items is
