use Rattle.std.proofs.Common.{sym}
use Rattle.jc_text.proofs.Sending.{sends_equal}
use Rattle.jc_list.proofs.lines.Choices.{catches_any, catches_one}
use Rattle.jc_list.proofs.code.write_catch.Goals as goal

pub returns-then-index-eq0 : goal.returns-then-index-eq0
returns-then-index-eq0 g c = sends_equal (sym (catches_any c.args.class.now c.args.index c.if-index-eq0.true)) c.text.ensures

pub returns-else-index-eq0 : goal.returns-else-index-eq0
returns-else-index-eq0 g c = sends_equal (sym (catches_one c.args.class.now c.args.index c.if-index-eq0.false)) c.write_index_with_reference.ensures
