use Rattle.jc_text.proofs.Sending.{◌⟫◌}
use Rattle.jc_text.proofs.WritesAtOnce.{sends_waiting, sends_unchanged}
use Rattle.jc_text.proofs.text_writer.TextWriter.text.Goals as goal

pub returns-then-not-keep : goal.returns-then-not-keep
returns-then-not-keep g c = sends_unchanged _ _ _ _ (c.keep.ensures.full c.if-not-keep.true) ⟫ c.text_without_room.ensures

pub returns-else-not-keep : goal.returns-else-not-keep
returns-else-not-keep g c = sends_waiting _ _ _ _ c.args.bytes.now (c.keep.ensures.kept c.if-not-keep.false)
