use Rattle.std.proofs.Common.{take}
use Rattle.jc_classes.specs.UsedConstants.{is_among}
use Rattle.jc_classes.specs.inside.Using.{Marks}
use Rattle.jc_classes.proofs.used.mark_all.Given as goal

abbrev pub invariant-loop-index : goal.invariant-loop-index
invariant-loop-index l = Marks (is_among (take l.index-index l.indexes)) l.fn.marks.items l.marks.items
