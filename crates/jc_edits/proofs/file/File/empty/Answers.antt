use Rattle.std.proofs.Common.{ap, sym, ◌∙◌}
use Rattle.jc_view.specs.Outcome.{class_named}
use Rattle.jc_edits.proofs.holding.EmptyFile.{class_named-empty}
use Rattle.jc_edits.proofs.file.File.empty.Goals as goal

pub invariant_of-result : goal.invariant_of-result
invariant_of-result c = sym (ap class_named c.new.ensures.items ∙ class_named-empty)
