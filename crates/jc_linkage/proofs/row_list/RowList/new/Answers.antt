use Rattle.std.proofs.Common.{None, sym, subst}
use Rattle.jc_index.proofs.lists.Rising.{rises_none}
use Rattle.jc_linkage.specs.inside.RowLists.{IsRowList}
use Rattle.jc_linkage.proofs.equations.Options.{none_some}
use Rattle.jc_linkage.proofs.row_list.RowList.new.Goals as goal

pub invariant_of-result : goal.invariant_of-result
invariant_of-result c = subst (IsRowList None) (sym c.new.ensures.items) (record { rises = rises_none; of = λ own e. absurd (none_some e) })
