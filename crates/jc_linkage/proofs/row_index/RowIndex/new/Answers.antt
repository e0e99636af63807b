use Rattle.std.proofs.Common.{sym, ap, subst, ◌∙◌}
use Rattle.jc_index.specs.Indexes.{users_of}
use Rattle.jc_index.specs.inside.IsIndex.{IsIndex}
use Rattle.jc_index.proofs.indexes.Lists.{users-empty, is_index-empty}
use Rattle.jc_linkage.proofs.row_index.RowIndex.new.Goals as goal

pub invariant_of-result : goal.invariant_of-result
invariant_of-result c = subst IsIndex (sym c.new.ensures) is_index-empty

pub returns : goal.returns
returns c = λ n. ap (λ lists. users_of lists n) c.new.ensures ∙ users-empty n
