use Rattle.std.proofs.Common.{subst}
use Rattle.jc_index.specs.inside.IsIndex.{IsIndex}
use Rattle.jc_index.proofs.indexes.Lists.{key_used}
use Rattle.jc_linkage.proofs.row_index.RowIndex.rows_have_users.Goals as goal

pub returns : goal.returns
returns c = key_used c.args.self.now (subst IsIndex c.self.view_is c.self.invariant)
