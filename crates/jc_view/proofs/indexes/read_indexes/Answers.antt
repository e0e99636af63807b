use Rattle.jc_view.proofs.places.IndexTables.{indexes_whole}
use Rattle.jc_view.proofs.indexes.read_indexes.Goals as goal

pub invariant_of-result : goal.invariant_of-result
invariant_of-result c = indexes_whole c.args.cursor.now c.in_ok-table.table c.skip_indexes.new.cursor.rest c.in_ok-table.ensures.0 c.in_ok-table.ensures.2 c.in_ok-table.ensures.3
