use Rattle.std.proofs.lemmas.Result.{err_from_is_err_and}
use Rattle.jc_view.specs.Reading.{pool_at}
use Rattle.jc_view.proofs.reading.PoolLoop.{pool_more, pool_cut, pool_done}
use Rattle.jc_view.proofs.layout_reader.skip_pool.Goals as goal

pub returns-in_err-offset : goal.returns-in_err-offset
returns-in_err-offset c =
    let p = err_from_is_err_and c.from_residual-in_err-offset.result c.from_residual-in_err-offset.ensures.1 in
    rw (p.1, p.2) (pool_cut c.in_err-offset.field-0.0 c.loop-index.offsets.items c.args.count c.loop-index.index c.loop-index.is_second c.loop-index.cursor (pool_at c.args.count c.args.cursor.now) c.loop-index-test.true c.in_err-offset.ensures c.loop-index.invariant)

pub loop-index-preserved : goal.loop-index-preserved
loop-index-preserved c =
    rw c.in_ok-push-2.ensures.items (pool_more c.loop-index.offsets.items c.args.count c.loop-index.index c.loop-index.is_second c.loop-index.cursor c.skip_entry.new.cursor (record { offset = c.in_ok-offset.offset; is_wide = c.in_ok-offset.is_wide }) (pool_at c.args.count c.args.cursor.now) c.loop-index-test.true c.in_ok-offset.ensures c.loop-index.invariant)

pub returns : goal.returns
returns c = pool_done c.loop-index.offsets.items c.args.count c.loop-index.index c.loop-index.is_second c.loop-index.cursor (pool_at c.args.count c.args.cursor.now) c.loop-index-test.false c.loop-index.invariant
