use Rattle.std.proofs.Common.{◌∙◌}
use Rattle.jc_view.specs.Reading.{after_table}
use Rattle.jc_view.specs.AttributeReading.{after_bootstrap, bootstrap_value}
use Rattle.jc_file.specs.FormatRules.{is_bootstrap}
use Rattle.jc_view.proofs.reading.TableLoop.{each_more, each_cut, each_done}
use Rattle.jc_view.proofs.places.IndexTables.{all_more, all_done}
use Rattle.jc_file.proofs.bootstraps.read_bootstraps.Goals as goal

pub returns-in_err-all : goal.returns-in_err-all
returns-in_err-all c =
    rw c.from_residual-in_err-all.ensures
    (each_cut after_bootstrap c.in_ok-count.count c.loop.counter c.loop.cursor.rest (after_table after_bootstrap c.args.cursor.now.rest) c.loop-test.true c.in_err-all.ensures c.loop.invariant.0)

pub loop-preserved : goal.loop-preserved
loop-preserved c =
    let behind = c.in_ok-all.ensures in (
      each_more after_bootstrap c.in_ok-count.count c.loop.counter c.loop.cursor.rest c.read_bootstrap.new.cursor.rest (after_table after_bootstrap c.args.cursor.now.rest) c.loop-test.true behind.0 c.loop.invariant.0,
      behind.1 ∙ c.loop.invariant.1,
      all_more after_bootstrap bootstrap_value (is_bootstrap c.args.class.now) c.in_ok-count.count c.loop.counter c.loop.cursor.rest c.read_bootstrap.new.cursor.rest c.loop.all c.in_ok-all.field-0 _ c.loop-test.true behind.0 behind.2 c.loop.invariant.2,
    )

pub returns : goal.returns
returns c = (
  each_done after_bootstrap c.in_ok-count.count c.loop.counter c.loop.cursor.rest (after_table after_bootstrap c.args.cursor.now.rest) c.loop-test.false c.loop.invariant.0,
  c.loop.invariant.1,
  all_done after_bootstrap bootstrap_value (is_bootstrap c.args.class.now) c.in_ok-count.count c.loop.counter c.loop.cursor.rest c.loop.all _ c.loop-test.false c.loop.invariant.2,
)
