use Rattle.std.proofs.Common.{◌∙◌, ◌++◌, ap}
use Rattle.jc_view.specs.Attributes.{Bootstrap}
use Rattle.jc_view.specs.Reading.{after_table}
use Rattle.jc_view.specs.AttributeReading.{after_bootstrap, bootstrap_value}
use Rattle.jc_view.proofs.reading.TableLoop.{each_more, each_cut, each_done}
use Rattle.jc_classes.proofs.using.Tables.{found_all, found_more}
use Rattle.jc_classes.proofs.used.read_arguments.Goals as goal

pub returns-in-None : goal.returns-in-None
returns-in-None c =
    each_cut after_bootstrap c.in-Some.count c.loop.counter c.loop.cursor.rest (after_table after_bootstrap c.args.cursor.now.rest) c.loop-test.true c.in-None.ensures c.loop.invariant.0

pub loop-preserved : goal.loop-preserved
loop-preserved c =
    let behind = c.in-Some-read_method.ensures in (
      each_more after_bootstrap c.in-Some.count c.loop.counter c.loop.cursor.rest c.read_method.new.cursor.rest (after_table after_bootstrap c.args.cursor.now.rest) c.loop-test.true behind.0 c.loop.invariant.0,
      behind.1 ∙ c.loop.invariant.1,
      found_more after_bootstrap bootstrap_value (λ (m : Bootstrap). m.arguments) c.in-Some.count c.loop.counter c.loop.cursor.rest c.read_method.new.cursor.rest c.loop.arguments.items _ _ c.loop-test.true behind.0
          (c.in_ok-add_indexes-in-Some-read_method.ensures ∙ ap (λ v. c.loop.arguments.items ++ v) behind.2) c.loop.invariant.2,
    )

pub returns : goal.returns
returns c = (
  each_done after_bootstrap c.in-Some.count c.loop.counter c.loop.cursor.rest (after_table after_bootstrap c.args.cursor.now.rest) c.loop-test.false c.loop.invariant.0,
  c.loop.invariant.1,
  found_all after_bootstrap bootstrap_value (λ (m : Bootstrap). m.arguments) c.in-Some.count c.loop.counter c.loop.cursor.rest c.loop.arguments.items _ c.loop-test.false c.loop.invariant.2,
)
