use Rattle.std.proofs.Common.{rules, ◌∙◌}
use Rattle.jc_view.specs.Reading.{after_member, after_table}
use Rattle.jc_view.proofs.reading.TableLoop.{each_more, each_cut, each_done}
use Rattle.jc_view.proofs.layout_reader.skip_members.Goals as goal

pub returns-in_err-skip_member : goal.returns-in_err-skip_member
returns-in_err-skip_member c =
    rw c.from_residual-in_err-skip_member.ensures
    (each_cut after_member c.in_ok-count.count c.loop.counter c.loop.cursor.rest (after_table after_member c.args.cursor.now.rest) c.loop-test.true c.in_err-skip_member.ensures c.loop.invariant.0)

pub loop-preserved : goal.loop-preserved
loop-preserved c =
    let behind = c.in_ok-skip_member.ensures in
    (each_more after_member c.in_ok-count.count c.loop.counter c.loop.cursor.rest c.skip_member.new.cursor.rest (after_table after_member c.args.cursor.now.rest) c.loop-test.true behind.0 c.loop.invariant.0, behind.1 ∙ c.loop.invariant.1)

pub returns : goal.returns
returns c =
    (each_done after_member c.in_ok-count.count c.loop.counter c.loop.cursor.rest (after_table after_member c.args.cursor.now.rest) c.loop-test.false c.loop.invariant.0, c.loop.invariant.1, search rules, search rules)
