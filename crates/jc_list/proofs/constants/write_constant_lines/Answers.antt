use Rattle.std.proofs.Common.{ap, arith}
use Rattle.std.specs.List.{flat_map, range_with_len}
use Rattle.jc_text.proofs.Sending.{part_sent, all_sent}
use Rattle.jc_list.specs.ConstantLines.{constant_lines, line_at}
use Rattle.jc_list.proofs.lines.Joined.{all_left}
use Rattle.jc_list.proofs.lines.Indexes.{range_next, range_done}
use Rattle.jc_list.proofs.constants.write_constant_lines.Goals as goal

pub loop-index-init : goal.loop-index-init
unfolding constant_lines
loop-index-init g c = all_left (ap (λ n. flat_map (line_at c.args.class.now) (range_with_len 1 n)) (omega arith))

pub loop-index-preserved : goal.loop-index-preserved
loop-index-preserved g c =
    part_sent c.loop-index.invariant (ap (flat_map (line_at c.args.class.now)) (range_next c.loop-index.index _ (omega arith))) c.write_line_at.ensures

pub returns : goal.returns
returns g c = all_sent c.loop-index.invariant (ap (flat_map (line_at c.args.class.now)) (range_done c.loop-index.index _ (omega arith)))
