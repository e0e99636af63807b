use Rattle.std.proofs.Common.{refl}
use Rattle.jc_text.proofs.Sending.{all_sent, none_sent, part_sent}
use Rattle.jc_report.proofs.reports.GoneOver.{along_end, along_next, along_start}
use Rattle.jc_report.proofs.report_text.write_files.Goals as goal

pub loop-row-init : goal.loop-row-init
loop-row-init g c = rw c.into_iter-row-iterator.ensures.into_iter_gives (c.requires.can, c.requires.ends, along_start (λ all. none_sent _ _ _ _))

pub loop-row-preserved : goal.loop-row-preserved
loop-row-preserved g c =
    let goes = c.in-Some.ensures.goes.on c.loop-row.invariant.1 in
    (goes.0, goes.1, along_next c.in-Some.row c.loop-row.invariant.2 c.in-Some.ensures.steps (λ all rest so_far. part_sent so_far refl c.write_file_row.ensures))

pub returns : goal.returns
returns g c all gives = all_sent (along_end _ c.loop-row.invariant.2 c.in-None.ensures.steps all gives) refl
