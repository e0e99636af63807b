use Rattle.std.proofs.Common.{refl}
use Rattle.jc_text.proofs.Sending.{all_sent, none_sent, part_sent}
use Rattle.jc_report.proofs.reports.GoneOver.{along_end, along_next, along_start}
use Rattle.jc_report.proofs.report_text.write_classes.Goals as goal

pub loop-class-init : goal.loop-class-init
loop-class-init g c = rw c.into_iter-class-iterator.ensures.into_iter_gives (c.requires.can, c.requires.ends, along_start (λ all. none_sent _ _ _ _))

pub loop-class-preserved : goal.loop-class-preserved
loop-class-preserved g c =
    let goes = c.in-Some.ensures.goes.on c.loop-class.invariant.1 in
    (goes.0, goes.1, along_next c.in-Some.class c.loop-class.invariant.2 c.in-Some.ensures.steps (λ all rest so_far. part_sent so_far refl c.write_part.ensures))

pub returns : goal.returns
returns g c all gives = all_sent (along_end _ c.loop-class.invariant.2 c.in-None.ensures.steps all gives) refl
