use Rattle.std.proofs.Common.{◌∙◌, ap, refl, subst, sym}
use Rattle.jc_text.proofs.Sending.{HasSent, all_sent, none_sent, part_sent, sends_equal}
use Rattle.jc_report.specs.ClassLent.{class_lent}
use Rattle.jc_report.specs.ReportText.{name_line}
use Rattle.jc_report.specs.inside.Given.{circular_lines}
use Rattle.jc_report.proofs.reports.CircularLines.{circular_next, circular_not}
use Rattle.jc_report.proofs.reports.GoneOver.{along_end, along_next, along_start}
use Rattle.jc_report.proofs.report_text.write_circular.Goals as goal

pub loop-class-init : goal.loop-class-init
loop-class-init g c = rw c.into_iter-class-iterator.ensures.into_iter_gives (c.requires.can, c.requires.ends, along_start (λ all. none_sent _ _ _ _))

pub loop-class-preserved-then-is_circular : goal.loop-class-preserved-then-is_circular
loop-class-preserved-then-is_circular g c =
    let goes = c.in-Some.ensures.goes.on c.loop-class.invariant.1 in
    let circular = sym c.is_circular.ensures ∙ c.if-is_circular.true in
    let sent = sends_equal (ap name_line c.name.ensures) c.write_name.ensures in (
      goes.0,
      goes.1,
      along_next c.in-Some.class c.loop-class.invariant.2 c.in-Some.ensures.steps (λ all rest so_far. part_sent so_far (circular_next (class_lent c.in-Some.class) rest circular) sent),
    )

pub loop-class-preserved : goal.loop-class-preserved
loop-class-preserved g c =
    let goes = c.in-Some.ensures.goes.on c.loop-class.invariant.1 in
    let not_circular = sym c.is_circular.ensures ∙ c.if-is_circular.false in (
      goes.0,
      goes.1,
      along_next c.in-Some.class c.loop-class.invariant.2 c.in-Some.ensures.steps (λ all rest so_far.
          subst (HasSent g.W.Output.written g.W.Output.failures c.args.text.now c.loop-class.text (circular_lines all)) (circular_not (class_lent c.in-Some.class) rest not_circular) so_far),
    )

pub returns : goal.returns
returns g c all gives = all_sent (along_end _ c.loop-class.invariant.2 c.in-None.ensures.steps all gives) refl
