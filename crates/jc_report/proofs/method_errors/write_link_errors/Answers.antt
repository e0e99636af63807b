use Rattle.std.proofs.Common.{ap, subst, sym}
use Rattle.std.specs.List.{flat_map}
use Rattle.jc_text.proofs.Sending.{HasSent, all_sent, none_sent, part_sent}
use Rattle.jc_report.specs.ErrorsText.{link_error}
use Rattle.jc_report.proofs.method_errors.write_link_errors.Goals as goal

pub loop-link-init : goal.loop-link-init
loop-link-init g c =
    let lines = flat_map (link_error c.args.facts.now) in
    subst (λ left. HasSent g.W.Output.written g.W.Output.failures c.args.text.now c.args.text.now (lines c.args.links) (lines left))
    (sym c.into_iter-link-iterator.ensures.into_iter_gives) (none_sent _ _ _ _)

pub loop-link-preserved : goal.loop-link-preserved
loop-link-preserved g c = part_sent c.loop-link.invariant (ap (flat_map (link_error c.args.facts.now)) c.in-Some.ensures.steps) c.write_link_error.ensures

pub returns : goal.returns
returns g c = all_sent c.loop-link.invariant (ap (flat_map (link_error c.args.facts.now)) c.in-None.ensures.steps.0)
