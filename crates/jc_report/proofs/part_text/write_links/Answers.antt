use Rattle.std.proofs.Common.{ap, subst, sym}
use Rattle.std.specs.List.{flat_map}
use Rattle.jc_text.proofs.Sending.{HasSent, all_sent, none_sent, part_sent}
use Rattle.jc_report.specs.PartText.{link_line}
use Rattle.jc_report.proofs.part_text.write_links.Goals as goal

pub loop-link-init : goal.loop-link-init
loop-link-init g c =
    subst (λ left. HasSent g.W.Output.written g.W.Output.failures c.args.out.now c.args.out.now (flat_map link_line c.args.links) (flat_map link_line left)) (sym c.into_iter-link-iterator.ensures.into_iter_gives) (none_sent _ _ _ _)

pub loop-link-preserved : goal.loop-link-preserved
loop-link-preserved g c = part_sent c.loop-link.invariant (ap (flat_map link_line) c.in-Some.ensures.steps) c.write_link.ensures

pub returns : goal.returns
returns g c = all_sent c.loop-link.invariant (ap (flat_map link_line) c.in-None.ensures.steps.0)
