use Rattle.std.specs.List.{flat_map}
use Rattle.jc_text.proofs.Sending.{HasSent}
use Rattle.jc_report.specs.PartText.{link_line}
use Rattle.jc_report.proofs.part_text.write_links.Given as goal

-- all lines but those that are left
abbrev pub invariant-loop-link : goal.invariant-loop-link
invariant-loop-link g l = HasSent g.W.Output.written g.W.Output.failures l.fn.out l.out (flat_map link_line l.fn.links) (flat_map link_line l.link-iterator)
