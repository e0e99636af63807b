use Rattle.std.proofs.Common.{◌∙◌, ap, sym}
use Rattle.std.specs.List.{flat_map}
use Rattle.jc_view.specs.Lent.{handler_of}
use Rattle.jc_text.proofs.Sending.{part_sent, all_sent, sends_equal}
use Rattle.jc_list.specs.AttributeLines.{handler_line}
use Rattle.jc_list.proofs.lines.Joined.{all_left}
use Rattle.jc_list.proofs.code.write_handler_lines.Goals as goal

pub loop-handler-init : goal.loop-handler-init
loop-handler-init g c =
    let from = c.into_iter-handler-iterator.ensures.into_iter_gives ∙ c.handlers-handler-items.ensures.left in
    all_left (sym (ap (flat_map (handler_line c.args.code.now.class)) from))

pub loop-handler-preserved : goal.loop-handler-preserved
loop-handler-preserved g c =
    part_sent c.loop-handler.invariant (ap (flat_map (handler_line c.args.code.now.class)) c.in-Some.ensures.steps)
    (sends_equal (ap (λ class. handler_line class (handler_of c.in-Some.handler)) c.class.ensures) c.write_handler_line.ensures)

pub returns : goal.returns
returns g c = all_sent c.loop-handler.invariant (ap (flat_map (handler_line c.args.code.now.class)) c.in-None.ensures.steps.0)
