use Rattle.std.proofs.Common.{◌∙◌, ap, sym}
use Rattle.std.specs.List.{flat_map}
use Rattle.jc_view.specs.Lent.{interface_names}
use Rattle.jc_text.proofs.Sending.{part_sent, all_sent}
use Rattle.jc_list.proofs.lines.Interfaces.{interface_text, interface_lines}
use Rattle.jc_list.proofs.lines.Joined.{all_left}
use Rattle.jc_list.proofs.class_lines.write_interface_lines.Goals as goal

pub loop-name-init : goal.loop-name-init
loop-name-init g c =
    let from = c.into_iter-name-iterator.ensures.into_iter_gives ∙ c.interfaces-name-items.ensures.left in
    all_left (sym (interface_lines c.args.class.now c.args.class.now.interfaces) ∙ sym (ap (λ it. flat_map interface_text (interface_names it)) from))

pub loop-name-preserved : goal.loop-name-preserved
loop-name-preserved g c = part_sent c.loop-name.invariant (ap (flat_map interface_text) c.in-Some.ensures.steps) c.write_interface_line.ensures

pub returns : goal.returns
returns g c = all_sent c.loop-name.invariant (ap (flat_map interface_text) c.in-None.ensures.steps.0)
