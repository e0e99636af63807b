use Rattle.std.proofs.Common.{◌∙◌, ◌==◌, not, ap, sym}
use Rattle.std.specs.List.{flat_map}
use Rattle.std.proofs.lemmas.List.{drop_all, drop_more}
use Rattle.jc_text.proofs.Sending.{none_sent, sends_equal}
use Rattle.jc_list.specs.FaultLines.{format_line}
use Rattle.jc_list.proofs.fronts.OneBehindAnother.{all_listed, begins_nothing, item_listed, lists_front}
use Rattle.jc_list.proofs.methods.FaultsByMethod.{some_in}
use Rattle.jc_list.proofs.faults.write_format_faults.Goals as goal

pub returns-in_err-faults-clause-lists : goal.returns-in_err-faults-clause-lists
returns-in_err-faults-clause-lists g c = lists_front c.from_residual.result c.from_residual.ensures.0 (begins_nothing _ _ _ _)

pub loop-fault-init : goal.loop-fault-init
loop-fault-init g c = none_sent _ _ _ _

pub loop-fault-preserved : goal.loop-fault-preserved
loop-fault-preserved g c = item_listed format_line c.loop-fault.invariant (drop_more c.deref-fault-items.result.now c.loop-fault.fault-index _ c.loop-fault-test.true) c.write_format_line.ensures

pub returns-clause-lists : goal.returns-clause-lists
returns-clause-lists g c =
    sends_equal (ap (flat_map format_line) (c.deref-fault-items.ensures.value ∙ c.in_ok-faults.ensures.listed))
    (all_listed format_line c.loop-fault.invariant (drop_all c.loop-fault.fault-index c.deref-fault-items.result.now c.loop-fault-test.false))

pub returns-clause-some : goal.returns-clause-some
returns-clause-some g c =
    ap not c.is_empty.ensures ∙ ap (λ n. not (n == 0)) (sym c.deref-fault-items.ensures.len)
    ∙ ap some_in (c.deref-fault-items.ensures.value ∙ c.in_ok-faults.ensures.listed)
