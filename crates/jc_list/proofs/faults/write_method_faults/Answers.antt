use Rattle.std.proofs.Common.{◌≡◌, ◌∙◌, ◌==◌, not, map, ap, sym}
use Rattle.std.specs.List.{flat_map}
use Rattle.std.proofs.lemmas.List.{drop_all, drop_more}
use Rattle.jc_text.proofs.Sending.{none_sent, sends_equal, sends_nothing}
use Rattle.jc_code.specs.CodeFaults.{code_of_member}
use Rattle.jc_list.specs.FaultLines.{code_fault_line}
use Rattle.jc_code.specs.MethodFaults.{method_faults}
use Rattle.jc_list.proofs.fronts.OneBehindAnother.{all_listed, begins_nothing, item_listed, lists_front}
use Rattle.jc_list.proofs.methods.FaultsByMethod.{all_of_method, lines_of_method, none_of_method, some_in}
use Rattle.jc_list.proofs.faults.write_method_faults.Goals as goal

pub returns-in_default-clause-lists : goal.returns-in_default-clause-lists
returns-in_default-clause-lists g c =
    let m = c.args.method.now.member.member in
    let same = c.method_code.ensures c.requires.holder ∙ ap (λ k. code_of_member k m) c.requires.class in
    sends_equal (ap (λ fs. flat_map code_fault_line (map (λ fault. (c.args.number, fault)) fs)) (none_of_method c.args.sizes.now m c.method_code.result same c.in_default.is)) (sends_nothing _ _ _)

pub returns-in_default-clause-some : goal.returns-in_default-clause-some
returns-in_default-clause-some g c =
    let m = c.args.method.now.member.member in
    let same = c.method_code.ensures c.requires.holder ∙ ap (λ k. code_of_member k m) c.requires.class in
    ap some_in (none_of_method c.args.sizes.now m c.method_code.result same c.in_default.is)

pub returns-in_err-faults-clause-lists : goal.returns-in_err-faults-clause-lists
returns-in_err-faults-clause-lists g c = lists_front c.from_residual.result c.from_residual.ensures.0 (begins_nothing _ _ _ _)

pub loop-fault-init : goal.loop-fault-init
loop-fault-init g c = none_sent _ _ _ _

pub loop-fault-preserved : goal.loop-fault-preserved
loop-fault-preserved g c = item_listed (λ fault. code_fault_line (c.args.number, fault)) c.loop-fault.invariant (drop_more c.deref-fault-items.result.now c.loop-fault.fault-index _ c.loop-fault-test.true) c.write_code_fault_line.ensures

pub returns-clause-lists : goal.returns-clause-lists
returns-clause-lists g c =
    let m = c.args.method.now.member.member in
    let items = c.deref-fault-items.result.now in
    let same = c.method_code.ensures c.requires.holder ∙ ap (λ k. code_of_member k m) c.requires.class in
    let found : items ≡ method_faults c.args.sizes.now m = c.deref-fault-items.ensures.value ∙ c.in_ok-faults.ensures.computed ∙ all_of_method c.args.sizes.now m c.method_code.result c.in-Some.code same c.in-Some.is in
    sends_equal (sym (lines_of_method c.args.number items) ∙ ap (λ fs. flat_map code_fault_line (map (λ fault. (c.args.number, fault)) fs)) found)
    (all_listed (λ fault. code_fault_line (c.args.number, fault)) c.loop-fault.invariant (drop_all c.loop-fault.fault-index items c.loop-fault-test.false))

pub returns-clause-some : goal.returns-clause-some
returns-clause-some g c =
    let m = c.args.method.now.member.member in
    let same = c.method_code.ensures c.requires.holder ∙ ap (λ k. code_of_member k m) c.requires.class in
    ap not c.is_empty.ensures ∙ ap (λ n. not (n == 0)) (sym c.deref-fault-items.ensures.len)
    ∙ ap some_in (c.deref-fault-items.ensures.value ∙ c.in_ok-faults.ensures.computed ∙ all_of_method c.args.sizes.now m c.method_code.result c.in-Some.code same c.in-Some.is)
