use Rattle.std.proofs.Common.{◌≡◌, ◌∙◌, ◌∷◌, ap, refl, subst, ◌+◌, sym}
use Rattle.std.specs.List.{flat_map}
use Rattle.std.specs.Iterator.Adapters.{enumerate_source, enumerate_count}
use Rattle.jc_view.specs.declared.attribute_kind.Holder.TheVariants as holders
use Rattle.jc_view.specs.Places.{methods_in, methods_place}
use Rattle.jc_file.proofs.kinds.PlacedMembers.{AreOf, are_of_all, members_of, members_of_all}
use Rattle.jc_text.proofs.Sending.{all_sent, part_sent}
use Rattle.jc_list.specs.FaultLines.{code_fault_line}
use Rattle.jc_code.specs.MethodFaults.{code_faults, code_faults_from}
use Rattle.jc_list.proofs.fronts.OneBehindAnother.{lists_front, none_listed, part_begins}
use Rattle.jc_list.proofs.methods.FaultsByMethod.{last_some, next_lines, next_some, some_in}
use Rattle.jc_list.proofs.faults.write_faults_by_method.Goals as goal

pub loop-number-init : goal.loop-number-init
unfolding code_faults
loop-number-init g c =
    let class = c.args.sizes.now in
    let it = c.into_iter-number-iterator.result in
    let all : enumerate_source it ≡ record { class = class; left = methods_in class } = cc in
    let first : enumerate_count it ≡ 0 = cc in
    let faults : code_faults_from class (enumerate_count it) (members_of (enumerate_source it).left) ≡ code_faults class =
    ap (λ n. code_faults_from class n (members_of (enumerate_source it).left)) first ∙ ap (λ i. code_faults_from class 0 (members_of i.left)) all
    ∙ ap (code_faults_from class 0) (members_of_all holders.Method (methods_place class + 2) class.methods) in
    record {
      class = ap (λ i. i.class) all;
      holders = subst (λ i. AreOf holders.Method i.left) (sym all) (are_of_all holders.Method (methods_place class + 2) class.methods);
      sent = none_listed _ _ _ code_fault_line faults;
      some = ap some_in faults;
    }

pub loop-number-preserved : goal.loop-number-preserved
loop-number-preserved g c =
    let steps = c.in-Some.ensures.steps in
    let class = c.args.sizes.now in
    let m = c.in-Some.method.member in
    let old = c.loop-number.number-iterator in
    let new = c.next.new.self in
    let holders : AreOf holders.Method (m ∷ new.iter.left) = subst (AreOf holders.Method) steps.0.1.0 c.loop-number.invariant.holders in
    record {
      class = steps.0.0 ∙ c.loop-number.invariant.class;
      holders = holders.1;
      sent = part_sent c.loop-number.invariant.sent (next_lines class old.count c.in-Some.number new.count old.iter.left new.iter.left m steps.0.1.0 steps.1 steps.2) c.in_ok-some.ensures.lists;
      some = next_some class old.count c.in-Some.number new.count old.iter.left new.iter.left m c.loop-number.some c.in_ok-some.field-0 _ _ steps.0.1.0 steps.1 steps.2 c.in_ok-some.ensures.some refl c.loop-number.invariant.some;
    }

pub returns-in_err-some-clause-lists : goal.returns-in_err-some-clause-lists
returns-in_err-some-clause-lists g c =
    let steps = c.in-Some.ensures.steps in
    let class = c.args.sizes.now in
    let m = c.in-Some.method.member in
    let old = c.loop-number.number-iterator in
    let new = c.next.new.self in
    lists_front c.from_residual.result c.from_residual.ensures.0
    (part_begins _ (flat_map code_fault_line (code_faults_from class new.count (members_of new.iter.left))) c.loop-number.invariant.sent (next_lines class old.count c.in-Some.number new.count old.iter.left new.iter.left m steps.0.1.0 steps.1 steps.2) c.in_err-some.ensures.lists)

pub returns-clause-lists : goal.returns-clause-lists
returns-clause-lists g c =
    let it = c.loop-number.number-iterator in
    all_sent c.loop-number.invariant.sent (ap (λ ms. flat_map code_fault_line (code_faults_from c.args.sizes.now it.count (members_of ms))) c.in-None.ensures.steps.0.1.0)

pub returns-clause-some : goal.returns-clause-some
returns-clause-some g c =
    let it = c.loop-number.number-iterator in
    last_some c.args.sizes.now it.count it.iter.left c.loop-number.some _ c.in-None.ensures.steps.0.1.0 c.loop-number.invariant.some
