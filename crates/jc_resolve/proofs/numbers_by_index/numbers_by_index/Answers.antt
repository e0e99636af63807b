use Rattle.std.proofs.Common.{◌≡◌, ◌∙◌, ◌+◌, ◌-◌, ap, sym, subst, Some, option_map, arith}
use Rattle.std.specs.List.{slice_get}
use Rattle.jc_classes.specs.Lent.{reference_lent}
use Rattle.jc_resolve.specs.inside.Numbers.{AreNumbersBy, IsPut}
use Rattle.jc_resolve.proofs.answering.Lists.{past}
use Rattle.jc_resolve.proofs.linking.Tables.{none_numbered, one_numbered}
use Rattle.jc_resolve.proofs.numbers_by_index.numbers_by_index.Goals as goal

pub loop-number-init : goal.loop-number-init
loop-number-init c =
    let rs = c.args.facts.now.references in
    let number = c.reference_count-number.result in
    record {
      within = omega (arith, c.reference_count-number.ensures);
      from = none_numbered rs number c.new-numbers.result.items (omega (arith, c.reference_count-number.ensures)) c.new-numbers.ensures.items;
    }

pub loop-number-preserved-in-Continue-branch-2 : goal.loop-number-preserved-in-Continue-branch-2
loop-number-preserved-in-Continue-branch-2 c =
    let rs = c.args.facts.now.references in
    let next = c.loop-number.number in
    let number = next - 1 in
    let some = c.loop-number-test.true in
    let back : next ≡ number + 1 = omega (arith, some) in
    let r = reference_lent c.in-Some.reference in
    let got : slice_get rs number ≡ Some r = sym c.reference.ensures ∙ ap (option_map reference_lent) c.in-Some.is in
    let put = subst (λ n. IsPut r.index (Some n) c.loop-number.numbers.items c.put.new.numbers.items) c.in_ok-kept.ensures c.in_ok-put.ensures in
    record {
      within = omega (arith, c.loop-number.invariant.within);
      from = one_numbered rs number c.loop-number.numbers.items c.put.new.numbers.items r got (subst (λ n. AreNumbersBy rs n c.loop-number.numbers.items) back c.loop-number.invariant.from) put;
    }

pub loop-number-preserved : goal.loop-number-preserved
loop-number-preserved c =
    let past = past c.args.facts.now.references (c.loop-number.number - 1) (sym c.reference.ensures ∙ ap (option_map reference_lent) c.in_default.is) in
    absurd (omega (arith, past, c.loop-number-test.true, c.loop-number.invariant.within))
