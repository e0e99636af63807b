use Rattle.std.proofs.Common.{◌≡◌, ◌∙◌, ℕ, ◌-◌, ◌++◌, ap, arith}
use Rattle.std.specs.List.{flat_map, range_with_len}
use Rattle.std.specs.Option.{option_to_list}
use Rattle.std.specs.Prelude.{option_and_then}
use Rattle.jc_view.specs.ClassFile.{all_slots, constant_at}
use Rattle.jc_classes.specs.UsedConstants.{named_by_handle}
use Rattle.jc_classes.proofs.using.Adding.{next_in_range}
use Rattle.jc_classes.proofs.used.add_by_handles.Goals as goal

pub loop-index-preserved : goal.loop-index-preserved
loop-index-preserved c =
    next_in_range (λ (index : ℕ). option_to_list (option_and_then named_by_handle (constant_at c.args.class.now (record { 0 = index })))) c.args.names.now.items c.loop-index.names.items _ c.loop-index.index c.loop-index.auto.index
    (c.in_ok-push_some.ensures ∙ ap (λ o. c.loop-index.names.items ++ option_to_list o) c.named_by_handle.ensures) c.loop-index.invariant

pub returns : goal.returns
returns c =
    let n : c.loop-index.index - 1 ≡ all_slots c.args.class.now.constants = omega (arith, c.loop-index-test.false, c.loop-index.auto.index-end, c.constant_count-index-end.ensures) in
    c.loop-index.invariant
    ∙ ap (λ k. c.args.names.now.items ++ flat_map (λ (index : ℕ). option_to_list (option_and_then named_by_handle (constant_at c.args.class.now (record { 0 = index })))) (range_with_len 1 k)) n
