use Rattle.std.proofs.Common.{◌≡◌, ◌∙◌, ℕ, ◌+◌, ◌-◌, ◌<◌, ◌++◌, List, Option, None, ap, arith, if◌then◌else◌}
use Rattle.std.specs.List.{flat_map, range_with_len}
use Rattle.std.specs.Option.{option_to_list}
use Rattle.std.specs.Prelude.{option_and_then}
use Rattle.jc_view.specs.declared.constant_pool.ConstantIndex.{ConstantIndex}
use Rattle.jc_view.specs.ClassFile.{ClassFile, all_slots, constant_at}
use Rattle.jc_classes.specs.ResolvedDescriptors.{own_descriptor}
use Rattle.jc_classes.specs.UsedConstants.{is_among, named}
use Rattle.jc_classes.proofs.using.Adding.{next_in_range}
use Rattle.jc_classes.proofs.using.Marking.{mark_there}
use Rattle.jc_classes.proofs.resolved_descriptors.add_own.Goals as goal

abbrev own_at : ClassFile → ℕ → Option ConstantIndex
own_at class index = option_and_then (own_descriptor class) (constant_at class (record { 0 = index }))

abbrev own_if : ClassFile → ℕ → List ConstantIndex
own_if class index = option_to_list (if is_among (named class) index then own_at class index else None)

pub loop-index-preserved : goal.loop-index-preserved
loop-index-preserved c =
    let class = c.args.class.now in
    let index = c.loop-index.index in
    let within : index < 1 + all_slots class.constants = omega (arith, c.loop-index-test.true, c.constant_count-index-end.ensures) in
    next_in_range (own_if class) c.args.descriptors.now.items c.loop-index.descriptors.items _ index c.loop-index.auto.index
    (c.in_ok-push_some.ensures
    ∙ ap (λ o. c.loop-index.descriptors.items ++ option_to_list o) (c.own_if_marked.ensures ∙ ap (λ b. if b then own_at class index else None) (mark_there class (named class) c.args.marks.now index c.requires within)))
    c.loop-index.invariant

pub returns : goal.returns
returns c =
    let class = c.args.class.now in
    let n : c.loop-index.index - 1 ≡ all_slots class.constants = omega (arith, c.loop-index-test.false, c.loop-index.auto.index-end, c.constant_count-index-end.ensures) in
    c.loop-index.invariant ∙ ap (λ k. c.args.descriptors.now.items ++ flat_map (own_if class) (range_with_len 1 k)) n
