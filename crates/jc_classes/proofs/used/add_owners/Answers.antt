use Rattle.std.proofs.Common.{◌≡◌, ◌∙◌, ℕ, ◌+◌, ◌-◌, ◌<◌, ◌++◌, List, Option, None, ap, arith, if◌then◌else◌}
use Rattle.std.specs.List.{flat_map, range_with_len}
use Rattle.std.specs.Option.{option_to_list}
use Rattle.std.specs.Prelude.{option_and_then}
use Rattle.jc_view.specs.declared.constant_pool.ConstantIndex.{ConstantIndex}
use Rattle.jc_view.specs.ClassFile.{ClassFile, all_slots, constant_at}
use Rattle.jc_view.specs.Lookups.{class_index}
use Rattle.jc_classes.specs.UsedConstants.{is_among, named}
use Rattle.jc_classes.proofs.using.Adding.{next_in_range}
use Rattle.jc_classes.proofs.using.Marking.{mark_there}
use Rattle.jc_classes.proofs.used.add_owners.Goals as goal

abbrev owner_at : ClassFile → ℕ → Option ConstantIndex
owner_at class index = option_and_then class_index (constant_at class (record { 0 = index }))

abbrev owner_if : ClassFile → List ConstantIndex → ℕ → List ConstantIndex
owner_if class names index = option_to_list (if is_among names index then owner_at class index else None)

pub loop-index-preserved : goal.loop-index-preserved
loop-index-preserved c =
    let names = c.args.names.now.items in
    let class = c.args.class.now in
    let index = c.loop-index.index in
    let within : index < 1 + all_slots class.constants = omega (arith, c.loop-index-test.true, c.constant_count-index-end.ensures) in
    next_in_range (owner_if class (named class)) names c.loop-index.names.items _ index c.loop-index.auto.index
    (c.in_ok-push_some.ensures
    ∙ ap (λ o. c.loop-index.names.items ++ option_to_list o) (c.owner_if_marked.ensures ∙ ap (λ b. if b then owner_at class index else None) (mark_there class (named class) c.args.marks.now index c.requires within)))
    c.loop-index.invariant

pub returns : goal.returns
returns c =
    let names = c.args.names.now.items in
    let class = c.args.class.now in
    let n : c.loop-index.index - 1 ≡ all_slots class.constants = omega (arith, c.loop-index-test.false, c.loop-index.auto.index-end, c.constant_count-index-end.ensures) in
    c.loop-index.invariant ∙ ap (λ k. names ++ flat_map (owner_if class (named class)) (range_with_len 1 k)) n
