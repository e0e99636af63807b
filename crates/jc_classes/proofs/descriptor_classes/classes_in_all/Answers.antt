use Rattle.std.proofs.Common.{◌≡◌, ◌∙◌, ℕ, ◌+◌, ◌<◌, ◌||◌, ◌&&◌, Bool, List, [], ap, arith, sym, if◌then◌else◌}
use Rattle.std.specs.FinMap as map
use Rattle.std.specs.List.{list_any, range_with_len}
use Rattle.jc_view.specs.declared.constant_pool.ConstantIndex.{ConstantIndex}
use Rattle.jc_view.specs.ClassFile.{ClassFile, all_slots}
use Rattle.jc_view.specs.Lookups.{utf8_at}
use Rattle.jc_classes.specs.NameLists.{has}
use Rattle.jc_classes.specs.Names.{Name}
use Rattle.jc_classes.specs.ResolvedDescriptors.{classes_at}
use Rattle.jc_classes.specs.UsedConstants.{is_among}
use Rattle.jc_classes.proofs.using.DescriptorClasses.{any_marked, any_more, if_marked, no_name, no_text_past, none_without_text}
use Rattle.jc_classes.proofs.using.Marking.{mark_there}
use Rattle.jc_classes.proofs.descriptor_classes.classes_in_all.Goals as goal

abbrev found_at : ClassFile → List ConstantIndex → Name → ℕ → Bool
found_at class descriptors n i = is_among descriptors i && has (classes_at class (record { 0 = i })) n

pub loop-index-init : goal.loop-index-init
loop-index-init c = λ n. ap (λ m. map.contains_key m n) c.new-found.ensures ∙ no_name n

pub loop-index-preserved : goal.loop-index-preserved
loop-index-preserved c =
    let class = c.args.class.now in
    let descriptors = c.args.descriptors.now in
    let index = c.loop-index.index in
    let classes = classes_at class (record { 0 = index }) in
    let within : index < 1 + all_slots class.constants = omega (arith, c.loop-index-test.true, c.constant_count-index-end.ensures) in
    λ n.
    let so_far = list_any (found_at class descriptors n) (range_with_len 0 index) in
    c.in_ok-add_if_marked.ensures.each n
    ∙ ap (λ b. map.contains_key c.loop-index.found n || has (if b then classes else []) n) (mark_there class descriptors c.deref.result.now index (c.deref.ensures.value ∙ c.in_ok-marks.ensures) within)
    ∙ ap (λ b. b || has (if is_among descriptors index then classes else []) n) (c.loop-index.invariant n)
    ∙ ap (λ b. so_far || b) (if_marked (is_among descriptors index) classes n)
    ∙ sym (any_more (found_at class descriptors n) index)

pub returns : goal.returns
returns c =
    let class = c.args.class.now in
    let descriptors = c.args.descriptors.now in
    let end : c.loop-index.index ≡ 1 + all_slots class.constants = omega (arith, c.loop-index-test.false, c.loop-index.auto.index-end, c.constant_count-index-end.ensures) in
    λ n.
    c.loop-index.invariant n
    ∙ ap (λ k. list_any (found_at class descriptors n) (range_with_len 0 k)) end
    ∙ any_marked (1 + all_slots class.constants) (λ d. has (classes_at class d) n) descriptors (λ d past. none_without_text (utf8_at class d) n (no_text_past class d past))
