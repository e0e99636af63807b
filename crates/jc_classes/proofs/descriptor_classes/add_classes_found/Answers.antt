use Rattle.std.proofs.Common.{◌≡◌, ◌∙◌, ℕ, ◌-◌, ◌++◌, Bool, List, ap, arith, rules, sym}
use Rattle.std.specs.FinMap as map
use Rattle.std.specs.List.{flat_map, range_with_len}
use Rattle.std.specs.Option.{option_to_list}
use Rattle.std.proofs.lemmas.List.{append-nil}
use Rattle.jc_view.specs.declared.constant_pool.ConstantIndex.{ConstantIndex}
use Rattle.jc_view.specs.ClassFile.{ClassFile, all_slots}
use Rattle.jc_classes.specs.Names.{Name}
use Rattle.jc_classes.specs.UsedConstants.{class_that}
use Rattle.jc_classes.proofs.using.Adding.{next_in_range}
use Rattle.jc_classes.proofs.using.DescriptorClasses.{nothing_known}
use Rattle.jc_classes.proofs.descriptor_classes.add_classes_found.Goals as goal

abbrev class_if : (Name → Bool) → ClassFile → ℕ → List ConstantIndex
class_if test class index = option_to_list (class_that test class index)

pub loop-index-init : goal.loop-index-init
loop-index-init c = record {
  known = nothing_known (map.contains_key c.args.found.now) c.args.class.now c.in_ok-known.known.items c.constant_count.result (search rules);
  names = sym (append-nil c.args.names.now.items);
}

pub loop-index-preserved : goal.loop-index-preserved
loop-index-preserved c =
    let class = class_if (map.contains_key c.args.found.now) c.args.class.now in
    record {
      known = c.class_if_found.ensures.known;
      names = next_in_range class c.args.names.now.items c.loop-index.names.items _ c.loop-index.index c.loop-index.auto.index
          (c.in_ok-push_some.ensures ∙ ap (λ o. c.loop-index.names.items ++ option_to_list o) c.class_if_found.ensures.class) c.loop-index.invariant.names;
    }

pub returns : goal.returns
returns c =
    let class = class_if (map.contains_key c.args.found.now) c.args.class.now in
    let n : c.loop-index.index - 1 ≡ all_slots c.args.class.now.constants = omega (arith, c.loop-index-test.false, c.loop-index.auto.index-end, c.constant_count-index-end.ensures) in
    c.loop-index.invariant.names ∙ ap (λ k. c.args.names.now.items ++ flat_map class (range_with_len 1 k)) n
