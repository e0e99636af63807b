use Rattle.std.proofs.Common.{◌≡◌, ◌-◌, ◌++◌}
use Rattle.std.specs.FinMap as map
use Rattle.std.specs.List.{flat_map, range_with_len}
use Rattle.std.specs.Option.{option_to_list}
use Rattle.jc_classes.specs.UsedConstants.{class_that}
use Rattle.jc_classes.specs.inside.DescriptorClasses.{AreKnown}
use Rattle.jc_classes.proofs.descriptor_classes.add_classes_found.Given as goal

abbrev pub invariant-loop-index : goal.invariant-loop-index
invariant-loop-index l = record {
  known : AreKnown (map.contains_key l.found) l.class l.known.items;
  names : l.names.items ≡ l.fn.names.items ++ flat_map (λ index. option_to_list (class_that (map.contains_key l.found) l.class index)) (range_with_len 1 (l.index - 1));
}
