use Rattle.std.proofs.Common.{◌≡◌, ◌&&◌}
use Rattle.std.specs.FinMap as map
use Rattle.std.specs.List.{list_any, range_with_len}
use Rattle.jc_classes.specs.NameLists.{has}
use Rattle.jc_classes.specs.Names.{Name}
use Rattle.jc_classes.specs.ResolvedDescriptors.{classes_at}
use Rattle.jc_classes.specs.UsedConstants.{is_among}
use Rattle.jc_classes.proofs.descriptor_classes.classes_in_all.Given as goal

abbrev pub invariant-loop-index : goal.invariant-loop-index
invariant-loop-index l = (n : Name) → map.contains_key l.found n
    ≡ list_any (λ i. is_among l.descriptors i && has (classes_at l.class (record { 0 = i })) n) (range_with_len 0 l.index)
