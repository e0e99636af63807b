use Rattle.std.proofs.Common.{◌≡◌, ◌-◌, ◌++◌, None, if◌then◌else◌}
use Rattle.std.specs.List.{flat_map, range_with_len}
use Rattle.std.specs.Option.{option_to_list}
use Rattle.std.specs.Prelude.{option_and_then}
use Rattle.jc_view.specs.ClassFile.{constant_at}
use Rattle.jc_view.specs.Lookups.{class_index}
use Rattle.jc_classes.specs.UsedConstants.{is_among, named}
use Rattle.jc_classes.proofs.used.add_owners.Given as goal

abbrev pub invariant-loop-index : goal.invariant-loop-index
invariant-loop-index l = l.names.items
    ≡ l.fn.names.items
    ++ flat_map
    (λ index. option_to_list (if is_among (named l.class) index then option_and_then class_index (constant_at l.class (record { 0 = index })) else None))
    (range_with_len 1 (l.index - 1))
