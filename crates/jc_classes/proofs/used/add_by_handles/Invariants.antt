use Rattle.std.proofs.Common.{◌≡◌, ◌-◌, ◌++◌}
use Rattle.std.specs.List.{flat_map, range_with_len}
use Rattle.std.specs.Option.{option_to_list}
use Rattle.std.specs.Prelude.{option_and_then}
use Rattle.jc_view.specs.ClassFile.{constant_at}
use Rattle.jc_classes.specs.UsedConstants.{named_by_handle}
use Rattle.jc_classes.proofs.used.add_by_handles.Given as goal

abbrev pub invariant-loop-index : goal.invariant-loop-index
invariant-loop-index l = l.names.items
    ≡ l.fn.names.items ++ flat_map (λ index. option_to_list (option_and_then named_by_handle (constant_at l.class (record { 0 = index })))) (range_with_len 1 (l.index - 1))
