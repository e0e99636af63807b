use Rattle.std.proofs.Common.{◌≡◌}
use Rattle.std.specs.List.{list_all}
use Rattle.jc_view.specs.declared.constant_pool.ConstantKind.TheVariants as kinds
use Rattle.jc_view.specs.Lookups.{is_entry}
use Rattle.jc_file.proofs.method_attributes.are_classes.Given as goal

-- all are classes if those that are left are
abbrev pub invariant-loop-index : goal.invariant-loop-index
invariant-loop-index l = list_all (is_entry l.class kinds.Class) l.index-iterator ≡ list_all (is_entry l.class kinds.Class) l.fn.indexes
