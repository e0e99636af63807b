use Rattle.std.proofs.Common.{◌≡◌}
use Rattle.std.specs.List.{list_all}
use Rattle.jc_view.specs.ClassFile.{constant_at}
use Rattle.jc_view.specs.Lookups.{passes}
use Rattle.jc_file.specs.FormatRules.{is_argument}
use Rattle.jc_file.proofs.bootstraps.are_arguments.Given as goal

-- all do, if those that are left do
abbrev pub invariant-loop-index : goal.invariant-loop-index
invariant-loop-index l =
    list_all (λ index. passes is_argument (constant_at l.class index)) l.index-iterator ≡ list_all (λ index. passes is_argument (constant_at l.class index)) l.fn.indexes
