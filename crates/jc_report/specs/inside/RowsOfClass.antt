-- The order of rows of one class.
use Rattle.std.specs.declared.cmp.Ordering.{Ordering}
use Rattle.std.specs.Ordering.{nat_cmp, ordering_then}
use Rattle.jc_classes.specs.Names.{name_cmp}
use Rattle.jc_report.specs.Rows.{Row, kind_number}

-- by kind, then by name, then by descriptor
abbrev pub cmp_in_class : Row → Row → Ordering
cmp_in_class a b =
    ordering_then (nat_cmp (kind_number a.kind) (kind_number b.kind))
    (ordering_then (name_cmp a.key.name b.key.name) (name_cmp a.key.descriptor b.key.descriptor))
