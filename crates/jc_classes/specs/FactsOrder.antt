-- The order of a class's references, and of the uses of references by its instructions.
use Rattle.std.specs.Prelude.{List, map}
use Rattle.std.specs.List.Sorted.{IsStrictlySortedBy}
use Rattle.std.specs.Ordering.{nat_cmp, ordering_then}
use Rattle.std.specs.declared.cmp.Ordering.{Ordering}
use Rattle.jc_code.specs.declared.method_use.MethodUse.{MethodUse}
use Rattle.jc_classes.specs.Facts.{Reference}

-- in ascending order of index, each index once
abbrev pub AreByIndex : List Reference → Type 0
AreByIndex references = IsStrictlySortedBy nat_cmp (map (λ r. r.index) references)

abbrev pub use_cmp : MethodUse → MethodUse → Ordering
use_cmp a b = ordering_then (nat_cmp a.method b.method) (nat_cmp a.place b.place)

-- by method, then by offset, each instruction once
abbrev pub AreByPlace : List MethodUse → Type 0
AreByPlace uses = IsStrictlySortedBy use_cmp uses
