-- What a report says is provided and required: classes, fields and methods by name.
use Rattle.std.specs.Prelude.{ℕ, List}
use Rattle.std.specs.List.{Contains}
use Rattle.std.specs.List.Sorted.{IsStrictlySortedBy}
use Rattle.std.specs.declared.cmp.Ordering.{Ordering}
use Rattle.std.specs.Ordering.{nat_cmp, ordering_then}
use Rattle.jc_classes.specs.Facts.{Key}
use Rattle.jc_classes.specs.Names.{Name, name_cmp}
use Rattle.jc_classes.specs.declared.reference.ReferenceKind.{ReferenceKind}
use Rattle.jc_classes.specs.declared.reference.ReferenceKind.TheVariants as kinds

-- a class, whose key is empty, or a field or method: its class and, as its key, its name and descriptor
pub record Row : Type 0 where
  pub class : Name
  pub kind : ReferenceKind
  pub key : Key

-- the place of each kind in the order of rows
abbrev pub kind_number : ReferenceKind → ℕ
kind_number kinds.Class = 0
kind_number kinds.Field = 1
kind_number kinds.Method = 2
kind_number kinds.InterfaceMethod = 3

-- rows are ordered by class, then by kind, then by name, then by descriptor
abbrev pub row_cmp : Row → Row → Ordering
row_cmp a b =
    ordering_then (name_cmp a.class b.class)
    (ordering_then (nat_cmp (kind_number a.kind) (kind_number b.kind))
    (ordering_then (name_cmp a.key.name b.key.name) (name_cmp a.key.descriptor b.key.descriptor)))

-- the list has exactly the rows of which P holds, sorted, each once
pub record AreRows (rows : List Row) (P : Row → Type 0) : Type 0 where
  pub rises : IsStrictlySortedBy row_cmp rows
  pub sound : (row : Row) → Contains rows row → P row
  pub complete : (row : Row) → P row → Contains rows row
