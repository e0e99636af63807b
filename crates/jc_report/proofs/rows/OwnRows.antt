-- Each row that a class provides has its name.
use Rattle.std.proofs.Common.{◌≡◌, true, false, List, ◌∷◌, map, inl, inr, sym, ap}
use Rattle.std.specs.Prelude.{if◌then◌else◌, Bool, []}
use Rattle.std.specs.List.{filter}
use Rattle.jc_base.proofs.Membership.{Has, has-cases, has-from_map}
use Rattle.jc_classes.specs.Facts.{Facts, Member}
use Rattle.jc_classes.specs.Parts.{Part}
use Rattle.jc_classes.specs.declared.reference.ReferenceKind.{ReferenceKind}
use Rattle.jc_classes.specs.declared.reference.ReferenceKind.TheVariants as kinds
use Rattle.jc_report.specs.ClassRows.{class_row, is_open, is_open_method, member_row, open_rows, provided_rows}
use Rattle.jc_report.specs.Rows.{Row}

of_member : (f : Facts) (kind : ReferenceKind) (members : List Member) (row : Row) → Has (map (member_row f.name kind) members) row → row.class ≡ f.name
of_member f kind members row h = sym (ap (λ (r : Row). r.class) (has-from_map (member_row f.name kind) members row h).2)

of_first : (f : Facts) (row : Row) → Has (class_row f.name ∷ map (member_row f.name kinds.Field) (filter is_open f.fields)) row → row.class ≡ f.name
of_first f row (inl e) = sym (ap (λ (r : Row). r.class) e)
of_first f row (inr h) = of_member f kinds.Field (filter is_open f.fields) row h

of_open : (f : Facts) (row : Row) → Has (open_rows f) row → row.class ≡ f.name
of_open f row h =
    elim (has-cases (class_row f.name ∷ map (member_row f.name kinds.Field) (filter is_open f.fields)) (map (member_row f.name kinds.Method) (filter is_open_method f.methods)) row h) [
      | inl first ↦ of_first f row first
      | inr rest ↦ of_member f kinds.Method (filter is_open_method f.methods) row rest
    ]

open_or_none : (b : Bool) (f : Facts) (row : Row) → Has (if b then open_rows f else []) row → row.class ≡ f.name
open_or_none true f row h = of_open f row h
open_or_none false f row h = absurd h

pub own_name : (f : Facts) (p : Part) (row : Row) → Has (provided_rows f p) row → row.class ≡ f.name
own_name f p row h = open_or_none _ f row h
