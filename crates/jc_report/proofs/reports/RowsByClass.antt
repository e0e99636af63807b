-- The rows of classes that rise by name, one class behind another.
use Rattle.std.proofs.Common.{◌≡◌, List, [], ap}
use Rattle.std.specs.declared.cmp.Ordering.TheVariants.{Less}
use Rattle.std.specs.Ordering.{nat_cmp, ordering_then}
use Rattle.std.specs.List.{Contains}
use Rattle.std.specs.List.Sorted.{IsStrictlySortedBy}
use Rattle.jc_base.proofs.Membership.{has_from}
use Rattle.jc_classes.specs.Facts.{Facts}
use Rattle.jc_classes.specs.Names.{name_cmp}
use Rattle.jc_classes.specs.Parts.{Part}
use Rattle.jc_report.specs.Reports.{Class, GivesRow, name_of}
use Rattle.jc_report.specs.Rows.{AreRows, Row, kind_number, row_cmp}

pub by_class : (a b : Row) → name_cmp a.class b.class ≡ Less → row_cmp a b ≡ Less
by_class a b e = ap (λ o. ordering_then o (ordering_then (nat_cmp (kind_number a.kind) (kind_number b.kind)) (ordering_then (name_cmp a.key.name b.key.name) (name_cmp a.key.descriptor b.key.descriptor)))) e

module _ (rows : Facts → Part → List Row) (own : (c : Class) (row : Row) → Contains (rows c.facts c.part) row → row.class ≡ name_of c) where
  pub no_classes : AreRows [] (GivesRow rows [])
  unfolding IsStrictlySortedBy
  no_classes = record { rises = tt; sound = λ row h. absurd (has_from [] row h); complete = λ row g. absurd (has_from [] g.class g.among) }
