-- The rows that some held classes provide are those that any held classes provide.
use Rattle.std.proofs.Common.{sym, subst}
use Rattle.std.proofs.lemmas.List.Elements.{All-contains}
use Rattle.std.specs.Prelude.{List}
use Rattle.std.specs.List.{Contains}
use Rattle.jc_report.specs.ClassRows.{provided_rows}
use Rattle.jc_report.specs.Reports.{Class, GivesRow, name_of}
use Rattle.jc_report.specs.Rows.{AreRows, Row}
use Rattle.jc_linkage.specs.Linkages.{AreHeldClasses, IsHeldClass, Linkage}
use Rattle.jc_linkage.proofs.held.Rows.{class_of}

same_giver : (a : Linkage) (these those : List Class) → AreHeldClasses a these → AreHeldClasses a those → (row : Row) → GivesRow provided_rows these row → GivesRow provided_rows those row
same_giver a these those h k row g =
    let is = All-contains (IsHeldClass a) these g.class h.sound g.among in
    let c = class_of a those k (name_of g.class) g.class.facts g.class.part is.facts is.part in
    record { class = c.0; among = c.1; gives = subst (λ rs. Contains rs row) (λ i. provided_rows (sym c.3 i) (sym c.4 i)) g.gives }

pub rows_provided : (a : Linkage) (rows : List Row) (these those : List Class) → AreHeldClasses a these → AreHeldClasses a those → AreRows rows (GivesRow provided_rows these) → AreRows rows (GivesRow provided_rows those)
rows_provided a rows these those h k are = record {
  rises = are.rises;
  sound = λ row there. same_giver a these those h k row (are.sound row there);
  complete = λ row g. are.complete row (same_giver a those these k h row g);
}
