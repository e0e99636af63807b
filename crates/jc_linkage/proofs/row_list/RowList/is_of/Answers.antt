use Rattle.std.proofs.Common.{List, subst}
use Rattle.jc_classes.specs.Facts.{Reference}
use Rattle.jc_report.specs.RequiredRows.{AreOf}
use Rattle.jc_linkage.proofs.row_list.RowList.is_of.Goals as goal

pub returns-in-Some : goal.returns-in-Some
returns-in-Some c = λ same.
    subst (AreOf c.args.references.now) c.self.view_is
    (subst (λ (r : List Reference). AreOf r c.self.inside.rows.items) (c.is_same.ensures same) (c.self.invariant.of c.in-Some.own c.in-Some.is))
