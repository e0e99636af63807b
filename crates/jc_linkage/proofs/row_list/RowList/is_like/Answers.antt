use Rattle.std.proofs.Common.{subst}
use Rattle.jc_report.specs.RequiredRows.{AreOf}
use Rattle.jc_linkage.proofs.row_list.RowList.is_like.Goals as goal

pub returns-in-Some : goal.returns-in-Some
returns-in-Some c = λ like. record {
  references = c.in-Some.references;
  own = c.is_of.ensures like;
  other = subst (AreOf c.in-Some.references) c.other.view_is (c.other.invariant.of c.in-Some.references c.in-Some.is);
}
