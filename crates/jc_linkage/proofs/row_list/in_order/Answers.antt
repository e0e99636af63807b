use Rattle.std.proofs.Common.{◌≡◌, refl, sym, subst}
use Rattle.std.proofs.lemmas.List.Filters.{All-dedup, dedup_is}
use Rattle.std.proofs.lemmas.List.Sorted.{All-permutation}
use Rattle.std.specs.Ordering.{eq_by_cmp, on}
use Rattle.jc_base.specs.Bytes.{bytes_cmp}
use Rattle.jc_index.proofs.lists.Ordered.{ordered_has, ordered_rises}
use Rattle.jc_report.specs.RequiredRows.{AreOf, spelled}
use Rattle.jc_report.specs.declared.required_row.RequiredRow.{RequiredRow}
use Rattle.jc_linkage.proofs.required_rows.RowLists.{tied}
use Rattle.jc_linkage.proofs.row_list.in_order.Goals as goal

pub returns-clause-same : goal.returns-clause-same
returns-clause-same c = ordered_has spelled (eq_by_cmp (on spelled bytes_cmp)) tied c.args.rows.items c.sort_unstable.new.self.items c.dedup.new.self.items
    c.sort_unstable.ensures.permutation c.dedup.ensures.filtered

pub returns-clause-rises : goal.returns-clause-rises
returns-clause-rises c = ordered_rises spelled (eq_by_cmp (on spelled bytes_cmp)) (λ a b. refl) c.sort_unstable.new.self.items c.dedup.new.self.items
    c.sort_unstable.ensures.sorted c.dedup.ensures.filtered

pub returns-clause-of : goal.returns-clause-of
returns-clause-of c = λ references of.
    let sorted = c.sort_unstable.new.self.items in
    let ties = eq_by_cmp (on spelled bytes_cmp) in
    subst (AreOf references) (sym (dedup_is ties sorted c.dedup.new.self.items c.dedup.ensures.filtered))
    (All-dedup ties (λ (row : RequiredRow). row.references ≡ references) sorted
    (All-permutation (λ (row : RequiredRow). row.references ≡ references) c.args.rows.items sorted c.sort_unstable.ensures.permutation of))
