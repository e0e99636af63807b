use Rattle.std.proofs.Common.{◌≡◌, ◌∙◌, Some, List, slice_get, sym, ap, subst, arith}
use Rattle.std.proofs.lemmas.Option.{gets, get_or_from_slice_get, slice_get_within}
use Rattle.std.proofs.lemmas.List.Elements.{All-contains}
use Rattle.std.specs.List.Sorted.{IsStrictlySortedBy}
use Rattle.jc_classes.specs.NameLists.{has}
use Rattle.jc_classes.specs.Names.{name_cmp}
use Rattle.jc_report.specs.RequiredRows.{AreOf, spelled, spelled_all}
use Rattle.jc_report.specs.declared.required_row.RequiredRow.{RequiredRow}
use Rattle.jc_linkage.proofs.required_rows.RowLists.{near_has, searched}
use Rattle.jc_linkage.proofs.row_list.RowList.find_near.Goals as goal

pub is_same-requires : goal.is_same-requires
is_same-requires c = λ like.
    let rows = c.self.inside.rows.items in
    let near = c.in-Some.near.now in
    let refs = c.args.row.now.references in
    let at : slice_get rows c.args.place ≡ Some near = grind (arith, gets, c.in-Some.ensures.lookup, c.deref.ensures.value) in
    All-contains (λ (row : RequiredRow). row.references ≡ refs) rows near (subst (AreOf refs) (sym c.self.view_is) (c.requires like))
    (c.args.place, slice_get_within rows c.args.place near at, get_or_from_slice_get rows c.args.place near near at)

pub returns-in-Some : goal.returns-in-Some
returns-in-Some c =
    let rows = c.self.inside.rows.items in
    let near = c.in-Some.near.now in
    let key = spelled c.args.row.now in
    let at : slice_get rows c.args.place ≡ Some near = grind (arith, gets, c.in-Some.ensures.lookup, c.deref.ensures.value) in
    sym (near_has rows c.args.place near key at (c.is_same.ensures c.if-is_same.true))
    ∙ ap (λ (xs : List RequiredRow). has (spelled_all xs) key) c.self.view_is

pub returns-in_default : goal.returns-in_default
returns-in_default c =
    let rows = c.deref-in_default.result.now in
    let key = spelled c.args.row.now in
    let rises = subst (λ (xs : List RequiredRow). IsStrictlySortedBy name_cmp (spelled_all xs)) (sym c.deref-in_default.ensures.value) c.self.invariant.rises in
    searched rows key c.binary_search.result c.binary_search.ensures.bound c.binary_search.ensures.position rises
    ∙ ap (λ (xs : List RequiredRow). has (spelled_all xs) key) (c.deref-in_default.ensures.value ∙ c.self.view_is)
