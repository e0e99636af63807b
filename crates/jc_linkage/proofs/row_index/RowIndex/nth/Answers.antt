use Rattle.std.proofs.Common.{◌∙◌, List, Option, ap, slice_get, sym}
use Rattle.std.proofs.lemmas.Iterator.Consumers.{nth_from_yields_List, YieldsList-from_first}
use Rattle.std.specs.Borrow.{Bor}
use Rattle.std.specs.FinMap as fin
use Rattle.std.specs.Option.{option_map}
use Rattle.jc_classes.specs.Names.{Name}
use Rattle.jc_index.specs.Indexes.{UserLists}
use Rattle.jc_report.specs.declared.required_row.RequiredRow.{RequiredRow}
use Rattle.jc_linkage.specs.inside.RowMaps.{entry_lent}
use Rattle.jc_linkage.proofs.row_index.RowIndex.nth.Goals as goal

-- the users of an entry that is lent
abbrev listed : Option (Bor RequiredRow × Bor (List Name)) → Option (List Name)
listed entry = option_map (λ (e : Name × List Name). e.1) (option_map entry_lent entry)

pub returns-in-Some : goal.returns-in-Some
returns-in-Some c =
    let entry = c.nth.result in
    let there = nth_from_yields_List entry c.nth.new.self c.args.place c.nth.ensures.ran (YieldsList-from_first entry_lent (λ left. left) _ c.iter.ensures) in
    ap listed (sym c.in-Some.is) ∙ ap (option_map (λ (e : Name × List Name). e.1)) there ∙ ap (λ (lists : UserLists). option_map (λ (e : Name × List Name). e.1) (slice_get (fin.entries lists) c.args.place)) c.self.view_is

pub returns-in-None : goal.returns-in-None
returns-in-None c =
    let entry = c.nth.result in
    let there = nth_from_yields_List entry c.nth.new.self c.args.place c.nth.ensures.ran (YieldsList-from_first entry_lent (λ left. left) _ c.iter.ensures) in
    ap listed (sym c.in-None.is) ∙ ap (option_map (λ (e : Name × List Name). e.1)) there ∙ ap (λ (lists : UserLists). option_map (λ (e : Name × List Name). e.1) (slice_get (fin.entries lists) c.args.place)) c.self.view_is
