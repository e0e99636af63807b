use Rattle.std.proofs.Common.{◌≡◌, ◌∙◌, Some, IfSome, ap, slice_get, subst}
use Rattle.std.proofs.lemmas.Iterator.Consumers.{nth_from_yields_List, YieldsList-from_first}
use Rattle.std.specs.FinMap as fin
use Rattle.std.specs.Map.Iter.{deref_pair}
use Rattle.jc_index.specs.Indexes.{UserLists}
use Rattle.jc_index.proofs.indexes.Entries.{entry_list, entry_name}
use Rattle.jc_index.proofs.index.Index.nth.Goals as goal

pub returns-clause-name : goal.returns-clause-name
returns-clause-name c =
    let place = c.args.place in
    let entry = c.nth.result in
    let there = nth_from_yields_List entry c.nth.new.self place c.nth.ensures.ran (YieldsList-from_first deref_pair (λ left. left) _ c.iter.ensures.entries) in
    entry_name c.self.inside.lists place entry there ∙ ap (λ (lists : UserLists). slice_get (fin.keys lists) place) c.self.view_is

pub returns-clause-list : goal.returns-clause-list
returns-clause-list c =
    let place = c.args.place in
    let entry = c.nth.result in
    let there = nth_from_yields_List entry c.nth.new.self place c.nth.ensures.ran (YieldsList-from_first deref_pair (λ left. left) _ c.iter.ensures.entries) in
    subst (λ (lists : UserLists). IfSome entry (λ e. fin.get lists e.0.now ≡ Some e.1.now)) c.self.view_is
    (entry_list c.self.inside.lists place entry there)
