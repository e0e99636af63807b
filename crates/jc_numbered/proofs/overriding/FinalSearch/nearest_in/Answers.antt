use Rattle.std.proofs.Common.{◌≡◌, Some, None, sym, ap, ◌∙◌, length}
use Rattle.std.specs.FinMap as map
use Rattle.std.specs.Prelude.{option_and_then, slice_get}
use Rattle.jc_numbered.specs.declared.overriding.Entry.{Entry}
use Rattle.jc_numbered.specs.inside.FinalSearches.{entries_in, last_of}
use Rattle.jc_numbered.proofs.lookups.FinalSearchLemmas.{drops_as, entries_found, entries_inserted, entries_missing, none_drops, others_inserted}
use Rattle.jc_numbered.proofs.overriding.FinalSearch.nearest_in.Goals as goal

pub returns-in_err-last-clause-others : goal.returns-in_err-last-clause-others
returns-in_err-last-clause-others c = others_inserted c.args.self.now.slots c.args.slot.now c.drop_left.new.entries

pub returns-in_err-last-clause-drops : goal.returns-in_err-last-clause-drops
returns-in_err-last-clause-drops c =
    let slots = c.args.self.now.slots in
    let name = c.args.slot.now in
    drops_as c.deref.ensures.value
    (sym (entries_found slots name c.in_ok-entries.entries.now (sym c.in_ok-entries.ensures.value)))
    (sym (entries_inserted slots name c.drop_left.new.entries)) c.drop_left.ensures

pub returns-in_err-last-clause-nearest : goal.returns-in_err-last-clause-nearest
returns-in_err-last-clause-nearest c =
    let slots = c.args.self.now.slots in
    let name = c.args.slot.now in
    c.from_residual-in_err-last.ensures
    ∙ ap (option_and_then (λ (e : Entry). e.nearest))
    (c.in_err-last.ensures.value ∙ ap last_of (c.deref-2.ensures.value ∙ sym (entries_inserted slots name c.drop_left.new.entries)))

pub returns-clause-others : goal.returns-clause-others
returns-clause-others c = others_inserted c.args.self.now.slots c.args.slot.now c.drop_left.new.entries

pub returns-clause-drops : goal.returns-clause-drops
returns-clause-drops c =
    let slots = c.args.self.now.slots in
    let name = c.args.slot.now in
    drops_as c.deref.ensures.value
    (sym (entries_found slots name c.in_ok-entries.entries.now (sym c.in_ok-entries.ensures.value)))
    (sym (entries_inserted slots name c.drop_left.new.entries)) c.drop_left.ensures

pub returns-clause-nearest : goal.returns-clause-nearest
returns-clause-nearest c =
    let slots = c.args.self.now.slots in
    let name = c.args.slot.now in
    ap (option_and_then (λ (e : Entry). e.nearest))
    (c.in_ok-last.ensures.value ∙ ap last_of (c.deref-2.ensures.value ∙ sym (entries_inserted slots name c.drop_left.new.entries)))
