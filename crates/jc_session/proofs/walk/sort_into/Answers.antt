use Rattle.std.proofs.Common.{◌∙◌, ◌||◌, ◌&&◌, ap, eqb, rules, sym, tests}
use Rattle.std.proofs.lemmas.Iterator.Consumers.{YieldsList-end}
use Rattle.std.proofs.lemmas.Iterator.Splits.{YieldsList-from_slice_split}
use Rattle.std.specs.FinMap as map
use Rattle.std.specs.List.{list_any}
use Rattle.std.specs.Slice.Iter.{split_callee, split_done, split_rest}
use Rattle.jc_base.specs.Bytes.{same_bytes}
use Rattle.jc_session.specs.inside.FolderNames.{is_entry_name}
use Rattle.jc_session.proofs.walking.FolderNames.{name_passed, name_taken}
use Rattle.jc_session.proofs.walk.sort_into.Goals as goal

pub loop-name-preserved-in_ok-insert : goal.loop-name-preserved-in_ok-insert
loop-name-preserved-in_ok-insert c n =
    ap (λ m. map.contains_key m n) (c.in_ok-insert.ensures.ok ∙ ap (λ k. map.insert c.loop-name.each k _) c.in_ok-from_slice.ensures.items)
    ∙ name_taken c.args.each.now c.loop-name.each n c.loop-name.yielded c.in-Some.name (c.loop-name.invariant n) _ (sym c.is_entry_name.ensures ∙ c.if-is_entry_name.true)

pub loop-name-preserved : goal.loop-name-preserved
loop-name-preserved c n = name_passed c.args.each.now c.loop-name.each n c.loop-name.yielded c.in-Some.name (c.loop-name.invariant n) (sym c.is_entry_name.ensures ∙ c.if-is_entry_name.false)

pub returns : goal.returns
returns c n =
    let made = c.split-name-items.ensures in
    let same = c.into_iter-name-iterator.ensures.into_iter_gives in
    let all = YieldsList-end (YieldsList-from_slice_split _ (λ b. eqb b 0) c.args.names.now (ap split_rest same ∙ made.rest) (ap split_done same ∙ made.done) (ap split_callee same ∙ made.closure) (λ x b q k. search (rules, tests)))
    c.loop-name.yielded _ c.loop-name.yielded_by _ _ c.in-None.is c.next.ensures.steps in
    c.loop-name.invariant n ∙ ap (λ l. map.contains_key c.args.each.now n || (is_entry_name n && list_any (same_bytes n) l)) all.0
