use Rattle.std.proofs.Common.{◌+◌, ◌||◌, ◌&&◌, take, sym, ap, ◌∙◌}
use Rattle.jc_classes.specs.NameLists.{has}
use Rattle.jc_classes.specs.Names.{Name, same_name}
use Rattle.jc_index.specs.Indexes.{Between}
use Rattle.jc_index.proofs.indexes.Lists.{on_err_any}
use Rattle.jc_linkage.specs.inside.Kept.{Relation, fresh_has, linked, names_by}
use Rattle.jc_linkage.proofs.equations.Booleans.{or_assoc, or_left, or_right}
use Rattle.jc_linkage.proofs.equations.LinkTests.{between_then}
use Rattle.jc_linkage.proofs.fresh.FreshLists.{fresh_more, fresh_take}
use Rattle.jc_linkage.proofs.replacement.link_fresh.Goals as goal

pub link_one-requires : goal.link_one-requires
link_one-requires c = λ r n d h. c.loop-one.invariant r n d ∙ or_left _ _ (c.requires r n d ∙ h)

pub loop-one-preserved : goal.loop-one-preserved
loop-one-preserved c =
    let x = c.one-item.result in
    λ r n d.
    let old = linked r c.args.dependants.now n d in
    let h = has (names_by r x.kept) n in
    c.in_ok-link_one.ensures.ok r n d
    ∙ ap (λ b. b || (same_name d x.name.items && h)) (c.loop-one.invariant r n d)
    ∙ or_assoc old _ (same_name d x.name.items && h)
    ∙ ap (λ b. old || b) (sym (fresh_more r c.args.fresh.now c.loop-one.one-index x d n c.loop-one-test.true c.one-item.is))

pub returns-in_err-link_one-clause-err : goal.returns-in_err-link_one-clause-err
returns-in_err-link_one-clause-err c =
    let x = c.one-item.result in
    let xs = c.args.fresh.now in
    let i = c.loop-one.one-index in
    let some : (r : Relation) (n d : Name) → Between (linked r c.args.dependants.now n d) (fresh_has r xs d n) (linked r c.link_one.new.dependants n d) =
    λ r n d. between_then (linked r c.args.dependants.now n d) (fresh_has r (take i xs) d n) (same_name d x.name.items && has (names_by r x.kept) n) _ _ _
    (c.loop-one.invariant r n d)
    (fresh_take r xs i d n)
    (λ e. fresh_take r xs (i + 1) d n
    (fresh_more r xs i x d n c.loop-one-test.true c.one-item.is
    ∙ or_right (fresh_has r (take i xs) d n) _ e))
    (c.in_err-link_one.ensures.err r n d) in
    on_err_any c.from_residual.result some
