use Rattle.std.proofs.Common.{◌&&◌, not, sym, ap, ◌∙◌}
use Rattle.jc_classes.specs.NameLists.{has}
use Rattle.jc_classes.specs.Names.{same_name}
use Rattle.jc_linkage.specs.inside.Kept.{held_in, linked, names_by}
use Rattle.jc_linkage.proofs.equations.LinkTests.{more_undone}
use Rattle.jc_linkage.proofs.fresh.FreshLists.{fresh_more}
use Rattle.jc_linkage.proofs.replacement.undo_fresh.Goals as goal

pub loop-one-preserved : goal.loop-one-preserved
loop-one-preserved c =
    let x = c.one-item.result in
    λ r n d.
    let h = same_name d x.name.items && has (names_by r x.kept) n in
    let k = held_in r c.args.kept.now d n in
    c.undo_one.ensures r n d
    ∙ ap (λ b. b && not (h && not k)) (c.loop-one.invariant r n d)
    ∙ more_undone (linked r c.args.dependants.now n d) _ h k
    ∙ ap (λ b. linked r c.args.dependants.now n d && not (b && not k)) (sym (fresh_more r c.args.fresh.now c.loop-one.one-index x d n c.loop-one-test.true c.one-item.is))
