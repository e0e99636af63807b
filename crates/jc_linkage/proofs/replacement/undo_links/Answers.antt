use Rattle.std.proofs.Common.{◌&&◌, not, None, ap, ◌∙◌}
use Rattle.jc_classes.specs.NameLists.{has}
use Rattle.jc_classes.specs.Names.{same_name}
use Rattle.jc_linkage.specs.inside.Kept.{fresh_has, held_in, names_by}
use Rattle.jc_linkage.proofs.equations.LinkTests.{undone_all}
use Rattle.jc_linkage.proofs.held.KeptMaps.{held_at}
use Rattle.jc_linkage.proofs.replacement.undo_links.Goals as goal

pub returns : goal.returns
returns c = λ r n d.
    let kept = c.args.kept.now in
    let name = c.args.name.now in
    let k = held_in r kept d n in
    let f = fresh_has r c.args.fresh.now d n in
    c.undo_fresh.ensures r n d
    ∙ ap (λ b. b && not (f && not k)) (c.unlink.ensures r n d)
    ∙ undone_all k f (same_name d name) (has (names_by r c.args.newcomer.now) n) _ (held_at r kept name None d n c.requires.absent) (c.requires.between r n d)
