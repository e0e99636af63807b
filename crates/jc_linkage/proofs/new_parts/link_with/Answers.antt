use Rattle.std.proofs.Common.{◌∙◌, ◌||◌, ◌&&◌, ap, refl}
use Rattle.jc_classes.specs.NameLists.{has}
use Rattle.jc_classes.specs.Names.{same_name}
use Rattle.jc_linkage.specs.inside.Kept.{fresh_has, held_in, linked, names_by}
use Rattle.jc_linkage.proofs.equations.LinkTests.{between_first, between_next}
use Rattle.jc_linkage.proofs.new_parts.link_with.Goals as goal

-- links that were perhaps made

pub undo_links-requires-clause-between : goal.undo_links-requires-clause-between
undo_links-requires-clause-between c = λ r n d.
    let x = same_name d c.args.name.now && has (names_by r c.args.newcomer.now) n in
    let f = fresh_has r c.args.fresh.now d n in
    between_first (linked r c.args.dependants.now n d) (held_in r c.args.kept.now d n) f f x (linked r c.link_fresh.new.dependants n d) (c.requires.linked r n d) refl (c.in-Err.ensures.err r n d)

pub undo_links-requires-in-Err-link-clause-between : goal.undo_links-requires-in-Err-link-clause-between
undo_links-requires-in-Err-link-clause-between c = λ r n d.
    let x = same_name d c.args.name.now && has (names_by r c.args.newcomer.now) n in
    let f = fresh_has r c.args.fresh.now d n in
    between_next (linked r c.link_fresh.new.dependants n d) (held_in r c.args.kept.now d n) f f x (linked r c.link.new.self n d)
    (c.in-Ok.ensures.ok r n d ∙ ap (λ b. b || f) (c.requires.linked r n d)) refl (c.in-Err-link.ensures.err r n d)

pub returns-in-Ok-link-clause-ok : goal.returns-in-Ok-link-clause-ok
returns-in-Ok-link-clause-ok c = λ r n d.
    let x = same_name d c.args.name.now && has (names_by r c.args.newcomer.now) n in
    let f = fresh_has r c.args.fresh.now d n in
    c.in-Ok-link.ensures.ok r n d ∙ ap (λ b. b || x) (c.in-Ok.ensures.ok r n d ∙ ap (λ b. b || f) (c.requires.linked r n d))
