use Rattle.std.proofs.Common.{◌∙◌, ◌≡◌, ◌||◌, ◌&&◌, ap, sym, refl}
use Rattle.jc_classes.specs.NameLists.{has}
use Rattle.jc_classes.specs.Names.{same_name}
use Rattle.jc_linkage.specs.declared.class_entry.NewEntry.{NewEntry}
use Rattle.jc_linkage.specs.inside.Kept.{fresh_has, held_in, linked, names_by}
use Rattle.jc_linkage.proofs.equations.LinkTests.{between_last}
use Rattle.jc_linkage.proofs.fresh.NewcomersReady.{newcomer_linked}
use Rattle.jc_linkage.proofs.new_parts.link_and_keep.Goals as goal

pub undo_links-requires-clause-between : goal.undo_links-requires-clause-between
undo_links-requires-clause-between c = λ r n d.
    let back = c.in-Err-keep.newcomer in
    let kept = c.keep.new.kept in
    let f = fresh_has r c.args.fresh.now d n in
    let x = same_name d c.deref-in-Err-keep.result.now && has (names_by r back.kept) n in
    let same : (same_name d c.deref.result.now && has (names_by r c.args.newcomer.kept) n) ≡ x =
    ap (λ name. same_name d name && has (names_by r c.args.newcomer.kept) n) c.deref.ensures.value
    ∙ ap (λ (k : NewEntry). same_name d k.name.items && has (names_by r k.kept) n) (sym c.in-Err-keep.ensures.back)
    ∙ ap (λ name. same_name d name && has (names_by r back.kept) n) (sym c.deref-in-Err-keep.ensures.value) in
    let mid = held_in r kept d n || f in
    between_last (linked r c.link_with.new.dependants n d) mid (held_in r kept d n) f f x
    (c.in-Ok.ensures.ok r n d ∙ ap (λ z. (held_in r z d n || f) || (same_name d c.deref.result.now && has (names_by r c.args.newcomer.kept) n)) (sym c.in-Err-keep.ensures.err) ∙ ap (λ b. mid || b) same)
    refl refl

pub returns-in-Ok-keep-clause-linked : goal.returns-in-Ok-keep-clause-linked
returns-in-Ok-keep-clause-linked c = λ r n d.
    let kept = c.args.kept.now in
    let name = c.args.newcomer.name.items in
    let newcomer = c.args.newcomer.kept in
    let f = fresh_has r c.args.fresh.now d n in
    c.in-Ok.ensures.ok r n d
    ∙ ap (λ name. (held_in r kept d n || f) || (same_name d name && has (names_by r newcomer) n)) c.deref.ensures.value
    ∙ newcomer_linked r kept name newcomer f d n c.requires.absent
    ∙ ap (λ z. held_in r z d n || f) (sym c.in-Ok-keep.ensures.ok)
