use Rattle.std.proofs.Common.{◌≡◌, ◌||◌, ◌&&◌, not, Some, sym, ap, ◌∙◌, subst}
use Rattle.std.proofs.lemmas.Result.{on_ok_weaker, on_err_weaker}
use Rattle.std.specs.FinMap as map
use Rattle.jc_classes.specs.NameLists.{has}
use Rattle.jc_classes.specs.Names.{Name, same_name}
use Rattle.jc_index.specs.Indexes.{Between}
use Rattle.jc_linkage.specs.inside.Kept.{Relation, linked, names_by}
use Rattle.jc_linkage.proofs.equations.LinkTests.{added_anyway, between_fewer, linked_anyway}
use Rattle.jc_linkage.proofs.held.KeptMaps.{held_at}
use Rattle.jc_linkage.proofs.replacement.link_one.Goals as goal

pub returns-in-Some-clause-ok : goal.returns-in-Some-clause-ok
returns-in-Some-clause-ok c =
    let kept = c.args.kept.now in
    let name = c.args.one.now.name.items in
    let now = c.in-Some.now.now in
    let at : Some now ≡ map.get kept c.deref.result.now = c.in-Some.ensures in
    let was : map.get kept name ≡ Some now = ap (map.get kept) (sym c.deref.ensures.value) ∙ sym at in
    let more : ((r : Relation) (n d : Name) → linked r c.link_but.new.self n d ≡ (linked r c.args.dependants.now n d || (same_name d c.deref-in-Some.result.now && (has (names_by r c.args.one.now.kept) n && not (has (names_by r now) n)))))
    → (r : Relation) (n d : Name) → linked r c.link_but.new.self n d ≡ (linked r c.args.dependants.now n d || (same_name d name && has (names_by r c.args.one.now.kept) n)) =
    λ ok r n d.
    let h = has (names_by r c.args.one.now.kept) n in
    ok r n d
    ∙ ap (λ z. linked r c.args.dependants.now n d || (same_name d z && (h && not (has (names_by r now) n)))) c.deref-in-Some.ensures.value
    ∙ linked_anyway (linked r c.args.dependants.now n d) (same_name d name) h _ (has (names_by r now) n) (held_at r kept name (Some now) d n was) (c.requires r n d) in
    on_ok_weaker c.link_but.result more c.link_but.ensures.ok

pub returns-in-Some-clause-err : goal.returns-in-Some-clause-err
returns-in-Some-clause-err c =
    let now = c.in-Some.now.now in
    let name = c.args.one.now.name.items in
    on_err_weaker {P = (r : Relation) (n d : Name) → Between (linked r c.args.dependants.now n d) (same_name d c.deref-in-Some.result.now && (has (names_by r c.args.one.now.kept) n && not (has (names_by r now) n))) (linked r c.link_but.new.self n d)}
    c.link_but.result
    (λ err r n d.
    let h = has (names_by r c.args.one.now.kept) n in
    let o = has (names_by r now) n in
    let l = linked r c.args.dependants.now n d in
    let new = linked r c.link_but.new.self n d in
    between_fewer l (same_name d name && (h && not o)) (same_name d name && h) new
    (added_anyway (same_name d name) h o)
    (subst (λ z. Between l (same_name d z && (h && not o)) new) c.deref-in-Some.ensures.value (err r n d)))
    c.link_but.ensures.err
