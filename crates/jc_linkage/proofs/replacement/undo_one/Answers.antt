use Rattle.std.proofs.Common.{◌≡◌, ◌&&◌, not, Some, None, sym, ap, ◌∙◌}
use Rattle.std.specs.FinMap as map
use Rattle.jc_classes.specs.NameLists.{has}
use Rattle.jc_classes.specs.Names.{same_name}
use Rattle.jc_linkage.specs.inside.Kept.{linked, names_by}
use Rattle.jc_linkage.proofs.equations.LinkTests.{all_out, taken_out}
use Rattle.jc_linkage.proofs.held.KeptMaps.{held_at}
use Rattle.jc_linkage.proofs.replacement.undo_one.Goals as goal

pub returns-in-Some : goal.returns-in-Some
returns-in-Some c =
    let kept = c.args.kept.now in
    let name = c.args.one.now.name.items in
    let now = c.in-Some.now.now in
    let at : Some now ≡ map.get kept c.deref.result.now = c.in-Some.ensures in
    let was : map.get kept name ≡ Some now = ap (map.get kept) (sym c.deref.ensures.value) ∙ sym at in
    λ r n d.
    let h = has (names_by r c.args.one.now.kept) n in
    c.unlink_but.ensures r n d
    ∙ ap (λ z. linked r c.args.dependants.now n d && not (same_name d z && (h && not (has (names_by r now) n)))) c.deref-in-Some.ensures.value
    ∙ taken_out _ (same_name d name) h _ _ (held_at r kept name (Some now) d n was)

pub returns-in-None : goal.returns-in-None
returns-in-None c =
    let kept = c.args.kept.now in
    let name = c.args.one.now.name.items in
    let at : None ≡ map.get kept c.deref.result.now = c.in-None.ensures in
    let was : map.get kept name ≡ None = ap (map.get kept) (sym c.deref.ensures.value) ∙ sym at in
    λ r n d.
    let h = has (names_by r c.args.one.now.kept) n in
    c.unlink.ensures r n d
    ∙ ap (λ z. linked r c.args.dependants.now n d && not (same_name d z && h)) c.deref-in-None.ensures.value
    ∙ all_out _ (same_name d name) h _ (held_at r kept name None d n was)
