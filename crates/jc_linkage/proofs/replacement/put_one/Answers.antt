use Rattle.std.proofs.Common.{◌≡◌, ◌&&◌, not, Some, sym, ap, ◌∙◌}
use Rattle.std.specs.FinMap as map
use Rattle.jc_classes.specs.NameLists.{has}
use Rattle.jc_classes.specs.Names.{same_name}
use Rattle.jc_linkage.specs.inside.Kept.{held_in, linked, names_by}
use Rattle.jc_linkage.proofs.equations.LinkTests.{changed_out}
use Rattle.jc_linkage.proofs.held.KeptMaps.{held_at}
use Rattle.jc_linkage.proofs.replacement.put_one.Goals as goal

pub returns-clause-linked : goal.returns-clause-linked
returns-clause-linked c =
    let kept = c.args.kept.now in
    let name = c.args.one.name.items in
    let new = c.args.one.kept in
    let old = c.in-Some.place.now in
    let was : map.get kept name ≡ Some old = ap (map.get kept) (sym c.deref.ensures.value) ∙ sym c.in-Some.ensures.value in
    λ r n d.
    let o = has (names_by r old) n in
    c.unlink_but.ensures r n d
    ∙ ap (λ z. linked r c.args.dependants.now n d && not (same_name d z && (o && not (has (names_by r new) n)))) c.deref-2.ensures.value
    ∙ changed_out _ (same_name d name) (held_in r kept d n) o _ (held_at r kept name (Some old) d n was)
