use Rattle.std.proofs.Common.{◌&&◌, not, List, sym, ap, subst, ◌∙◌}
use Rattle.std.specs.List.Sorted.{IsStrictlySortedBy}
use Rattle.jc_classes.specs.NameLists.{has}
use Rattle.jc_classes.specs.Names.{Name, name_cmp, names_of, same_name}
use Rattle.jc_index.specs.inside.Places.{StandsAt}
use Rattle.jc_index.proofs.lists.Edited.{names-removed, rises_removed, has_removed, has_without, gap_lacks}
use Rattle.jc_index.proofs.name_list.NameList.remove.Goals as goal

pub invariant_of-self : goal.invariant_of-self
invariant_of-self c =
    let old = c.self.inside.names.items in
    let name = c.args.name.now in
    let at = c.in-Ok.at in
    subst (IsStrictlySortedBy name_cmp) (sym (ap names_of c.remove.ensures.items ∙ names-removed old at))
    (rises_removed (names_of old) name at c.self.invariant (subst (λ (ns : List Name). StandsAt ns name at) (sym c.self.view_is) c.in-Ok.ensures.found))

pub returns-in-Ok : goal.returns-in-Ok
returns-in-Ok c = λ n.
    let old = c.self.inside.names.items in
    let name = c.args.name.now in
    let at = c.in-Ok.at in
    ap (λ l. has (names_of l) n) c.remove.ensures.items
    ∙ ap (λ l. has l n) (names-removed old at)
    ∙ has_removed (names_of old) name at n c.self.invariant (subst (λ (ns : List Name). StandsAt ns name at) (sym c.self.view_is) c.in-Ok.ensures.found)
    ∙ ap (λ l. has l n && not (same_name n name)) c.self.view_is

pub returns-in_default : goal.returns-in_default
returns-in_default c = λ n. has_without c.args.self.now c.args.name.now n (gap_lacks c.args.self.now c.args.name.now c.in_default.field-0 c.in_default.ensures.absent)
