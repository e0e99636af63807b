use Rattle.std.proofs.Common.{◌||◌, List, sym, ap, subst, ◌∙◌}
use Rattle.std.specs.List.Sorted.{IsStrictlySortedBy}
use Rattle.jc_classes.specs.NameLists.{has}
use Rattle.jc_classes.specs.Names.{Name, name_cmp, names_of, same_name}
use Rattle.jc_index.specs.inside.Places.{IsGapFor}
use Rattle.jc_index.proofs.lists.Edited.{names-inserted, rises_inserted, has_inserted}
use Rattle.jc_index.proofs.name_list.NameList.add.Goals as goal

pub invariant_of-self-in-Err : goal.invariant_of-self-in-Err
invariant_of-self-in-Err c =
    let old = c.self.inside.names.items in
    let name = c.args.name in
    let at = c.in-Err.at in
    let gap : IsGapFor (names_of old) name.items at = subst (λ (ns : List Name). IsGapFor ns name.items at) (sym c.self.view_is) (subst (λ (n : Name). IsGapFor c.args.self.now n at) c.deref.ensures.value c.in-Err.ensures.absent) in
    subst (IsStrictlySortedBy name_cmp) (sym (ap names_of c.in_ok-insert-in-Err.ensures.items ∙ names-inserted old at name))
    (rises_inserted (names_of old) name.items at c.self.invariant gap)

pub returns-in_ok-insert-in-Err-clause-ok : goal.returns-in_ok-insert-in-Err-clause-ok
returns-in_ok-insert-in-Err-clause-ok c = λ n.
    let old = c.self.inside.names.items in
    let name = c.args.name in
    let at = c.in-Err.at in
    ap (λ l. has (names_of l) n) c.in_ok-insert-in-Err.ensures.items
    ∙ ap (λ l. has l n) (names-inserted old at name)
    ∙ has_inserted (names_of old) name.items at n
    ∙ ap (λ l. has l n || same_name n name.items) c.self.view_is
