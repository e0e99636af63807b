use Rattle.std.proofs.Common.{◌∷◌, ◌++◌, [], sym, ap, subst, ◌∙◌}
use Rattle.std.specs.List.Sorted.{IsStrictlySortedBy}
use Rattle.jc_classes.specs.Names.{name_cmp, names_of}
use Rattle.jc_index.proofs.lists.Rising.{rises_one}
use Rattle.jc_index.proofs.name_list.NameList.one.Goals as goal

pub invariant_of-result : goal.invariant_of-result
invariant_of-result c =
    let name = c.args.name in
    subst (IsStrictlySortedBy name_cmp) (sym (ap names_of (c.in_ok-push.ensures.items ∙ ap (λ l. l ++ name ∷ []) c.in_ok-names.ensures.items))) (rises_one name.items)
