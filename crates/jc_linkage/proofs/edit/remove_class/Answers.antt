use Rattle.std.proofs.Common.{◌∙◌, cond, false, None, ap, subst, sym}
use Rattle.std.specs.Cmp.Lexicographic.{nat_list_cmp_total}
use Rattle.std.specs.FinMap as map
use Rattle.std.specs.Option.{option_copied}
use Rattle.jc_classes.proofs.worlds.NameTests.{same_self}
use Rattle.jc_link.specs.Tables.{class_at}
use Rattle.jc_linkage.specs.inside.Users.{is_name}
use Rattle.jc_linkage.specs.inside.Stepping.{AreTaken, NoneVacant}
use Rattle.jc_linkage.proofs.steps.TablesStepped.{none_removed, removed_class, removed_taken}
use Rattle.jc_linkage.proofs.edit.remove_class.Goals as goal

pub returns-clause-classes : goal.returns-clause-classes
returns-clause-classes c = λ n.
    let t = c.args.table.now in
    let name = c.in-Some.name.now in
    ap (λ z. class_at z n) c.remove.ensures.removed ∙ removed_class t name n
    ∙ sym (none_removed t name n (c.requires name (ap (λ o. is_name (option_copied o) name) c.in-Some.is ∙ same_self name)))

pub returns-clause-kept : goal.returns-clause-kept
returns-clause-kept c = λ d.
    let kept = c.args.kept.now in
    let name = c.in-Some.name.now in
    ap (λ z. map.get z d) c.remove_entry.ensures.kept ∙ map.get-remove nat_list_cmp_total kept name d
    ∙ ap (λ o. cond (is_name (option_copied o) d) None (map.get kept d)) (sym c.in-Some.is)

pub returns-in_default-clause-taken : goal.returns-in_default-clause-taken
returns-in_default-clause-taken c = λ taken. subst (λ o. AreTaken (is_name (option_copied o)) c.args.table.now) c.in_default.is taken

pub returns-clause-taken : goal.returns-clause-taken
returns-clause-taken c = λ taken.
    let t = c.args.table.now in
    let there = subst (λ o. AreTaken (is_name (option_copied o)) t) c.in-Some.is taken in
    subst NoneVacant (sym c.remove.ensures.removed) (removed_taken (λ n. false) t c.in-Some.name.now there)
