use Rattle.std.proofs.Common.{◌∙◌, ◌++◌, ap}
use Rattle.jc_classes.specs.UsedConstants.{classes_that, is_resolved, named}
use Rattle.jc_classes.specs.inside.Using.{owners}
use Rattle.jc_classes.proofs.using.Adding.{used_marks}
use Rattle.jc_classes.proofs.used.used.Goals as goal

pub returns : goal.returns
returns c =
    let class = c.args.class.now in
    let owned = owners class (named class) in
    let resolved = classes_that (is_resolved class) class in
    used_marks class c.deref-5.result.now c.mark_named.new.marks.items _ c.in_ok-mark_named.ensures
    (c.deref-5.ensures.value ∙ c.in_ok-add_resolved_classes.ensures ∙ ap (λ v. v ++ resolved) (c.in_ok-add_owners.ensures ∙ ap (λ v. v ++ owned) c.new-classes.ensures.items))
    c.mark_all.ensures
