use Rattle.std.proofs.Common.{◌∙◌, ◌++◌, ap}
use Rattle.std.specs.List.{flat_map}
use Rattle.jc_view.specs.Attributes.{bootstrap_attributes}
use Rattle.jc_view.specs.ClassFile.{Attribute}
use Rattle.jc_classes.specs.UsedConstants.{named_by_table}
use Rattle.jc_classes.proofs.using.Adding.{named_marks}
use Rattle.jc_classes.proofs.used.mark_named.Goals as goal

pub returns : goal.returns
returns c =
    let class = c.args.class.now in
    let tables = flat_map (λ (a : Attribute). named_by_table a.bytes) (bootstrap_attributes class) in
    named_marks class c.args.handles.now c.deref.result.now c.args.marks.now.items c.mark_all.new.marks.items _ c.requires.marks c.requires.handles
    (c.deref.ensures.value ∙ c.in_ok-add_by_bootstraps.ensures ∙ ap (λ v. v ++ tables) c.new-names.ensures.items)
    c.mark_all.ensures c.mark_all-2.ensures
