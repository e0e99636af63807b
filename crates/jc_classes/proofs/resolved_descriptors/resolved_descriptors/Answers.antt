use Rattle.std.proofs.Common.{◌∙◌, ◌++◌, ap}
use Rattle.std.specs.List.{flat_map}
use Rattle.jc_classes.specs.ResolvedDescriptors.{own_descriptor}
use Rattle.jc_classes.specs.UsedConstants.{by_named}
use Rattle.jc_classes.specs.inside.DescriptorClasses.{descriptor_of_member}
use Rattle.jc_classes.proofs.using.DescriptorClasses.{descriptors_whole}
use Rattle.jc_classes.proofs.resolved_descriptors.resolved_descriptors.Goals as goal

pub returns : goal.returns
returns c =
    let class = c.args.class.now in
    c.in_ok-add_of_members.ensures
    ∙ ap (λ v. v ++ flat_map (descriptor_of_member class) c.args.handles.now) (c.in_ok-add_own.ensures ∙ ap (λ v. v ++ by_named (own_descriptor class) class) c.new-descriptors.ensures.items)
    ∙ ap (λ v. by_named (own_descriptor class) class ++ flat_map (descriptor_of_member class) v) c.requires.handles
    ∙ descriptors_whole class
