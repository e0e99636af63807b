use Rattle.std.proofs.Common.{◌≡◌, ◌++◌, take}
use Rattle.std.specs.List.{flat_map}
use Rattle.jc_classes.specs.inside.DescriptorClasses.{descriptor_of_member}
use Rattle.jc_classes.proofs.resolved_descriptors.add_of_members.Given as goal

abbrev pub invariant-loop-member : goal.invariant-loop-member
invariant-loop-member l = l.descriptors.items ≡ l.fn.descriptors.items ++ flat_map (descriptor_of_member l.class) (take l.member-index l.members)
