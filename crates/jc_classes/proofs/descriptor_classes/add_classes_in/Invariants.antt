use Rattle.std.specs.List.{flat_map}
use Rattle.jc_base.specs.Params.{params_left}
use Rattle.jc_classes.specs.ResolvedDescriptors.{class_in_type}
use Rattle.jc_classes.proofs.using.DescriptorClasses.{Leaves}
use Rattle.jc_classes.proofs.descriptor_classes.add_classes_in.Given as goal

-- with the classes of the parameters that are left
abbrev pub invariant-loop-param : goal.invariant-loop-param
invariant-loop-param l = Leaves (flat_map class_in_type (params_left l.param-iterator)) (flat_map class_in_type l.descriptor.params) l.fn.found l.found
