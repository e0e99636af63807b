use Rattle.std.proofs.Common.{◌∙◌, ap, subst, sym}
use Rattle.std.specs.List.{flat_map}
use Rattle.jc_base.specs.Params.{params_left}
use Rattle.jc_classes.specs.ResolvedDescriptors.{class_in_type}
use Rattle.jc_classes.proofs.using.DescriptorClasses.{Leaves, all_left, less_left}
use Rattle.jc_classes.proofs.descriptor_classes.add_classes_in.Goals as goal

pub loop-param-init : goal.loop-param-init
loop-param-init c =
    let all = flat_map class_in_type c.in-Some.descriptor.params in
    subst (λ left. Leaves (flat_map class_in_type left) all c.args.found.now c.args.found.now)
    (sym (ap params_left c.into_iter-param-iterator.ensures.into_iter_gives ∙ c.params-param-items.ensures.items))
    (all_left all c.args.found.now)

pub loop-param-preserved : goal.loop-param-preserved
loop-param-preserved c =
    let all = flat_map class_in_type c.in-Some.descriptor.params in
    less_left (class_in_type c.in-Some-param.param.now) (flat_map class_in_type (params_left c.next.new.self)) all c.args.found.now c.loop-param.found c.add_class_in-in-loop-param.new.found
    (subst (λ left. Leaves (flat_map class_in_type left) all c.args.found.now c.loop-param.found) c.in-Some-param.ensures.steps c.loop-param.invariant)
    c.in_ok-add_class_in.ensures
