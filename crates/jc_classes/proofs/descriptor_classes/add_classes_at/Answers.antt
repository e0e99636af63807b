use Rattle.std.proofs.Common.{[], ap, subst}
use Rattle.std.specs.Option.{option_map_or}
use Rattle.std.specs.Prelude.{OnOk}
use Rattle.jc_classes.specs.ResolvedDescriptors.{classes_in}
use Rattle.jc_classes.specs.inside.DescriptorClasses.{Adds}
use Rattle.jc_classes.proofs.using.DescriptorClasses.{none_added}
use Rattle.jc_classes.proofs.descriptor_classes.add_classes_at.Goals as goal

pub returns-in-Some : goal.returns-in-Some
returns-in-Some c =
    subst (λ names. OnOk c.add_classes_in.result (Adds names c.args.found.now c.add_classes_in.new.found))
    (ap (λ o. option_map_or classes_in o []) c.in-Some.ensures)
    c.add_classes_in.ensures

pub returns-in-None : goal.returns-in-None
returns-in-None c =
    subst (λ names. Adds names c.args.found.now c.args.found.now) (ap (λ o. option_map_or classes_in o []) c.in-None.ensures) (none_added c.args.found.now)
