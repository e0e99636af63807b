use Rattle.std.proofs.Common.{◌∙◌, ap, subst}
use Rattle.std.specs.Option.{option_to_list}
use Rattle.std.specs.Prelude.{OnOk}
use Rattle.jc_classes.specs.NamedTexts.{class_in_descriptor}
use Rattle.jc_classes.specs.inside.DescriptorClasses.{Adds}
use Rattle.jc_classes.proofs.using.DescriptorClasses.{none_added}
use Rattle.jc_classes.proofs.descriptor_classes.add_class_in.Goals as goal

pub returns-in-Some : goal.returns-in-Some
returns-in-Some c =
    subst (λ names. OnOk c.add.result (Adds names c.args.found.now c.add.new.found))
    (ap option_to_list (c.in-Some.ensures ∙ ap class_in_descriptor c.without_dimensions.ensures))
    c.add.ensures

pub returns-in-None : goal.returns-in-None
returns-in-None c =
    subst (λ names. Adds names c.args.found.now c.args.found.now)
    (ap option_to_list (c.in-None.ensures ∙ ap class_in_descriptor c.without_dimensions.ensures))
    (none_added c.args.found.now)
