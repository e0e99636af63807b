use Rattle.std.proofs.Common.{[], ◌∙◌, ap, subst, sym, if◌then◌else◌}
use Rattle.std.specs.Prelude.{OnOk}
use Rattle.jc_classes.specs.ResolvedDescriptors.{classes_at}
use Rattle.jc_classes.specs.inside.DescriptorClasses.{Adds}
use Rattle.jc_classes.proofs.using.DescriptorClasses.{none_added}
use Rattle.jc_classes.proofs.descriptor_classes.add_if_marked.Goals as goal

pub returns-then-is_marked : goal.returns-then-is_marked
returns-then-is_marked c =
    let classes = classes_at c.args.class.now (record { 0 = c.args.index }) in
    subst (λ names. OnOk c.add_classes_at.result (Adds names c.args.found.now c.add_classes_at.new.found))
    (ap (λ b. if b then classes else []) (sym c.if-is_marked.true ∙ c.is_marked.ensures))
    c.add_classes_at.ensures

pub returns-else-is_marked : goal.returns-else-is_marked
returns-else-is_marked c =
    let classes = classes_at c.args.class.now (record { 0 = c.args.index }) in
    subst (λ names. Adds names c.args.found.now c.args.found.now)
    (ap (λ b. if b then classes else []) (sym c.if-is_marked.false ∙ c.is_marked.ensures))
    (none_added c.args.found.now)
