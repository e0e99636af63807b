use Rattle.std.proofs.Common.{◌∙◌, ap, sym}
use Rattle.std.specs.FinMap as map
use Rattle.jc_classes.proofs.using.DescriptorClasses.{one_added, one_there}
use Rattle.jc_classes.proofs.descriptor_classes.add.Goals as goal

pub returns-in_ok-insert : goal.returns-in_ok-insert
returns-in_ok-insert c =
    one_added c.args.found.now c.insert.new.self c.args.name.now
    (c.in_ok-insert.ensures.ok ∙ ap (λ k. map.insert c.args.found.now k tt) c.in_ok-name.ensures.items)

pub returns-else-not-contains_key : goal.returns-else-not-contains_key
returns-else-not-contains_key c = one_there c.args.found.now c.args.name.now (sym c.if-not-contains_key.ensures)
