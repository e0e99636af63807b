use Rattle.std.proofs.Common.{◌∙◌, ◌||◌, ap, sym}
use Rattle.std.specs.FinMap as map
use Rattle.jc_classes.specs.Names.{same_name}
use Rattle.jc_linkage.proofs.held.UsersFound.{in_set, there}
use Rattle.jc_linkage.proofs.prefixes.add.Goals as goal

pub returns-in_ok-insert : goal.returns-in_ok-insert
returns-in_ok-insert c = λ d.
    ap (λ m. map.contains_key m d) c.in_ok-insert.ensures.ok
    ∙ in_set c.args.found.now c.in_ok-name.name.items d
    ∙ ap (λ k. map.contains_key c.args.found.now d || same_name d k) c.in_ok-name.ensures.items

pub returns-else-not-contains_key : goal.returns-else-not-contains_key
returns-else-not-contains_key c = λ d. there c.args.found.now c.args.name.now d (sym c.if-not-contains_key.ensures)
