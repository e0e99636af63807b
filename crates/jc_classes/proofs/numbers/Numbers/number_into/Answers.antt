use Rattle.std.proofs.Common.{◌∷◌, [], sym, subst}
use Rattle.jc_classes.specs.Numbers.{AddsNumbers}
use Rattle.jc_classes.proofs.numbering.NumberLemmas.{adds_one}
use Rattle.jc_classes.proofs.numbers.Numbers.number_into.Goals as goal

pub returns-clause-adds : goal.returns-clause-adds
returns-clause-adds c =
    let n = c.in_ok-node.ensures.node in
    subst (λ t. AddsNumbers c.args.self.now c.args.list.now.items c.number.new.self t (c.args.name.now ∷ [])) (sym c.in_ok-push.ensures.items)
    (adds_one c.args.self.now c.number.new.self c.args.list.now.items c.in_ok-node.node c.args.name.now c.in_ok-node.ensures.grows c.requires n.0 n.1)
