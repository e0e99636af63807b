use Rattle.std.proofs.Common.{◌∙◌, ◌++◌, ◌∷◌, [], ap, subst, sym}
use Rattle.jc_classes.specs.Numbers.{IsOnce}
use Rattle.jc_link.proofs.prefixes.Holding.{once_with_one}
use Rattle.jc_link.proofs.outside.Outside.plus.Goals as goal

pub invariant_of-result : goal.invariant_of-result
invariant_of-result c =
    let after = c.in_ok-push.ensures.ok ∙ ap (λ xs. xs ++ c.args.prefix.now ∷ []) c.in_ok-held.ensures.held in
    subst IsOnce (sym after) (once_with_one c.args.self.now c.args.prefix.now c.in_ok-held.ensures.once)
