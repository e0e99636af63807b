use Rattle.std.proofs.Common.{◌≡◌, ℕ, false, subst, ◌∙◌, arith}
use Rattle.std.proofs.lemmas.List.{get_or_default}
use Rattle.jc_classes.specs.Lent.{key_lent}
use Rattle.jc_numbered.specs.inside.Shown.{indexed_of}
use Rattle.jc_numbered.specs.inside.Picks.{is_pick}
use Rattle.jc_resolve.proofs.superinterfaces.first_pick.Goals as goal

pub returns : goal.returns
returns c = λ v h.
    subst (λ (w : ℕ). is_pick (indexed_of c.args.classes.now) (key_lent c.args.key) c.args.covered.now.flags w ≡ false) (get_or_default c.args.nodes.now h.0 0 v h.1 ∙ h.2)
    (c.loop-node.invariant h.0 (omega (arith, h.1, c.loop-node-test.false)))
