use Rattle.std.proofs.Common.{refl, ap, sym, ◌∙◌, arith}
use Rattle.std.proofs.lemmas.List.{get_or_default}
use Rattle.jc_classes.specs.Lent.{key_lent}
use Rattle.jc_numbered.specs.inside.Shown.{indexed_of}
use Rattle.jc_numbered.specs.inside.Picks.{is_pick}
use Rattle.jc_resolve.proofs.superinterfaces.is_only.Goals as goal

pub returns : goal.returns
returns c = (
  λ e v h p.
      let same = get_or_default c.args.nodes.now h.0 0 v h.1 ∙ h.2 in
      sym same
      ∙ c.loop-node.invariant h.0 (omega (arith, h.1, c.loop-node-test.false)) (ap (is_pick (indexed_of c.args.classes.now) (key_lent c.args.key) c.args.covered.now.flags) same ∙ p),
  λ only. refl,
)
