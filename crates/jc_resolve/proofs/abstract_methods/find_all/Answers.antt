use Rattle.std.proofs.Common.{◌∙◌, ◌+◌, length, sym, ap, subst}
use Rattle.jc_classes.specs.Lent.{stands_of}
use Rattle.jc_classes.specs.Worlds.{methods_of}
use Rattle.jc_numbered.specs.inside.Shown.{indexed_of}
use Rattle.jc_numbered.proofs.lookups.FinalSearchLemmas.{no_methods}
use Rattle.jc_resolve.specs.inside.AbstractMethods.{AddsAbstracts, AreAbstract}
use Rattle.jc_resolve.proofs.lookups.AbstractLemmas.{all_none, all_on}
use Rattle.jc_resolve.proofs.abstract_methods.find_all.Goals.{in-Class+in_ok-push_all, in_default}
use Rattle.jc_resolve.proofs.abstract_methods.find_all.Goals as goal

pub loop-node-preserved : goal.loop-node-preserved
loop-node-preserved c =
    let x = indexed_of c.args.classes.now in
    let n = c.loop-node.node in
    let old = c.loop-node.all.items in
    elim c.match-at.branch [
      | in-Class+in_ok-push_all w ↦
          let new = w.push_all.new.all.items in
          let methods = ap (λ z. methods_of (stands_of z)) (sym w.in-Class.is) ∙ ap methods_of c.at.ensures in
          subst (AreAbstract (n + 1) x) (ap (λ z. z.items) (sym w.all-is))
          (all_on x n old new c.loop-node.invariant (subst (λ ms. AddsAbstracts x n (length ms) old new) methods w.in_ok-push_all.ensures))
      | in_default w ↦
          subst (AreAbstract (n + 1) x) (ap (λ z. z.items) (sym w.all-is))
          (all_none x n old c.loop-node.invariant (ap methods_of (sym c.at.ensures) ∙ no_methods c.at.result w.in_default.not-Class))
    ]
