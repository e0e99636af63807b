use Rattle.std.proofs.Common.{◌∙◌, ◌+◌, length, sym, ap, subst}
use Rattle.jc_classes.specs.Lent.{stands_of}
use Rattle.jc_classes.specs.Worlds.{methods_of}
use Rattle.jc_numbered.specs.inside.FinalSearches.{AddsFinals, AreFinals}
use Rattle.jc_numbered.specs.inside.Shown.{indexed_of}
use Rattle.jc_numbered.proofs.lookups.FinalSearchLemmas.{finals_none, finals_on, no_methods}
use Rattle.jc_numbered.proofs.overriding.find_finals.Goals.{in-Class+in_ok-add_finals, in_default}
use Rattle.jc_numbered.proofs.overriding.find_finals.Goals as goal

pub loop-node-preserved : goal.loop-node-preserved
loop-node-preserved c =
    let x = indexed_of c.args.classes.now in
    let n = c.loop-node.node in
    let old = c.loop-node.finals in
    elim c.match-at.branch [
      | in-Class+in_ok-add_finals w ↦
          let new = w.add_finals.new.finals in
          let methods = ap (λ z. methods_of (stands_of z)) (sym w.in-Class.is) ∙ ap methods_of c.at.ensures in
          subst (AreFinals (n + 1) x) (sym w.finals-is)
          (finals_on x n old new c.loop-node.invariant (subst (λ ms. AddsFinals ms (length ms) old new) methods w.in_ok-add_finals.ensures))
      | in_default w ↦
          subst (AreFinals (n + 1) x) (sym w.finals-is)
          (finals_none x n old c.loop-node.invariant (ap methods_of (sym c.at.ensures) ∙ no_methods c.at.result w.in_default.not-Class))
    ]
