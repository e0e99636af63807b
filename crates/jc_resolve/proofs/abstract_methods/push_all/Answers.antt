use Rattle.std.proofs.Common.{◌≡◌, ◌∙◌, ◌+◌, sym, ap, subst, arith}
use Rattle.std.specs.Prelude.{slice_get, Some}
use Rattle.jc_classes.specs.Lent.{key_lent, member_lent}
use Rattle.jc_classes.specs.MemberOrder.{key_at}
use Rattle.jc_classes.specs.Worlds.{methods_of}
use Rattle.jc_numbered.specs.inside.Shown.{indexed_of}
use Rattle.jc_numbered.proofs.lookups.FinalSearchLemmas.{key_of_place, place_there}
use Rattle.jc_resolve.specs.inside.AbstractMethods.{AddsAbstracts}
use Rattle.jc_resolve.proofs.lookups.AbstractLemmas.{abstracts_begin, abstracts_on}
use Rattle.jc_resolve.proofs.abstract_methods.push_all.Goals.{in-Some+in_ok-push_one, in_default}
use Rattle.jc_resolve.proofs.abstract_methods.push_all.Goals as goal

pub loop-number-init : goal.loop-number-init
loop-number-init c = abstracts_begin (indexed_of c.args.classes.now) c.args.node c.args.all.now.items

pub loop-number-preserved : goal.loop-number-preserved
loop-number-preserved c =
    let x = indexed_of c.args.classes.now in
    let v = c.args.node in
    let ms = c.args.facts.now.methods in
    let n = c.loop-number.number in
    let first = c.args.all.now.items in
    elim c.match-own_method.branch [
      | in-Some+in_ok-push_one w ↦
          let k = key_lent w.key_of.result in
          let there : slice_get ms n ≡ Some (member_lent w.in-Some.method) = sym w.in-Some.ensures in
          let key : key_at ms n ≡ k = key_of_place ms n (member_lent w.in-Some.method) there ∙ sym w.key_of.ensures in
          subst (AddsAbstracts x v (n + 1) first) (ap (λ z. z.items) (sym w.all-is))
          (abstracts_on x v n first c.loop-number.all.items w.push_one.new.all.items k c.loop-number.invariant w.in_ok-push_one.ensures
          (ap (λ r. key_at (methods_of r) n) c.requires.facts ∙ key))
      | in_default w ↦ absurd (place_there ms n (sym w.in_default.ensures)
          (let q = c.loop-number-test.true in let r = c.method_count-number-end.ensures in omega arith))
    ]
