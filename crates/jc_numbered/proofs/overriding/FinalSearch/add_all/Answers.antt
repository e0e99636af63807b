use Rattle.std.proofs.Common.{◌≡◌, ◌∙◌, ◌<◌, ◌≤◌, ◌+◌, ℕ, None, Some, length, refl, sym, ap, subst, ⊎_elim, arith}
use Rattle.std.specs.Prelude.{slice_get}
use Rattle.std.proofs.lemmas.Bool.{cases_lt}
use Rattle.jc_classes.specs.Facts.{Key}
use Rattle.jc_classes.specs.Lent.{key_lent, member_lent}
use Rattle.jc_classes.specs.MemberOrder.{key_at}
use Rattle.jc_classes.specs.MethodLookup.{only_inheritable}
use Rattle.jc_classes.specs.Worlds.{member}
use Rattle.jc_numbered.specs.declared.overriding.FinalSearch.{FinalSearch}
use Rattle.jc_numbered.specs.inside.FinalSearches.{HasMethod, IsSearch}
use Rattle.jc_numbered.specs.inside.Shown.{indexed_of}
use Rattle.jc_numbered.proofs.lookups.FinalSearchLemmas.{key_of_place, method_place, method_stays, place_there}
use Rattle.jc_numbered.proofs.overriding.FinalSearch.add_all.Goals.{in-Some+in_ok-add, in_default}
use Rattle.jc_numbered.proofs.overriding.FinalSearch.add_all.Goals as goal

pub loop-number-preserved : goal.loop-number-preserved
loop-number-preserved c =
    let x = indexed_of c.args.classes.now in
    let count = length c.args.classes.now.standing.now in
    let v = c.args.node in
    let place = length c.args.self.now.chain.items in
    let ms = c.args.facts.now.methods in
    let n = c.loop-number.number in
    let old = c.loop-number.self in
    let finals = c.args.self.now.finals in
    let is = c.loop-number.invariant in
    elim c.match-own_method.branch [
      | in-Some+in_ok-add w ↦
          let new = w.add.new.self in
          let l = key_lent w.key_of.result in
          let there : slice_get ms n ≡ Some (member_lent w.in-Some.method) = sym w.in-Some.ensures in
          let key : key_at ms n ≡ l = key_of_place ms n (member_lent w.in-Some.method) there ∙ sym w.key_of.ensures in
          let own : HasMethod x finals new.slots v place l = subst (λ z. HasMethod x z new.slots v place l) is.finals
          (subst (λ z. HasMethod x old.finals new.slots v z l) (ap length is.chain) w.in_ok-add.ensures.method) in
          record {
            search = subst (IsSearch count x) (sym w.self-is) w.in_ok-add.ensures.search;
            chain = ap (λ (z : FinalSearch). z.chain.items) w.self-is ∙ w.in_ok-add.ensures.chain ∙ is.chain;
            finals = ap (λ (z : FinalSearch). z.finals) w.self-is ∙ w.in_ok-add.ensures.finals ∙ is.finals;
            methods = λ i h. subst (λ (z : FinalSearch). HasMethod x finals z.slots v place (key_at ms i)) (sym w.self-is)
                (⊎_elim
                (λ lower. method_stays x finals old.slots new.slots v place (key_at ms i) l w.in_ok-add.ensures.others own (is.methods i lower))
                (λ last. subst (HasMethod x finals new.slots v place) (sym (ap (key_at ms) (let q = h in omega arith) ∙ key)) own)
                (cases_lt i n));
          }
      | in_default w ↦ absurd (place_there ms n (sym w.in_default.ensures)
          (let q = c.loop-number-test.true in let r = c.method_count-number-end.ensures in omega arith))
    ]

pub returns-clause-methods : goal.returns-clause-methods
returns-clause-methods c = λ k among y d.
    let x = indexed_of c.args.classes.now in
    let place = length c.args.self.now.chain.items in
    let ms = c.args.facts.now.methods in
    let p = method_place ms k y (ap (λ l. only_inheritable (member l k)) (sym c.requires.facts) ∙ d) in
    subst (HasMethod x c.args.self.now.finals c.loop-number.self.slots c.args.node place) p.2 (c.loop-number.invariant.methods p.0
    (let l = p.1 in let q = c.loop-number-test.false in let r = c.method_count-number-end.ensures in omega arith)) among y d
