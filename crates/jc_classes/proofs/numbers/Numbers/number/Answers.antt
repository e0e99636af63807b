use Rattle.std.proofs.lemmas.Grind.{common_steps}
use Rattle.std.proofs.Common.{◌≡◌, ◌∙◌, ◌++◌, ◌-◌, ◌∷◌, [], List, length, refl, sym, subst, take, ap, arith}
use Rattle.std.proofs.lemmas.List.{length-append}
use Rattle.std.proofs.Math.Seq.{take-append_seam}
use Rattle.jc_classes.specs.Names.{Name}
use Rattle.jc_classes.specs.Numbers.{Grows}
use Rattle.jc_classes.specs.inside.Numbering.{AddsPlace, IsDigested, number_in, place_at}
use Rattle.jc_classes.proofs.numbering.Digests.{digested_push, digested_same}
use Rattle.jc_classes.proofs.numbering.NumberLemmas.{none_found, grows_push}
use Rattle.jc_classes.proofs.numbers.Numbers.number.Goals as goal

-- names from which the last one is taken again
popped : (ns : List Name) (x : Name) (more fewer : List Name) → more ≡ ns ++ x ∷ [] → fewer ≡ take (length more - 1) more → fewer ≡ ns
popped ns x more fewer pushed cut =
    cut
    ∙ ap (λ l. take (length l - 1) l) pushed
    ∙ ap (λ n. take n (ns ++ x ∷ [])) (omega (arith, length-append ns (x ∷ [])))
    ∙ take-append_seam ns (x ∷ [])

pub invariant_of-self-in-Ok : goal.invariant_of-self-in-Ok
invariant_of-self-in-Ok c =
    let a = c.self.inside in
    let f = place_at a.places in
    let g = place_at c.place.new.places in
    let ns = a.names in
    let x = c.args.name.now in
    let none = none_found (number_in f a.others ns) ns c.args.self.now x c.self.invariant.finds c.self.view_is (c.in_default.ensures.none refl) in
    let node : c.len-node.result ≡ length ns = c.len-node.ensures in
    let names = c.in_ok-push.ensures.ok in
    subst (IsDigested g c.place.new.others) (sym names)
    (digested_push f g a.others c.place.new.others ns x c.self.invariant none (subst (AddsPlace f g a.others c.place.new.others x) node c.in-Ok.ensures.ok))

pub invariant_of-self-2 : goal.invariant_of-self-2
invariant_of-self-2 c =
    let a = c.self.inside in
    subst (IsDigested (place_at c.place.new.places) c.place.new.others) (sym (popped a.names c.args.name.now c.push.new.self c.pop.new.self c.in_ok-push.ensures.ok c.pop.ensures))
    (digested_same (place_at a.places) (place_at c.place.new.places) a.others c.place.new.others (a.names) c.self.invariant
    c.in_default-place.ensures.places_err c.in_default-place.ensures.others_err)

pub returns-in-Ok-clause-grows : goal.returns-in-Ok-clause-grows
returns-in-Ok-clause-grows c =
    let a = c.self.inside in
    let f = place_at a.places in
    let g = place_at c.place.new.places in
    let ns = a.names in
    let x = c.args.name.now in
    let none = none_found (number_in f a.others ns) ns c.args.self.now x c.self.invariant.finds c.self.view_is (c.in_default.ensures.none refl) in
    let node : c.len-node.result ≡ length ns = c.len-node.ensures in
    let names = c.in_ok-push.ensures.ok in
    let more = digested_push f g a.others c.place.new.others ns x c.self.invariant none (subst (AddsPlace f g a.others c.place.new.others x) node c.in-Ok.ensures.ok) in
    subst (λ z. Grows z c.push.new.self (x ∷ [])) c.self.view_is
    (subst (λ z. Grows ns z (x ∷ [])) (sym names) (grows_push (number_in g c.place.new.others (ns ++ x ∷ [])) ns x more.finds))

pub returns-in-Some-clause-node : goal.returns-in-Some-clause-node
returns-in-Some-clause-node c = grind (arith, common_steps)

pub returns-in-Some-clause-grows : goal.returns-in-Some-clause-grows
returns-in-Some-clause-grows c = grind (arith, common_steps)

pub returns-in-Ok-clause-node : goal.returns-in-Ok-clause-node
returns-in-Ok-clause-node c = grind (arith, common_steps)

pub returns-clause-node : goal.returns-clause-node
returns-clause-node c = grind (arith, common_steps)

pub returns-clause-grows : goal.returns-clause-grows
returns-clause-grows c = grind (arith, common_steps)
