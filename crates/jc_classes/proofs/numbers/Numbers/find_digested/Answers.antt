use Rattle.std.proofs.Common.{◌≡◌, ◌∙◌, ◌<◌, true, false, length, Some, ap, sym, subst}
use Rattle.jc_classes.specs.Names.{same_name}
use Rattle.jc_classes.specs.Numbers.{name_at}
use Rattle.jc_classes.specs.inside.Numbering.{digest_of, number_in, place_at}
use Rattle.jc_classes.proofs.numbering.Digests.{looked_up}
use Rattle.jc_classes.proofs.numbering.NumberLemmas.{not_there}
use Rattle.jc_classes.proofs.numbers.Numbers.find_digested.Goals as goal

pub returns-in-Some-clause-some : goal.returns-in-Some-clause-some
returns-in-Some-clause-some c =
    let a = c.self.inside in
    let ns = a.names in
    let x = c.args.name.now in
    let i = c.in_ok-node.field-0.now in
    let at : place_at a.places (digest_of x) ≡ Some i = ap (place_at a.places) (sym c.requires) ∙ sym c.in_ok-node.ensures.value in
    let name : name_at ns i ≡ c.text.result.now = sym c.text.ensures in
    let found = looked_up (place_at a.places) a.others ns x i false at (ap (λ z. same_name z x) name ∙ sym c.if-same.ensures) in
    subst (λ z. (c.in-Some.node.now < length z) × (name_at z c.in-Some.node.now ≡ x)) c.self.view_is
    (c.self.invariant.finds.there x c.in-Some.node.now (found ∙ sym c.in-Some.ensures))

pub returns-in-None-clause-none : goal.returns-in-None-clause-none
returns-in-None-clause-none c =
    let a = c.self.inside in
    let ns = a.names in
    let x = c.args.name.now in
    let i = c.in_ok-node.field-0.now in
    let at : place_at a.places (digest_of x) ≡ Some i = ap (place_at a.places) (sym c.requires) ∙ sym c.in_ok-node.ensures.value in
    let name : name_at ns i ≡ c.text.result.now = sym c.text.ensures in
    let found = looked_up (place_at a.places) a.others ns x i false at (ap (λ z. same_name z x) name ∙ sym c.if-same.ensures) in
    λ e. not_there (number_in (place_at a.places) a.others ns) ns c.args.self.now x c.self.invariant.finds c.self.view_is (found ∙ sym c.in-None.ensures)

pub returns-then-same-clause-some : goal.returns-then-same-clause-some
returns-then-same-clause-some c =
    let a = c.self.inside in
    let ns = a.names in
    let x = c.args.name.now in
    let i = c.in_ok-node.field-0.now in
    let at : place_at a.places (digest_of x) ≡ Some i = ap (place_at a.places) (sym c.requires) ∙ sym c.in_ok-node.ensures.value in
    let name : name_at ns i ≡ c.text.result.now = sym c.text.ensures in
    let found = looked_up (place_at a.places) a.others ns x i true at (ap (λ z. same_name z x) name ∙ sym c.if-same.ensures) in
    subst (λ z. (i < length z) × (name_at z i ≡ x)) c.self.view_is (c.self.invariant.finds.there x i found)
