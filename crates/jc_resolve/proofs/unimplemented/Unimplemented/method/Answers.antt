use Rattle.std.proofs.Common.{◌≡◌, ◌∙◌, ◌<◌, ◌≤◌, Some, length, ap, subst, sym, arith}
use Rattle.std.specs.List.{Contains}
use Rattle.std.specs.Prelude.{option_map, slice_get}
use Rattle.std.proofs.lemmas.Option.{slice_get_past}
use Rattle.jc_resolve.specs.Methods.{inherited_of, method_at, numbers_at}
use Rattle.jc_resolve.proofs.lookups.AbstractLemmas.{get_in, get_looked, get_there}
use Rattle.jc_resolve.proofs.lookups.ShownLists.{method_shown, method_within, place_within}
use Rattle.jc_resolve.proofs.unimplemented.Unimplemented.method.Goals as goal

pub returns-in-Some-get : goal.returns-in-Some-get
returns-in-Some-get c =
    let i = c.self.inside in
    let methods = i.methods.items in
    let found = c.numbers_at-numbers.result.now in
    let e : found ≡ numbers_at i.lists.items i.list_of.items c.args.place = c.numbers_at-numbers.ensures ∙ ap (λ z. numbers_at z c.as_slice-2.result.now c.args.place) c.as_slice.ensures.value
    ∙ ap (λ z. numbers_at i.lists.items z c.args.place) c.as_slice-2.ensures.value in
    let number = c.in-Some.number.now in
    let there : slice_get found c.args.at ≡ Some number = get_there found c.args.at number c.in-Some.ensures.lookup.3.0 ∙ ap Some (sym c.in-Some.ensures.lookup.1) in
    let own : slice_get methods number ≡ Some c.in-Some-get.method.now
    = get_looked methods c.deref.result.now number c.in-Some-get.method.now c.deref.ensures.value c.in-Some-get.ensures.lookup.3.0 c.in-Some-get.ensures.lookup.1 in
    let l : number < length methods = place_within methods i.lists.items i.list_of.items c.self.invariant c.args.place number (subst (λ z. Contains z number) e (get_in found c.args.at number there)) in
    ap (option_map inherited_of) (sym own) ∙ method_within methods number l
    ∙ sym (method_shown methods i.lists.items i.list_of.items c.args.self.now c.self.view_is c.args.place c.args.at found e ∙ ap (option_map (method_at methods)) there)

pub returns-in-None-get : goal.returns-in-None-get
returns-in-None-get c =
    let i = c.self.inside in
    let methods = i.methods.items in
    let found = c.numbers_at-numbers.result.now in
    let e : found ≡ numbers_at i.lists.items i.list_of.items c.args.place = c.numbers_at-numbers.ensures ∙ ap (λ z. numbers_at z c.as_slice-2.result.now c.args.place) c.as_slice.ensures.value
    ∙ ap (λ z. numbers_at i.lists.items z c.args.place) c.as_slice-2.ensures.value in
    let number = c.in-Some.number.now in
    let there : slice_get found c.args.at ≡ Some number = get_there found c.args.at number c.in-Some.ensures.lookup.3.0 ∙ ap Some (sym c.in-Some.ensures.lookup.1) in
    let l : number < length methods = place_within methods i.lists.items i.list_of.items c.self.invariant c.args.place number (subst (λ z. Contains z number) e (get_in found c.args.at number there)) in
    let past : length methods ≤ number = subst (λ z. length z ≤ number) c.deref.ensures.value c.in-None-get.ensures.lookup.3 in
    absurd (omega (arith, l, past))

pub returns-in-None : goal.returns-in-None
returns-in-None c =
    let i = c.self.inside in
    let methods = i.methods.items in
    let found = c.numbers_at-numbers.result.now in
    let e : found ≡ numbers_at i.lists.items i.list_of.items c.args.place = c.numbers_at-numbers.ensures ∙ ap (λ z. numbers_at z c.as_slice-2.result.now c.args.place) c.as_slice.ensures.value
    ∙ ap (λ z. numbers_at i.lists.items z c.args.place) c.as_slice-2.ensures.value in
    sym (method_shown methods i.lists.items i.list_of.items c.args.self.now c.self.view_is c.args.place c.args.at found e
    ∙ ap (option_map (method_at methods)) (slice_get_past found c.args.at c.in-None.ensures.lookup.3))
