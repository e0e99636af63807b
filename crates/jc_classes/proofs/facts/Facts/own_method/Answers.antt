use Rattle.std.proofs.Common.{◌≡◌, Some, None, option_map, ap, sym, ◌∙◌, arith}
use Rattle.std.proofs.lemmas.Option.{gets, slice_get-map}
use Rattle.std.specs.List.{slice_get}
use Rattle.jc_classes.specs.Facts.{Facts}
use Rattle.jc_classes.specs.inside.FactsShown.{member_shown}
use Rattle.jc_classes.proofs.facts.Facts.own_method.Goals as goal

pub returns-in-Some : goal.returns-in-Some
returns-in-Some c =
    let a = c.self.inside.inside.value in
    let at : slice_get a.methods.items c.args.number ≡ Some c.in-Some.entry.now = grind (arith, gets, c.in-Some.ensures.lookup, c.deref-2.ensures.value, ap (λ x. x.methods.items) c.deref.ensures) in
    ap Some (c.lend.ensures ∙ ap (λ t. member_shown t c.in-Some.entry.now) (c.as_ref.ensures ∙ ap (λ x. x.texts.value) c.deref-in-Some.ensures)) ∙ sym (ap (λ (z : Facts). slice_get z.methods c.args.number) (sym c.self.view_is) ∙ slice_get-map (member_shown a.texts.value) a.methods.items c.args.number ∙ ap (option_map (member_shown a.texts.value)) at)

pub returns-in-None : goal.returns-in-None
returns-in-None c =
    let a = c.self.inside.inside.value in
    let at : slice_get a.methods.items c.args.number ≡ None = grind (arith, gets, c.in-None.ensures.lookup, c.deref-2.ensures.value, ap (λ x. x.methods.items) c.deref.ensures) in
    sym (ap (λ (z : Facts). slice_get z.methods c.args.number) (sym c.self.view_is) ∙ slice_get-map (member_shown a.texts.value) a.methods.items c.args.number ∙ ap (option_map (member_shown a.texts.value)) at)
