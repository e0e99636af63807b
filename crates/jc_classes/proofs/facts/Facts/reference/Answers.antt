use Rattle.std.proofs.Common.{◌≡◌, Some, None, option_map, ap, sym, ◌∙◌, arith}
use Rattle.std.proofs.lemmas.Option.{gets, slice_get-map}
use Rattle.std.specs.List.{slice_get}
use Rattle.jc_classes.specs.Facts.{Facts}
use Rattle.jc_classes.specs.inside.FactsShown.{reference_shown}
use Rattle.jc_classes.proofs.facts.Facts.reference.Goals as goal

pub returns-in-Some : goal.returns-in-Some
returns-in-Some c =
    let a = c.self.inside.inside.value in
    let at : slice_get a.references.value.items c.args.number ≡ Some c.in-Some.entry.now = grind (arith, gets, c.in-Some.ensures.lookup, c.deref-2.ensures.value, c.as_ref.ensures, ap (λ x. x.references.value.items) c.deref.ensures) in
    ap Some (c.lend.ensures ∙ ap (λ t. reference_shown t c.in-Some.entry.now) (c.as_ref-in-Some.ensures ∙ ap (λ x. x.texts.value) c.deref-in-Some.ensures)) ∙ sym (ap (λ (z : Facts). slice_get z.references c.args.number) (sym c.self.view_is) ∙ slice_get-map (reference_shown a.texts.value) a.references.value.items c.args.number ∙ ap (option_map (reference_shown a.texts.value)) at)

pub returns-in-None : goal.returns-in-None
returns-in-None c =
    let a = c.self.inside.inside.value in
    let at : slice_get a.references.value.items c.args.number ≡ None = grind (arith, gets, c.in-None.ensures.lookup, c.deref-2.ensures.value, c.as_ref.ensures, ap (λ x. x.references.value.items) c.deref.ensures) in
    sym (ap (λ (z : Facts). slice_get z.references c.args.number) (sym c.self.view_is) ∙ slice_get-map (reference_shown a.texts.value) a.references.value.items c.args.number ∙ ap (option_map (reference_shown a.texts.value)) at)
