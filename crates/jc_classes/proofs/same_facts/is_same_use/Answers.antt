use Rattle.std.proofs.Common.{◌∙◌, ap}
use Rattle.std.proofs.lemmas.Slice.Eq.{slice_eq-Decides}
use Rattle.jc_classes.specs.Facts.{Facts}
use Rattle.jc_classes.proofs.compared.Lists.{decides_of}
use Rattle.jc_classes.proofs.compared.SameClasses.{not_first, then_second, use_decides, user_decides}
use Rattle.jc_classes.proofs.same_facts.is_same_use.Goals as goal

pub returns-then-eq : goal.returns-then-eq
returns-then-eq c =
    let uses = decides_of c.eq.result c.uses.ensures c.uses-2.ensures
    (slice_eq-Decides use_decides c.uses.result.now c.uses-2.result.now c.eq.result c.eq.ensures) in
    let users = decides_of c.eq-then-eq.result (c.as_slice.ensures.value ∙ ap (λ x. x.users.items) c.deref.ensures ∙ ap (λ (f : Facts). f.users) c.facts.view_is) (c.as_slice-then-eq.ensures.value ∙ ap (λ x. x.users.items) c.deref-then-eq.ensures ∙ ap (λ (f : Facts). f.users) c.other.view_is)
    (slice_eq-Decides user_decides c.as_slice.result.now c.as_slice-then-eq.result.now c.eq-then-eq.result c.eq-then-eq.ensures) in
    then_second c.eq.result c.eq-then-eq.result uses c.if-eq.true users

pub returns-else-eq : goal.returns-else-eq
returns-else-eq c =
    let uses = decides_of c.eq.result c.uses.ensures c.uses-2.ensures
    (slice_eq-Decides use_decides c.uses.result.now c.uses-2.result.now c.eq.result c.eq.ensures) in
    not_first c.eq.result uses c.if-eq.false
