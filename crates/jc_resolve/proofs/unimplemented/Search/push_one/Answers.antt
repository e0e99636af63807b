use Rattle.std.proofs.Common.{◌≡◌, ◌∙◌, ◌<◌, Some, length, ap, subst, sym}
use Rattle.std.specs.Prelude.{slice_get}
use Rattle.std.proofs.lemmas.Bool.{false≢true}
use Rattle.jc_classes.specs.Lent.{key_lent}
use Rattle.jc_numbered.specs.inside.Indexed.{indexed_name}
use Rattle.jc_numbered.specs.inside.Shown.{indexed_of}
use Rattle.jc_classes.specs.Selection.{SelectsNone}
use Rattle.jc_resolve.specs.inside.AbstractMethods.{key_in}
use Rattle.jc_resolve.specs.inside.Unimplemented.{Adds}
use Rattle.jc_resolve.specs.declared.abstract_methods.AbstractMethod.{AbstractMethod}
use Rattle.jc_resolve.proofs.lookups.AbstractLemmas.{get_in, get_looked}
use Rattle.jc_resolve.proofs.lookups.AddsLemmas.{adds_none, adds_one}
use Rattle.jc_resolve.proofs.unimplemented.Search.push_one.Goals as goal

some_is : {X : Type 0} {a b : X} → Some a ≡ Some b → a ≡ b
some_is e = cc

pub selects_none-requires-clause-home : goal.selects_none-requires-clause-home
selects_none-requires-clause-home c =
    let all = c.args.self.now.methods.all.items in
    let e = c.in-Some.method.now in
    subst (λ z. z < length c.args.classes.now.standing.now) (sym c.node.ensures) (c.requires.methods e (get_in all c.args.number e (get_looked c.args.self.now.methods.all.items c.deref.result.now c.args.number c.in-Some.method.now c.deref.ensures.value c.in-Some.ensures.lookup.3.0 c.in-Some.ensures.lookup.1)))

pub returns-in_ok-push-clause-added : goal.returns-in_ok-push-clause-added
returns-in_ok-push-clause-added c =
    let x = indexed_of c.args.classes.now in
    let v = c.args.node in
    let all = c.args.self.now.methods.all.items in
    let e : AbstractMethod = c.in-Some.method.now in
    subst (Adds x v all (λ i. i ≡ c.args.number) c.args.added.now.items) (sym c.in_ok-push.ensures.items)
    (adds_one x v all c.args.number c.args.added.now.items (
      e,
      get_looked c.args.self.now.methods.all.items c.deref.result.now c.args.number c.in-Some.method.now c.deref.ensures.value c.in-Some.ensures.lookup.3.0 c.in-Some.ensures.lookup.1,
      λ m h.
          subst (λ n. SelectsNone m (key_in e) (indexed_name x v) (indexed_name x n)) c.node.ensures
          (subst (λ k. SelectsNone m k (indexed_name x v) (indexed_name x c.node.result)) c.key.ensures
          ((c.in_ok-selects_none.ensures.none m h).0 c.if-branch.true)),
    ))

pub returns-else-branch-clause-added : goal.returns-else-branch-clause-added
returns-else-branch-clause-added c =
    let x = indexed_of c.args.classes.now in
    let v = c.args.node in
    let all = c.args.self.now.methods.all.items in
    let e : AbstractMethod = c.in-Some.method.now in
    adds_none x v all (λ i. i ≡ c.args.number) c.args.added.now.items (λ m h i f p g s.
    let same : f ≡ e = some_is (sym g ∙ ap (slice_get all) p ∙ get_looked c.args.self.now.methods.all.items c.deref.result.now c.args.number c.in-Some.method.now c.deref.ensures.value c.in-Some.ensures.lookup.3.0 c.in-Some.ensures.lookup.1) in
    let t : SelectsNone m (key_in e) (indexed_name x v) (indexed_name x e.node) = subst (λ (z : AbstractMethod). SelectsNone m (key_in z) (indexed_name x v) (indexed_name x z.node)) same s in
    false≢true (sym c.if-branch.false ∙ (c.in_ok-selects_none.ensures.none m h).1
    (subst (λ n. SelectsNone m (key_lent c.key.result) (indexed_name x v) (indexed_name x n)) (sym c.node.ensures)
    (subst (λ k. SelectsNone m k (indexed_name x v) (indexed_name x e.node)) (sym c.key.ensures) t))))
