use Rattle.std.proofs.Common.{◌∙◌, ◌+◌, ◌∷◌, ◌++◌, [], ap, map, refl, subst, sym, take}
use Rattle.std.proofs.lemmas.List.{map-append, take_all, take_more}
use Rattle.jc_classes.specs.Inheritance.{AreOverridden}
use Rattle.jc_classes.specs.Inheritance.AreOverridden.{none}
use Rattle.jc_classes.specs.Lent.{key_lent}
use Rattle.jc_classes.specs.MemberOrder.{IsOrder, key_at}
use Rattle.jc_numbered.specs.inside.Indexed.{indexed_name}
use Rattle.jc_numbered.specs.inside.Shown.{indexed_of}
use Rattle.jc_resolve.proofs.lookups.InheritanceLemmas.{overridden_on}
use Rattle.jc_resolve.proofs.inheritance.overridden_by.Goals as goal

pub loop-number-init : goal.loop-number-init
loop-number-init c = record {
  search = c.requires.search;
  chain = refl;
  told = λ m index. subst (AreOverridden m (indexed_name (indexed_of c.args.classes.now) c.args.class) []) (sym c.new-found.ensures.items) none;
}

pub loop-number-preserved : goal.loop-number-preserved
loop-number-preserved c = record {
  search = c.in_ok-push_overridden.ensures.search;
  chain = c.in_ok-push_overridden.ensures.chain ∙ c.loop-number.invariant.chain;
  told = λ m index.
      let order = c.method_order-number-items.result.now in
      let i = c.loop-number.number-index in
      let key = key_at c.args.facts.now.methods in
      overridden_on (indexed_of c.args.classes.now) c.args.class m index (map key (take i order)) (map key (take (i + 1) order))
      (key_lent c.method_key-key.result) c.loop-number.found.items c.push_overridden.new.found.items c.in_ok-push_overridden.ensures.added
      (ap (map key) (take_more order i 0 c.loop-number-test.true) ∙ map-append key (take i order) _ ∙ ap (λ k. map key (take i order) ++ k ∷ []) (sym c.method_key-key.ensures))
      (c.loop-number.invariant.told m index);
}

pub returns-clause-told : goal.returns-clause-told
returns-clause-told c =
    let x = indexed_of c.args.classes.now in
    let order = c.method_order-number-items.result.now in
    record {
      order = order;
      is_order = subst (λ ms. IsOrder ms order) (sym c.requires.facts) c.method_order-number-items.ensures;
      are = λ m index.
          subst (λ ms. AreOverridden m (indexed_name x c.args.class) (map (key_at ms) order) c.loop-number.found.items) (sym c.requires.facts)
          (subst (λ ns. AreOverridden m (indexed_name x c.args.class) (map (key_at c.args.facts.now.methods) ns) c.loop-number.found.items)
          (take_all c.loop-number.number-index order c.loop-number-test.false) (c.loop-number.invariant.told m index));
    }
