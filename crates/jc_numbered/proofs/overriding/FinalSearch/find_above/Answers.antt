use Rattle.std.proofs.Common.{◌≡◌, ◌∙◌, Some, length, refl, sym, ap, subst}
use Rattle.jc_classes.specs.Lent.{key_lent}
use Rattle.jc_numbered.specs.inside.Chain.{ExtendsNode}
use Rattle.jc_numbered.specs.inside.FinalSearches.{AreFinals, AreSlots, IsChain}
use Rattle.jc_numbered.specs.inside.Overriding.{TellsFinal, nearer, overridable_at, package_at}
use Rattle.jc_numbered.specs.inside.Shown.{indexed_of}
use Rattle.jc_numbered.specs.inside.Slots.{name_in, open_slot, package_slot}
use Rattle.jc_numbered.proofs.lookups.FinalSearchLemmas.{after_both, drops_as, others_both, some_method, told_open, told_own}
use Rattle.jc_numbered.proofs.lookups.OverridingLemmas.{TellsTop, nearer_above, tells_nearer}
use Rattle.jc_numbered.proofs.overriding.FinalSearch.find_above.Goals as goal

pub returns-clause-told : goal.returns-clause-told
returns-clause-told c =
    let x = indexed_of c.args.classes.now in
    let count = length c.args.classes.now.standing.now in
    let class = c.args.class in
    let k = key_lent c.args.key in
    let f = c.args.self.now in
    let chain = f.chain.items in
    let is = c.requires.search in
    let first = c.deref.result.now in
    let second = c.deref-2.result.now in
    let mid = c.nearest_in-among_open.new.self in
    let new = c.nearest_in-among_own.new.self in
    let a = c.nearest_in-among_open.ensures in
    let b = c.nearest_in-among_own.ensures in
    let first_is = c.deref.ensures.value ∙ c.in_ok-open.ensures in
    let second_is = c.deref-2.ensures.value ∙ c.in_ok-own.ensures ∙ ap (λ p. name_in (Some p) k) c.package.ensures in
    let drops = drops_as a.chain refl refl b.drops in
    let top : TellsTop x class (open_slot k) c.nearest_in-among_open.result =
    subst (TellsTop x class (open_slot k)) (sym a.nearest) (told_open count x f.finals chain f.slots is.slots is.chain class c.requires.ends k c.requires.among first second first_is second_is mid.slots new.slots a.others a.drops b.others drops) in
    let top_own : TellsTop x class (package_slot (package_at x class) k) c.nearest_in-among_own.result =
    subst (TellsTop x class (package_slot (package_at x class) k)) (sym b.nearest) (told_own count x f.finals chain f.slots is.slots is.chain class c.requires.ends k c.requires.among first second first_is second_is mid.slots new.slots a.others a.drops b.others drops) in
    let own = some_method (overridable_at x k class) c.requires.overrides in
    subst (TellsFinal x k class) (sym c.nearer.ensures)
    (tells_nearer count x c.args.classes.now.graph k class c.requires.class own c.nearest_in-among_open.result c.nearest_in-among_own.result top top_own c.requires.good)

pub returns-clause-on : goal.returns-clause-on
returns-clause-on c =
    let x = indexed_of c.args.classes.now in
    let count = length c.args.classes.now.standing.now in
    let class = c.args.class in
    let k = key_lent c.args.key in
    let f = c.args.self.now in
    let chain = f.chain.items in
    let is = c.requires.search in
    let first = c.deref.result.now in
    let second = c.deref-2.result.now in
    let mid = c.nearest_in-among_open.new.self in
    let new = c.nearest_in-among_own.new.self in
    let a = c.nearest_in-among_open.ensures in
    let b = c.nearest_in-among_own.ensures in
    let first_is = c.deref.ensures.value ∙ c.in_ok-open.ensures in
    let second_is = c.deref-2.ensures.value ∙ c.in_ok-own.ensures ∙ ap (λ p. name_in (Some p) k) c.package.ensures in
    let drops = drops_as a.chain refl refl b.drops in
    let top : TellsTop x class (open_slot k) c.nearest_in-among_open.result =
    subst (TellsTop x class (open_slot k)) (sym a.nearest) (told_open count x f.finals chain f.slots is.slots is.chain class c.requires.ends k c.requires.among first second first_is second_is mid.slots new.slots a.others a.drops b.others drops) in
    let top_own : TellsTop x class (package_slot (package_at x class) k) c.nearest_in-among_own.result =
    subst (TellsTop x class (package_slot (package_at x class) k)) (sym b.nearest) (told_own count x f.finals chain f.slots is.slots is.chain class c.requires.ends k c.requires.among first second first_is second_is mid.slots new.slots a.others a.drops b.others drops) in
    let own = some_method (overridable_at x k class) c.requires.overrides in
    λ w e.
    nearer_above count x c.args.classes.now.graph k class c.requires.class own c.nearest_in-among_open.result c.nearest_in-among_own.result top top_own w
    (sym c.nearer.ensures ∙ e)

pub returns-clause-search : goal.returns-clause-search
returns-clause-search c =
    let x = indexed_of c.args.classes.now in
    let count = length c.args.classes.now.standing.now in
    let class = c.args.class in
    let k = key_lent c.args.key in
    let f = c.args.self.now in
    let chain = f.chain.items in
    let is = c.requires.search in
    let first = c.deref.result.now in
    let second = c.deref-2.result.now in
    let mid = c.nearest_in-among_open.new.self in
    let new = c.nearest_in-among_own.new.self in
    let a = c.nearest_in-among_open.ensures in
    let b = c.nearest_in-among_own.ensures in
    let first_is = c.deref.ensures.value ∙ c.in_ok-open.ensures in
    let second_is = c.deref-2.ensures.value ∙ c.in_ok-own.ensures ∙ ap (λ p. name_in (Some p) k) c.package.ensures in
    let drops = drops_as a.chain refl refl b.drops in
    let same = sym (b.chain ∙ a.chain) in
    let same_finals = sym (b.finals ∙ a.finals) in
    record {
      finals = subst (AreFinals count x) same_finals is.finals;
      chain = subst (IsChain count x) same is.chain;
      slots = subst (λ z. AreSlots x z new.chain.items new.slots) same_finals (subst (λ z. AreSlots x f.finals z new.slots) same (after_both count x f.finals chain f.slots is.slots is.chain class c.requires.ends k c.requires.among first second first_is second_is mid.slots new.slots a.others a.drops b.others drops));
    }

pub returns-clause-others : goal.returns-clause-others
returns-clause-others c =
    let x = indexed_of c.args.classes.now in
    let count = length c.args.classes.now.standing.now in
    let class = c.args.class in
    let k = key_lent c.args.key in
    let f = c.args.self.now in
    let chain = f.chain.items in
    let is = c.requires.search in
    let first = c.deref.result.now in
    let second = c.deref-2.result.now in
    let mid = c.nearest_in-among_open.new.self in
    let new = c.nearest_in-among_own.new.self in
    let a = c.nearest_in-among_open.ensures in
    let b = c.nearest_in-among_own.ensures in
    let first_is = c.deref.ensures.value ∙ c.in_ok-open.ensures in
    let second_is = c.deref-2.ensures.value ∙ c.in_ok-own.ensures ∙ ap (λ p. name_in (Some p) k) c.package.ensures in
    let drops = drops_as a.chain refl refl b.drops in
    others_both count x f.finals chain f.slots is.slots is.chain class c.requires.ends k c.requires.among first second first_is second_is mid.slots new.slots a.others a.drops b.others drops
