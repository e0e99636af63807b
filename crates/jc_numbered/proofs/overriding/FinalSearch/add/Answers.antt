use Rattle.std.proofs.Common.{◌≡◌, ◌∙◌, Option, Some, length, refl, sym, ap, subst, arith}
use Rattle.std.proofs.lemmas.Result.{on_ok_weaker}
use Rattle.jc_file.specs.AccessFlags.{final, has}
use Rattle.jc_classes.specs.Lent.{key_lent, member_lent}
use Rattle.jc_numbered.specs.declared.overriding.Entry.{Entry}
use Rattle.jc_numbered.specs.inside.FinalSearches.{AreFinals, AreSlots, HasEntry, IsChain, IsPut}
use Rattle.jc_numbered.specs.inside.Overriding.{TellsNearest, overridable_at, slot_of}
use Rattle.jc_numbered.specs.inside.Shown.{indexed_of}
use Rattle.jc_numbered.specs.inside.Slots.{slot_name}
use Rattle.jc_numbered.proofs.lookups.FinalSearchLemmas.{after_put, fits_own, put_entry, slot_key, tells_own}
use Rattle.jc_numbered.proofs.lookups.OverridingLemmas.{nearest_itself, nearest_of_above}
use Rattle.jc_numbered.proofs.lookups.SlotLemmas.{other_key}
use Rattle.jc_numbered.proofs.overriding.FinalSearch.add.Goals.{else-has, then-has}
use Rattle.jc_numbered.proofs.overriding.FinalSearch.add.Goals as goal

some_is : {X : Type 0} {a b : X} → Some a ≡ Some b → a ≡ b
some_is e = cc

pub returns-clause-search : goal.returns-clause-search
returns-clause-search c =
    let x = indexed_of c.args.classes.now in
    let count = length c.args.classes.now.standing.now in
    let graph = c.args.classes.now.graph in
    let k = key_lent c.args.key in
    let v = c.args.node in
    let y = member_lent c.in-Some.method in
    let f = c.find_above.new.self in
    let new = c.put.new.self in
    let is = c.in_ok-above.ensures.search in
    let t = slot_of x k v y in
    let entry : Entry = record { node = v; place = c.len-place.result; nearest = c.if-has.nearest } in
    let declared : overridable_at x k v ≡ Some y = sym c.in-Some.ensures in
    let tells : TellsNearest x k v c.if-has.nearest = elim c.if-has.branch [
      | then-has w ↦ subst (TellsNearest x k v) (sym w.nearest-is) (nearest_itself count x graph k v c.requires.node y declared (sym c.has.ensures ∙ w.if-has.true))
      | else-has w ↦ subst (TellsNearest x k v) (sym w.nearest-is)
          (nearest_of_above count x graph k v c.requires.node y declared (sym c.has.ensures ∙ w.if-has.false) c.in_ok-above.above c.in_ok-above.ensures.told c.in_ok-above.ensures.on)
    ] in
    let place : c.len-place.result ≡ length f.chain.items = c.len-place.ensures ∙ (let q = f.chain.ok in omega arith) in
    on_ok_weaker c.put.result
    (λ (p : IsPut f.chain.items c.in_ok-slot.slot.items entry f.slots new.slots). record {
      finals = subst (AreFinals count x) (sym c.put.ensures.finals) is.finals;
      chain = subst (IsChain count x) (sym c.put.ensures.chain) is.chain;
      slots = subst (λ z. AreSlots x z new.chain.items new.slots) (sym c.put.ensures.finals) (subst (λ z. AreSlots x f.finals z new.slots) (sym c.put.ensures.chain)
          (after_put x f.finals f.chain.items f.slots is.slots t new.slots entry (subst (λ z. IsPut f.chain.items z entry f.slots new.slots) c.in_ok-slot.ensures p)
          place (fits_own x k v y declared) (tells_own x k v y c.if-has.nearest tells)));
    })
    c.put.ensures.put

pub returns-clause-others : goal.returns-clause-others
returns-clause-others c =
    let x = indexed_of c.args.classes.now in
    let k = key_lent c.args.key in
    let v = c.args.node in
    let y = member_lent c.in-Some.method in
    let f = c.find_above.new.self in
    let new = c.put.new.self in
    let entry : Entry = record { node = v; place = c.len-place.result; nearest = c.if-has.nearest } in
    on_ok_weaker c.put.result
    (λ (p : IsPut f.chain.items c.in_ok-slot.slot.items entry f.slots new.slots). λ s n.
    p.others (slot_name s) (λ e. other_key s (slot_of x k v y) (λ h. n (h ∙ slot_key x k v y)) (e ∙ c.in_ok-slot.ensures))
    ∙ c.in_ok-above.ensures.others s n)
    c.put.ensures.put

pub returns-clause-method : goal.returns-clause-method
returns-clause-method c =
    let x = indexed_of c.args.classes.now in
    let k = key_lent c.args.key in
    let v = c.args.node in
    let y = member_lent c.in-Some.method in
    let f = c.find_above.new.self in
    let new = c.put.new.self in
    let t = slot_of x k v y in
    let entry : Entry = record { node = v; place = c.len-place.result; nearest = c.if-has.nearest } in
    let declared : overridable_at x k v ≡ Some y = sym c.in-Some.ensures in
    let place : c.len-place.result ≡ length f.chain.items = c.len-place.ensures ∙ (let q = f.chain.ok in omega arith) in
    on_ok_weaker c.put.result
    (λ (p : IsPut f.chain.items c.in_ok-slot.slot.items entry f.slots new.slots). λ among z d.
    subst (λ n. HasEntry new.slots (slot_of x k v z) v n) (ap length c.in_ok-above.ensures.chain)
    (subst (λ w. HasEntry new.slots (slot_of x k v w) v (length f.chain.items)) (some_is (sym declared ∙ d))
    (put_entry f.chain.items t f.slots new.slots entry (subst (λ b. IsPut f.chain.items b entry f.slots new.slots) c.in_ok-slot.ensures p) place)))
    c.put.ensures.put
