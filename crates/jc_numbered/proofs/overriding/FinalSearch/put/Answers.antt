use Rattle.std.proofs.Common.{◌∙◌, [], refl, sym, ap}
use Rattle.std.specs.FinMap as map
use Rattle.jc_numbered.specs.inside.FinalSearches.{entries_in}
use Rattle.jc_numbered.proofs.lookups.FinalSearchLemmas.{drops_as, entries_found, entries_inserted, entries_missing, none_drops, others_inserted}
use Rattle.jc_numbered.proofs.overriding.FinalSearch.put.Goals as goal

pub returns-in-Some-clause-put : goal.returns-in-Some-clause-put
returns-in-Some-clause-put c =
    let slots = c.args.self.now.slots in
    let name = c.args.slot.items in
    let found = ap (map.get slots) (sym c.deref.ensures.value) ∙ sym c.in-Some.ensures.value in
    record {
      others = λ other n. others_inserted slots c.deref.result.now c.push.new.self other (λ e. n (e ∙ c.deref.ensures.value));
      kept = c.drop_left.new.entries.items;
      drops = drops_as c.deref-in-Some.ensures.value (sym (entries_found slots name c.in-Some.entries.now found)) refl c.drop_left.ensures;
      is = ap (λ z. entries_in (map.insert slots z c.push.new.self) name) c.deref.ensures.value
          ∙ entries_inserted slots name c.push.new.self ∙ c.in_ok-push.ensures.items;
    }

pub returns-clause-put : goal.returns-clause-put
returns-clause-put c =
    let slots = c.args.self.now.slots in
    let name = c.args.slot.items in
    let missing = ap (map.get slots) (sym c.deref.ensures.value) ∙ sym c.in_default.ensures.value in
    record {
      others = λ other n. ap (λ m. entries_in m other) c.in_ok-insert.ensures.ok ∙ others_inserted slots name c.in_ok-entries.entries other n;
      kept = [];
      drops = drops_as refl (sym (entries_missing slots name missing)) refl (none_drops c.args.self.now.chain.items);
      is = ap (λ m. entries_in m name) c.in_ok-insert.ensures.ok ∙ entries_inserted slots name c.in_ok-entries.entries ∙ c.in_ok-entries.ensures.items;
    }
