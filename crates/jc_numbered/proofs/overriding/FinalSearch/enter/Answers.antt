use Rattle.std.proofs.Common.{◌≡◌, ◌∙◌, ◌∷◌, ◌++◌, [], length, refl, sym, ap, subst}
use Rattle.jc_classes.specs.Facts.{Key}
use Rattle.jc_classes.specs.MethodLookup.{only_inheritable}
use Rattle.jc_classes.specs.Worlds.{member, methods_of}
use Rattle.jc_numbered.specs.declared.overriding.FinalSearch.{FinalSearch}
use Rattle.jc_numbered.specs.inside.FinalSearches.{AreFinals, AreSlots, HasMethod, IsChain, IsSearch, last_of}
use Rattle.jc_numbered.specs.inside.Shown.{indexed_of}
use Rattle.jc_numbered.proofs.lookups.FinalSearchLemmas.{last_push, no_method, no_methods, push_chain, push_slots}
use Rattle.jc_numbered.proofs.overriding.FinalSearch.enter.Goals.{in-Class+in_ok-add_all, in_default}
use Rattle.jc_numbered.proofs.overriding.FinalSearch.enter.Goals as goal

pub returns-clause-search : goal.returns-clause-search
returns-clause-search c =
    let x = indexed_of c.args.classes.now in
    let count = length c.args.classes.now.standing.now in
    let v = c.args.node in
    let f = c.args.self.now in
    let pushed = c.in_ok-push.ensures.items in
    let by : (g : FinalSearch) → c.match-at.self ≡ g → IsSearch count x g → g.chain.items ≡ f.chain.items
    → g.finals ≡ f.finals → ((k : Key) → HasMethod x f.finals g.slots v (length f.chain.items) k)
    → IsSearch count x (record { finals = c.match-at.self.finals; chain = c.push.new.self; slots = c.match-at.self.slots }) =
    λ g e is same same_finals has.
    let ends = ap last_of same ∙ c.requires.ends in
    let items = pushed ∙ ap (λ (z : FinalSearch). z.chain.items ++ v ∷ []) e in
    record {
      finals = subst (λ (z : FinalSearch). AreFinals count x z.finals) (sym e) is.finals;
      chain = subst (IsChain count x) (sym items) (push_chain count x g.chain.items v is.chain c.requires.node c.requires.good ends);
      slots = subst (λ (z : FinalSearch). AreSlots x z.finals c.push.new.self.items z.slots) (sym e)
          (subst (λ z. AreSlots x g.finals z g.slots) (sym items)
          (push_slots x g.finals g.chain.items g.slots v is.slots
          (λ k. subst (λ z. HasMethod x z g.slots v (length g.chain.items) k) (sym same_finals)
          (subst (λ z. HasMethod x f.finals g.slots v (length z) k) (sym same) (has k)))));
    } in
    elim c.match-at.branch [
      | in-Class+in_ok-add_all w ↦ by w.add_all.new.self w.self-is w.in_ok-add_all.ensures.search w.in_ok-add_all.ensures.chain w.in_ok-add_all.ensures.finals w.in_ok-add_all.ensures.methods
      | in_default w ↦ by f w.self-is c.requires.search refl refl
          (λ k. no_method x f.finals v k f.slots (length f.chain.items) (ap methods_of (sym c.at.ensures) ∙ no_methods c.at.result w.in_default.not-Class))
    ]

pub returns-clause-ends : goal.returns-clause-ends
returns-clause-ends c = ap last_of c.in_ok-push.ensures.items ∙ last_push c.match-at.self.chain.items c.args.node
