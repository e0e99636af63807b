use Rattle.std.proofs.Common.{◌≡◌, ℕ, length, take, sym, subst}
use Rattle.jc_numbered.specs.declared.overriding.FinalSearch.{FinalSearch}
use Rattle.jc_numbered.specs.inside.FinalSearches.{AreFinals, AreSlots, IsChain, IsSearch}
use Rattle.jc_numbered.specs.inside.Indexed.{Indexed}
use Rattle.jc_numbered.specs.inside.Shown.{indexed_of}
use Rattle.jc_numbered.proofs.lookups.Chain.{super_node}
use Rattle.jc_numbered.proofs.lookups.FinalSearchLemmas.{cut_chain, cut_slots}
use Rattle.jc_numbered.proofs.overriding.FinalSearch.visit.Goals as goal

-- the chain is shorter
left : (count : ℕ) (x : Indexed) (old new : FinalSearch) → IsSearch count x old → new.slots ≡ old.slots → new.finals ≡ old.finals → (n : ℕ) × (new.chain.items ≡ take n old.chain.items)
    → IsSearch count x new
left count x old new is slots finals cut = record {
  finals = subst (AreFinals count x) (sym finals) is.finals;
  chain = subst (IsChain count x) (sym cut.1) (cut_chain count x old.chain.items cut.0 is.chain);
  slots = subst (λ z. AreSlots x z new.chain.items new.slots) (sym finals) (subst (λ z. AreSlots x old.finals z new.slots) (sym cut.1)
      (subst (AreSlots x old.finals (take cut.0 old.chain.items)) (sym slots) (cut_slots x old.finals old.chain.items cut.0 old.slots is.slots)));
}

pub enter_all-requires-clause-class : goal.enter_all-requires-clause-class
enter_all-requires-clause-class c =
    super_node (length c.args.classes.now.standing.now) (indexed_of c.args.classes.now) c.args.classes.now.graph c.args.class c.in-Some.above (sym c.in-Some.ensures)

pub enter_all-requires-clause-search : goal.enter_all-requires-clause-search
enter_all-requires-clause-search c = left (length c.args.classes.now.standing.now) (indexed_of c.args.classes.now) c.args.self.now c.leave.new.self
    c.requires.search c.leave.ensures.slots c.leave.ensures.finals c.leave.ensures.chain

pub returns-then-leave-clause-search : goal.returns-then-leave-clause-search
returns-then-leave-clause-search c = left (length c.args.classes.now.standing.now) (indexed_of c.args.classes.now) c.args.self.now c.leave.new.self
    c.requires.search c.leave.ensures.slots c.leave.ensures.finals c.leave.ensures.chain

pub superclass-requires-2 : goal.superclass-requires-2
superclass-requires-2 c =
    super_node (length c.args.classes.now.standing.now) (indexed_of c.args.classes.now) c.args.classes.now.graph c.args.class c.in-Some.above (sym c.in-Some.ensures)

pub enter-requires-clause-node : goal.enter-requires-clause-node
enter-requires-clause-node c =
    super_node (length c.args.classes.now.standing.now) (indexed_of c.args.classes.now) c.args.classes.now.graph c.args.class c.in-Some.above (sym c.in-Some.ensures)

pub enter-requires-clause-search : goal.enter-requires-clause-search
enter-requires-clause-search c = left (length c.args.classes.now.standing.now) (indexed_of c.args.classes.now) c.args.self.now c.leave.new.self
    c.requires.search c.leave.ensures.slots c.leave.ensures.finals c.leave.ensures.chain
