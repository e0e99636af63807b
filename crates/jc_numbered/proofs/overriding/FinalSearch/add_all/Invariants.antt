use Rattle.std.proofs.Common.{◌≡◌, ℕ, ◌<◌, length}
use Rattle.jc_classes.specs.MemberOrder.{key_at}
use Rattle.jc_numbered.specs.inside.FinalSearches.{HasMethod, IsSearch}
use Rattle.jc_numbered.specs.inside.Shown.{indexed_of}
use Rattle.jc_numbered.proofs.overriding.FinalSearch.add_all.Given as goal

abbrev pub invariant-loop-number : goal.invariant-loop-number
invariant-loop-number l = record {
  search : IsSearch (length l.classes.standing.now) (indexed_of l.classes) l.self;
  chain : l.self.chain.items ≡ l.fn.self.chain.items;
  finals : l.self.finals ≡ l.fn.self.finals;
  methods : (i : ℕ) → i < l.number → HasMethod (indexed_of l.classes) l.fn.self.finals l.self.slots l.node (length l.fn.self.chain.items) (key_at l.facts.methods i);
}
