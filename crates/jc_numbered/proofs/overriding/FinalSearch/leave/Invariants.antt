use Rattle.std.proofs.Common.{◌≡◌, ℕ, length, take}
use Rattle.jc_numbered.proofs.overriding.FinalSearch.leave.Given as goal

abbrev pub invariant-loop-last : goal.invariant-loop-last
invariant-loop-last l = record {
  slots : l.self.slots ≡ l.fn.self.slots;
  finals : l.self.finals ≡ l.fn.self.finals;
  chain : (n : ℕ) × (l.self.chain.items ≡ take n l.fn.self.chain.items);
}

abbrev pub decreases-loop-last : goal.decreases-loop-last
decreases-loop-last l = length l.self.chain.items
