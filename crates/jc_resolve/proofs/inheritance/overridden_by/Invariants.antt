use Rattle.std.proofs.Common.{◌≡◌, length, map, take}
use Rattle.jc_numbered.specs.inside.FinalSearches.{IsSearch}
use Rattle.jc_classes.specs.MemberOrder.{key_at}
use Rattle.jc_classes.specs.Worlds.{World}
use Rattle.jc_numbered.specs.inside.Indexed.{IsIndexed, indexed_name}
use Rattle.jc_numbered.specs.inside.Shown.{indexed_of}
use Rattle.jc_classes.specs.Inheritance.{AreOverridden}
use Rattle.jc_resolve.proofs.inheritance.overridden_by.Given as goal

-- of the methods so far
abbrev pub invariant-loop-number : goal.invariant-loop-number
invariant-loop-number l = record {
  search : IsSearch (length l.classes.standing.now) (indexed_of l.classes) l.search;
  chain : l.search.chain.items ≡ l.fn.search.chain.items;
  told : (m : World) → IsIndexed m (indexed_of l.classes)
      → AreOverridden m (indexed_name (indexed_of l.classes) l.class) (map (key_at l.facts.methods) (take l.number-index l.number-items)) l.found.items;
}
