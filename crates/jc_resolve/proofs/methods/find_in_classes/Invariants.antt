use Rattle.std.proofs.Common.{◌≡◌, ◌<◌, true, length}
use Rattle.jc_classes.specs.Lent.{key_lent}
use Rattle.jc_numbered.specs.inside.Indexed.{good_at, rank_at}
use Rattle.jc_numbered.specs.inside.Shown.{indexed_of}
use Rattle.jc_resolve.specs.inside.Chain.{Leads}
use Rattle.jc_resolve.proofs.methods.find_in_classes.Given as goal

abbrev pub invariant-loop-member : goal.invariant-loop-member
invariant-loop-member l = record {
  within : l.node < length l.classes.standing.now;
  good : good_at (indexed_of l.classes) l.node ≡ true;
  leads : Leads (indexed_of l.classes) (key_lent l.key) l.start l.node;
}

abbrev pub decreases-loop-member : goal.decreases-loop-member
decreases-loop-member l = rank_at (indexed_of l.classes) l.node
