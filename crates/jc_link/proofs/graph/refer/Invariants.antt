use Rattle.std.proofs.Common.{◌≡◌, length, map}
use Rattle.jc_classes.specs.Numbers.{IsOnce, name_at}
use Rattle.jc_classes.specs.Worlds.{World}
use Rattle.jc_link.specs.inside.GraphAsked.{AreReferredIn, IsAskedBy}
use Rattle.jc_link.specs.inside.GraphShown.{AllReached, AreKept, nodes_in}
use Rattle.jc_link.proofs.graph.refer.Given as goal

abbrev pub invariant-loop-class : goal.invariant-loop-class
invariant-loop-class l = record {
  size : length (nodes_in l.references.items) ≡ l.class-index;
  once : IsOnce l.numbers;
  kept : AreKept l.fn.numbers l.numbers;
  asked : (m : World) → IsAskedBy m l.fn.numbers l.reached → IsAskedBy m l.numbers l.reached;
  referred : (m : World) → IsAskedBy m l.fn.numbers l.reached → AreReferredIn m l.numbers l.classes (nodes_in l.references.items);
  reached : (m : World) → IsAskedBy m l.fn.numbers l.reached → AllReached m (map (name_at l.fn.numbers) l.classes) l.fn.numbers
      → AllReached m (map (name_at l.fn.numbers) l.classes) l.numbers;
}
