use Rattle.std.proofs.Common.{subst, arith}
use Rattle.jc_graph.specs.Graph.{successors_of, IsOrder, TellsCircular}
use Rattle.jc_resolve.proofs.loaded.load_classes.Goals as goal

pub sort_nodes-requires : goal.sort_nodes-requires
sort_nodes-requires c = λ a b h. let n = (c.requires.net.nodes a b h).1 in omega (arith, n, c.requires.size)

pub load_sorted-requires-clause-circular : goal.load_sorted-requires-clause-circular
load_sorted-requires-clause-circular c = subst (λ k. TellsCircular (successors_of c.args.supertypes.now) k c.in_ok-sorted.sorted.circular.items) c.requires.size c.in_ok-sorted.ensures.circular

pub load_sorted-requires-clause-order : goal.load_sorted-requires-clause-order
load_sorted-requires-clause-order c = subst (λ k. IsOrder (successors_of c.args.supertypes.now) k c.in_ok-sorted.sorted.circular.items c.in_ok-sorted.sorted.order.items) c.requires.size c.in_ok-sorted.ensures.order

pub returns-clause-names : goal.returns-clause-names
returns-clause-names c = c.in_ok-classes.ensures.names

pub returns-clause-standing : goal.returns-clause-standing
returns-clause-standing c = c.in_ok-classes.ensures.standing

pub returns-clause-supertypes : goal.returns-clause-supertypes
returns-clause-supertypes c = c.in_ok-classes.ensures.supertypes

pub returns-clause-loaded : goal.returns-clause-loaded
returns-clause-loaded c = c.in_ok-classes.ensures.loaded
