use Rattle.std.proofs.Common.{arith}
use Rattle.jc_numbered.proofs.classes.Classes.see_above.Goals as goal

pub mark_above-requires-clause-nodes : goal.mark_above-requires-clause-nodes
mark_above-requires-clause-nodes c = λ a b h. let q = c.args.self.now.graph.nodes a b h in omega (arith, q, c.args.self.now.supertypes_size)
