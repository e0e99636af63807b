use Rattle.std.proofs.Common.{◌<◌, length, true, sym, ap, subst, set}
use Rattle.jc_graph.specs.Seen.{IsSeen, SeenNodes}
use Rattle.jc_graph.proofs.marked.SeenLemmas.{seen_add}
use Rattle.jc_graph.proofs.seen.Seen.add.Goals as goal

pub invariant_of-self-2 : goal.invariant_of-self-2
invariant_of-self-2 c =
    let f = c.self.inside.flags.items in
    let v = c.args.node in
    let within = subst (λ g. v < length g) (sym (ap (λ (s : SeenNodes). s.flags) c.self.view_is)) c.requires in
    subst (λ l. IsSeen (set f v true) l) (sym c.in_ok-push.ensures.items) (seen_add f c.self.inside.list.items v within c.self.invariant)
