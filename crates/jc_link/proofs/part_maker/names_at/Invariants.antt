use Rattle.std.proofs.Common.{◌≡◌, map, take}
use Rattle.jc_classes.specs.Numbers.{name_at}
use Rattle.jc_link.proofs.part_maker.names_at.Given as goal

abbrev pub invariant-loop-node : goal.invariant-loop-node
invariant-loop-node l = map (λ name. name.now) l.names.items ≡ map (name_at l.numbers) (take l.node-index l.nodes)
