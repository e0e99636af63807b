use Rattle.std.proofs.Common.{◌≡◌, take}
use Rattle.std.specs.List.{filter}
use Rattle.jc_classes.specs.Lent.{key_lent}
use Rattle.jc_numbered.specs.inside.Shown.{indexed_of}
use Rattle.jc_resolve.specs.inside.Selection.{is_abstract_at}
use Rattle.jc_resolve.proofs.selection.abstract_among.Given as goal

abbrev pub invariant-loop-node : goal.invariant-loop-node
invariant-loop-node l = l.found.items ≡ filter (is_abstract_at (indexed_of l.classes) (key_lent l.key)) (take l.node-index l.nodes)
