use Rattle.std.proofs.Common.{take}
use Rattle.jc_classes.specs.Names.{names_of}
use Rattle.jc_session.proofs.checks.AddedInOrder.{HasRead}
use Rattle.jc_session.proofs.tree_check.read_tree.Given as goal

abbrev pub invariant-loop-path : goal.invariant-loop-path
invariant-loop-path g l = HasRead (g.S.Source.answers l.fn.source) (g.S.Source.answers l.source) (names_of (take l.path-index l.paths)) l.tree
