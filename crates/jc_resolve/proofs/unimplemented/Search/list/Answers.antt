use Rattle.std.proofs.Common.{length}
use Rattle.jc_numbered.specs.inside.Shown.{indexed_of}
use Rattle.jc_resolve.proofs.lookups.PathLemmas.{popped_above, popped_good, popped_in, popped_path}
use Rattle.jc_resolve.proofs.lookups.SearchLemmas.{extends_self, extends_trans}
use Rattle.jc_resolve.proofs.unimplemented.Search.list.Goals as goal

pub loop-node-init : goal.loop-node-init
loop-node-init c = record {
  path = c.in_ok-path.ensures;
  search = c.requires.search;
  kept = extends_self c.args.self.now;
  room = c.requires.room;
}

pub add-requires-clause-node : goal.add-requires-clause-node
add-requires-clause-node c = popped_in (length c.args.classes.now.standing.now) (indexed_of c.args.classes.now) c.args.classes.now.graph c.loop-node.self c.args.class c.loop-node.path.items
    c.pop.new.self.items c.in-Some.node c.loop-node.number c.loop-node.invariant.path c.in-Some.ensures.items

pub add-requires-clause-good : goal.add-requires-clause-good
add-requires-clause-good c = popped_good (length c.args.classes.now.standing.now) (indexed_of c.args.classes.now) c.args.classes.now.graph c.loop-node.self c.args.class c.loop-node.path.items
    c.pop.new.self.items c.in-Some.node c.loop-node.number c.loop-node.invariant.path c.in-Some.ensures.items

pub add-requires-clause-above : goal.add-requires-clause-above
add-requires-clause-above c = popped_above (length c.args.classes.now.standing.now) (indexed_of c.args.classes.now) c.args.classes.now.graph c.loop-node.self c.args.class c.loop-node.path.items
    c.pop.new.self.items c.in-Some.node c.loop-node.number c.loop-node.invariant.path c.in-Some.ensures.items

pub loop-node-preserved : goal.loop-node-preserved
loop-node-preserved c = record {
  path = popped_path (length c.args.classes.now.standing.now) (indexed_of c.args.classes.now) c.args.classes.now.graph c.loop-node.self c.args.class c.loop-node.path.items
      c.pop.new.self.items c.in-Some.node c.loop-node.number c.loop-node.invariant.path c.in-Some.ensures.items c.add.new.self c.in_ok-number.number c.in_ok-number.ensures.list;
  search = c.in_ok-number.ensures.search;
  kept = extends_trans c.args.self.now c.loop-node.self c.add.new.self c.loop-node.invariant.kept c.in_ok-number.ensures.kept;
  room = c.in_ok-number.ensures.room;
}
