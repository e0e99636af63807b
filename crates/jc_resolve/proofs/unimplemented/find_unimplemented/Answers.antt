use Rattle.std.proofs.Common.{◌+◌, ◌++◌, ◌∷◌, [], ◌≤◌, length, map, subst, sym, take, arith}
use Rattle.std.specs.Prelude.{slice_index_or}
use Rattle.std.proofs.lemmas.List.{take_all, take_more}
use Rattle.jc_numbered.specs.inside.Indexed.{indexed_name}
use Rattle.jc_numbered.specs.inside.Shown.{indexed_of}
use Rattle.jc_classes.specs.Selection.{EachUnimplemented}
use Rattle.jc_resolve.specs.inside.Unimplemented.{ListsFor}
use Rattle.jc_resolve.proofs.lookups.ConcreteLists.{each_unimplemented, lists_for_kept, lists_for_on, lists_within}
use Rattle.jc_resolve.proofs.unimplemented.find_unimplemented.Goals as goal

pub loop-node-preserved : goal.loop-node-preserved
loop-node-preserved c =
    let x = indexed_of c.args.classes.now in
    let nodes = c.args.nodes.now in
    let n = c.loop-node.node-index in
    let v = slice_index_or nodes n 0 in
    let new = c.list_for.new.search in
    let old = c.loop-node.list_of.items in
    let i = c.in_ok-number.number in
    record {
      lists = subst (ListsFor x new (take (n + 1) nodes)) (sym c.in_ok-push.ensures.items)
          (subst (λ vs. ListsFor x new vs (old ++ i ∷ [])) (sym (take_more nodes n 0 c.loop-node-test.true))
          (lists_for_on (length c.args.classes.now.standing.now) x new (take n nodes) old v i
          (lists_for_kept (length c.args.classes.now.standing.now) x c.loop-node.search new c.in_ok-number.ensures.kept (take n nodes) old c.loop-node.invariant.lists) c.in_ok-number.ensures.list));
      search = c.in_ok-number.ensures.search;
      room = c.in_ok-number.ensures.room;
    }

pub finish-requires : goal.finish-requires
finish-requires c = lists_within (length c.args.classes.now.standing.now) (indexed_of c.args.classes.now) c.loop-node.search c.loop-node.invariant.search _ _ c.loop-node.invariant.lists

pub returns : goal.returns
returns c =
    let x = indexed_of c.args.classes.now in
    let nodes = c.args.nodes.now in
    let n = c.loop-node.node-index in
    let end : length nodes ≤ n = let q = c.loop-node-test.false in omega arith in
    let lists = subst (λ vs. ListsFor x c.loop-node.search vs c.loop-node.list_of.items) (take_all n nodes end) c.loop-node.invariant.lists in
    λ m h named. subst (EachUnimplemented m (map (indexed_name x) nodes)) (sym c.finish.ensures.2)
    (each_unimplemented (length c.args.classes.now.standing.now) x c.args.classes.now.graph c.loop-node.search c.loop-node.invariant.search c.finish.ensures.0 c.finish.ensures.1
    m h named nodes c.loop-node.list_of.items c.requires.nodes lists)
