use Rattle.std.proofs.Common.{◌∙◌, Some, length, sym, ap, subst}
use Rattle.jc_numbered.specs.inside.FinalSearches.{IsPath, last_of}
use Rattle.jc_numbered.specs.inside.Shown.{indexed_of}
use Rattle.jc_numbered.proofs.lookups.FinalSearchLemmas.{path_back, path_done}
use Rattle.jc_numbered.proofs.overriding.FinalSearch.enter_all.Goals as goal

pub loop-node-preserved : goal.loop-node-preserved
loop-node-preserved c =
    let x = indexed_of c.args.classes.now in
    let count = length c.args.classes.now.standing.now in
    let graph = c.args.classes.now.graph in
    let path = c.loop-node.path.items in
    let rest = c.pop.new.self.items in
    let v = c.in-Some.node in
    let above = last_of c.loop-node.self.chain.items in
    let is = c.loop-node.invariant.path in
    let ends = c.in_ok-enter.ensures.ends in
    record {
      path = subst (IsPath count x c.args.class rest) (sym ends) (path_back count x graph c.args.class path rest v above is c.in-Some.ensures.items);
      search = c.in_ok-enter.ensures.search;
      done = λ none. ends ∙ ap Some (path_done count x graph c.args.class path rest v above is c.in-Some.ensures.items none);
    }
