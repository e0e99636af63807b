use Rattle.std.proofs.Common.{length}
use Rattle.jc_numbered.specs.inside.Shown.{indexed_of}
use Rattle.jc_resolve.proofs.lookups.ListSteps.{step_list}
use Rattle.jc_resolve.proofs.lookups.SearchLemmas.{above_within, search_noted}
use Rattle.jc_resolve.proofs.unimplemented.Search.add.Goals as goal

pub extend-requires-clause-within : goal.extend-requires-clause-within
extend-requires-clause-within c = above_within (indexed_of c.args.classes.now) c.args.node c.args.self.now c.args.above c.requires.above

pub returns-clause-list : goal.returns-clause-list
returns-clause-list c = step_list (length c.args.classes.now.standing.now) (indexed_of c.args.classes.now) c.args.classes.now.graph c.args.self.now c.extend.new.self
    c.in_ok-number.ensures.kept.methods c.requires.search.methods c.args.node c.requires.node c.requires.good c.args.above c.requires.above c.in_ok-added.added.items
    c.in_ok-added.ensures.added c.in_ok-number.number c.in_ok-number.ensures.list

pub returns-clause-search : goal.returns-clause-search
returns-clause-search c = search_noted (length c.args.classes.now.standing.now) (indexed_of c.args.classes.now) c.extend.new.self c.args.node c.in_ok-number.number c.in_ok-number.ensures.search
    (step_list (length c.args.classes.now.standing.now) (indexed_of c.args.classes.now) c.args.classes.now.graph c.args.self.now c.extend.new.self
    c.in_ok-number.ensures.kept.methods c.requires.search.methods c.args.node c.requires.node c.requires.good c.args.above c.requires.above c.in_ok-added.added.items
    c.in_ok-added.ensures.added c.in_ok-number.number c.in_ok-number.ensures.list)
