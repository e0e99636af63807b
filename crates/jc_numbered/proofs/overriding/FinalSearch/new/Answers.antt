use Rattle.std.proofs.Common.{length}
use Rattle.jc_numbered.specs.inside.Shown.{indexed_of}
use Rattle.jc_numbered.proofs.lookups.FinalSearchLemmas.{no_search}
use Rattle.jc_numbered.proofs.overriding.FinalSearch.new.Goals as goal

pub returns : goal.returns
returns c =
    no_search (length c.args.classes.now.standing.now) (indexed_of c.args.classes.now) _ c.in_ok-find_finals.ensures c.new.ensures.items c.new-2.ensures
