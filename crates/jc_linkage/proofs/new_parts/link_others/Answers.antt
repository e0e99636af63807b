use Rattle.std.proofs.Common.{◌∙◌}
use Rattle.jc_linkage.specs.inside.Kept.{fresh_has, held_in, linked}
use Rattle.jc_linkage.proofs.equations.LinkTests.{undone_some}
use Rattle.jc_linkage.proofs.new_parts.link_others.Goals as goal

pub returns-in-Err-clause-err : goal.returns-in-Err-clause-err
returns-in-Err-clause-err c = λ r n d.
    c.undo_fresh.ensures r n d
    ∙ undone_some (linked r c.args.dependants.now n d) (held_in r c.args.kept.now d n) (fresh_has r c.args.fresh.now d n) (linked r c.link_fresh.new.dependants n d) (c.requires r n d) (c.in-Err.ensures.err r n d)
