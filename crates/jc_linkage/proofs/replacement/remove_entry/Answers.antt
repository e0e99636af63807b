use Rattle.std.proofs.Common.{Some, None, sym, ◌∙◌}
use Rattle.jc_linkage.proofs.equations.LinkTests.{none_out, same_out}
use Rattle.jc_linkage.proofs.held.KeptMaps.{held_at}
use Rattle.jc_linkage.proofs.replacement.remove_entry.Goals as goal

pub returns-in-Some-clause-linked : goal.returns-in-Some-clause-linked
returns-in-Some-clause-linked c = λ r n d.
    c.unlink.ensures r n d ∙ same_out _ _ _ _ (held_at r c.args.kept.now c.args.name.now (Some c.in-Some.gone) d n (sym c.in-Some.ensures.before))

pub returns-in_default-clause-linked : goal.returns-in_default-clause-linked
returns-in_default-clause-linked c = λ r n d.
    none_out _ _ _ (held_at r c.args.kept.now c.args.name.now None d n (sym c.remove.ensures.before ∙ c.in_default.is))
