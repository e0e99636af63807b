use Rattle.std.proofs.Common.{◌∙◌, ap}
use Rattle.jc_numbered.specs.inside.Indexed.{indexed_name}
use Rattle.jc_numbered.specs.inside.Shown.{indexed_of}
use Rattle.jc_resolve.specs.inside.Entries.{entry_shown}
use Rattle.jc_resolve.specs.inside.Naming.{name_told}
use Rattle.jc_resolve.proofs.answering.Entries.{with_told, without_told}
use Rattle.jc_resolve.proofs.answer_list.Naming.entry.Goals as goal

pub returns-in_ok-number-in-Some-clause-named : goal.returns-in_ok-number-in-Some-clause-named
returns-in_ok-number-in-Some-clause-named c = λ r more named begins.
    let name = indexed_name (indexed_of c.args.classes.now) in
    ap (entry_shown (name_told more r) r) c.with_number.ensures
    ∙ with_told (name_told more r) name r c.args.entry c.in_ok-number-in-Some.number c.in-Some.node c.in-Some.ensures (c.in_ok-number-in-Some.ensures.number r named more begins)

pub returns-in-None-clause-named : goal.returns-in-None-clause-named
returns-in-None-clause-named c = λ r more named begins.
    ap (entry_shown (name_told more r) r) c.with_number-in-None.ensures
    ∙ without_told (name_told more r) (indexed_name (indexed_of c.args.classes.now)) r c.args.entry 0 c.in-None.ensures
