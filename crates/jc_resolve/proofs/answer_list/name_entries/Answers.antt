use Rattle.jc_numbered.specs.inside.Indexed.{indexed_name}
use Rattle.jc_numbered.specs.inside.Shown.{indexed_of}
use Rattle.jc_resolve.proofs.answer_list.name_entries.Goals as goal

pub name_each-requires-clause-names : goal.name_each-requires-clause-names
name_each-requires-clause-names c = c.in_ok-names.ensures (indexed_name (indexed_of c.args.classes.now))

pub name_each-requires-clause-named : goal.name_each-requires-clause-named
name_each-requires-clause-named c = c.in_ok-named.ensures.items

pub returns-clause-size : goal.returns-clause-size
returns-clause-size c = c.in_ok-name_each.ensures.size

pub returns-clause-named : goal.returns-clause-named
returns-clause-named c = c.in_ok-name_each.ensures.named
