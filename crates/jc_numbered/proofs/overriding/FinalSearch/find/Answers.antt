use Rattle.std.proofs.Common.{length, sym}
use Rattle.jc_classes.specs.Lent.{key_lent}
use Rattle.jc_numbered.specs.inside.Shown.{indexed_of}
use Rattle.jc_numbered.proofs.lookups.OverridingLemmas.{never_final, none_overridden}
use Rattle.jc_numbered.proofs.overriding.FinalSearch.find.Goals as goal

pub returns-in-None-clause-told : goal.returns-in-None-clause-told
returns-in-None-clause-told c =
    none_overridden (length c.args.classes.now.standing.now) (indexed_of c.args.classes.now) c.args.classes.now.graph (key_lent c.args.key)
    c.args.class c.requires.class (sym c.in-None.ensures)

pub returns-then-not-contains_key-clause-told : goal.returns-then-not-contains_key-clause-told
returns-then-not-contains_key-clause-told c =
    never_final (length c.args.classes.now.standing.now) (indexed_of c.args.classes.now) c.args.classes.now.graph (key_lent c.args.key)
    c.args.class c.requires.class c.args.self.now.finals c.requires.search.finals (sym c.if-not-contains_key.ensures)
