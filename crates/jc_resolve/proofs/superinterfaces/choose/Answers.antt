use Rattle.std.proofs.Common.{◌<◌, length, Some, None, sym, ap, subst, ◌∙◌, is_some}
use Rattle.std.proofs.lemmas.Bool.{false≢true}
use Rattle.jc_classes.specs.Lent.{key_lent, member_lent}
use Rattle.jc_graph.specs.Seen.{TellsAbove}
use Rattle.jc_numbered.specs.inside.Indexed.{standing_of}
use Rattle.jc_numbered.specs.inside.Shown.{indexed_of}
use Rattle.jc_resolve.specs.inside.Picks.{TellsPick}
use Rattle.jc_resolve.proofs.lookups.Choose.{picked, none_picked, picked_all, picked_offers}
use Rattle.jc_resolve.proofs.answering.Keys.{given_keyed}
use Rattle.jc_resolve.proofs.superinterfaces.choose.Goals as goal

pub given-requires : goal.given-requires
given-requires c = picked_all (indexed_of c.args.classes.now) (key_lent c.args.key) (λ v. v < length c.args.classes.now.standing.now) c.args.nodes.now c.see_above.new.seen.flags c.in-Some.node c.requires.nodes c.in-Some.ensures

pub returns-in-Some-given-clause-within : goal.returns-in-Some-given-clause-within
returns-in-Some-given-clause-within c = picked_all (indexed_of c.args.classes.now) (key_lent c.args.key) (λ v. v < length c.args.classes.now.standing.now) c.args.nodes.now c.see_above.new.seen.flags c.in-Some.node c.requires.nodes c.in-Some.ensures

pub returns-in-Some-given-clause-keyed : goal.returns-in-Some-given-clause-keyed
returns-in-Some-given-clause-keyed c = given_keyed (standing_of (indexed_of c.args.classes.now) c.in-Some.node) (key_lent c.args.key) (member_lent c.in-Some-given.member) (sym c.in-Some-given.ensures)

pub returns-in-Some-given-clause-chosen : goal.returns-in-Some-given-clause-chosen
returns-in-Some-given-clause-chosen c =
    let x = indexed_of c.args.classes.now in
    let k = key_lent c.args.key in
    let count = length c.args.classes.now.standing.now in
    let above = c.see_above.new.seen in
    λ start seen l s e m h. picked m count x c.args.classes.now.graph h k start l seen.flags seen.list s above.flags above.list
    (subst (λ ns. TellsAbove count x.supertypes ns above.flags above.list) e c.in_ok-see_above.ensures) c.in-Some.node (member_lent c.in-Some-given.member) (sym c.in-Some-given.ensures)
    (subst (λ ns. TellsPick x k above.flags ns (Some c.in-Some.node)) e c.in-Some.ensures)

pub returns-in-None-given-clause-chosen : goal.returns-in-None-given-clause-chosen
returns-in-None-given-clause-chosen c =
    let x = indexed_of c.args.classes.now in
    let k = key_lent c.args.key in
    let above = c.see_above.new.seen in
    λ start seen l s e m h. absurd (false≢true (ap is_some c.in-None-given.ensures ∙ picked_offers x k seen.list above.flags c.in-Some.node (subst (λ ns. TellsPick x k above.flags ns (Some c.in-Some.node)) e c.in-Some.ensures)))

pub returns-in-None-clause-chosen : goal.returns-in-None-clause-chosen
returns-in-None-clause-chosen c =
    let x = indexed_of c.args.classes.now in
    let k = key_lent c.args.key in
    let count = length c.args.classes.now.standing.now in
    let above = c.see_above.new.seen in
    λ start seen l s e m h. none_picked m count x c.args.classes.now.graph h k start l seen.flags seen.list s above.flags above.list
    (subst (λ ns. TellsAbove count x.supertypes ns above.flags above.list) e c.in_ok-see_above.ensures)
    (subst (λ ns. TellsPick x k above.flags ns None) e c.in-None.ensures)

pub returns-in-Some-given-clause-covered : goal.returns-in-Some-given-clause-covered
returns-in-Some-given-clause-covered c = c.in_ok-see_above.ensures.size

pub returns-in-None-given-clause-covered : goal.returns-in-None-given-clause-covered
returns-in-None-given-clause-covered c = c.in_ok-see_above.ensures.size

pub returns-in-None-clause-covered : goal.returns-in-None-clause-covered
returns-in-None-clause-covered c = c.in_ok-see_above.ensures.size
