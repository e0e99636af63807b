use Rattle.std.proofs.Common.{length, sym}
use Rattle.jc_classes.specs.Lent.{member_lent}
use Rattle.jc_classes.specs.Lent.{key_lent}
use Rattle.jc_numbered.specs.inside.Indexed.{indexed_name, standing_of}
use Rattle.jc_numbered.specs.inside.Shown.{indexed_of}
use Rattle.jc_resolve.proofs.lookups.FieldWalk.{none_of}
use Rattle.jc_numbered.proofs.lookups.Chain.{super_node, super_good, super_falls}
use Rattle.jc_resolve.proofs.lookups.Chain.{leads_on, leads_found, leads_end}
use Rattle.jc_resolve.proofs.answering.Keys.{declared_keyed}
use Rattle.jc_resolve.proofs.methods.find_in_classes.Goals as goal

pub returns-in-Some-clause-found : goal.returns-in-Some-clause-found
returns-in-Some-clause-found c = leads_found (length c.args.classes.now.standing.now) (indexed_of c.args.classes.now) c.args.classes.now.graph (key_lent c.args.key) c.args.start c.loop-member.node (member_lent c.in-Some.member) c.loop-member.invariant.within c.loop-member.invariant.leads (sym c.in-Some.ensures)

pub loop-member-preserved : goal.loop-member-preserved
loop-member-preserved c =
    let x = indexed_of c.args.classes.now in
    let count = length c.args.classes.now.standing.now in
    let v = c.loop-member.node in
    let s = c.in-Some-superclass.above in
    let e = sym c.in-Some-superclass.ensures in
    record {
      within = super_node count x c.args.classes.now.graph v s e;
      good = super_good count x c.args.classes.now.graph v s c.loop-member.invariant.good e;
      leads = leads_on count x c.args.classes.now.graph (key_lent c.args.key) c.args.start v s c.loop-member.invariant.within c.loop-member.invariant.leads (none_of member_lent _ c.declared.result c.declared.ensures c.in_default.not-Some) e;
    }

pub loop-member-smaller : goal.loop-member-smaller
loop-member-smaller c = super_falls (length c.args.classes.now.standing.now) (indexed_of c.args.classes.now) c.args.classes.now.graph c.loop-member.node c.in-Some-superclass.above c.loop-member.invariant.good (sym c.in-Some-superclass.ensures)

pub returns-in-None-clause-found : goal.returns-in-None-clause-found
returns-in-None-clause-found c = leads_end (length c.args.classes.now.standing.now) (indexed_of c.args.classes.now) c.args.classes.now.graph (key_lent c.args.key) c.args.start c.loop-member.node c.loop-member.invariant.within c.loop-member.invariant.leads (none_of member_lent _ c.declared.result c.declared.ensures c.in_default.not-Some) (sym c.in-None.ensures)

pub returns-in-Some-clause-keyed : goal.returns-in-Some-clause-keyed
returns-in-Some-clause-keyed c = declared_keyed (indexed_name (indexed_of c.args.classes.now) c.loop-member.node) (standing_of (indexed_of c.args.classes.now) c.loop-member.node) (key_lent c.args.key) (member_lent c.in-Some.member) (sym c.in-Some.ensures)
