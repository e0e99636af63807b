use Rattle.std.proofs.Common.{◌≡◌, ◌∷◌, [], ◌++◌, length, reverse, sym, ap, subst, ◌∙◌, arith}
use Rattle.jc_graph.specs.Seen.{unseen}
use Rattle.jc_classes.specs.Lent.{key_lent}
use Rattle.jc_classes.specs.Worlds.{fields_of}
use Rattle.jc_numbered.specs.inside.Indexed.{onward_nodes, standing_of}
use Rattle.jc_numbered.specs.inside.Shown.{indexed_of}
use Rattle.jc_resolve.specs.inside.Looking.{Going}
use Rattle.jc_graph.proofs.marked.SeenLemmas.{unseen_set}
use Rattle.jc_resolve.proofs.lookups.FieldWalk.{going_start, going_skip, going_add, going_found, going_end, none_of, no_items, popped_going, popped_less}
use Rattle.jc_classes.specs.Lent.{member_lent}
use Rattle.jc_resolve.proofs.answering.Keys.{member_keyed}
use Rattle.jc_resolve.proofs.fields.find_field.Goals as goal

pub loop-node-init : goal.loop-node-init
loop-node-init c =
    let count = length c.args.classes.now.standing.now in
    let x = indexed_of c.args.classes.now in
    let stack : c.push.new.self.items ≡ c.args.start ∷ [] = c.in_ok-push.ensures.items ∙ ap (λ s. s ++ c.args.start ∷ []) c.clear-2.ensures.items in
    subst (λ s. Going count x (key_lent c.args.key) c.args.start s c.clear.new.self.flags) (sym (ap reverse stack))
    (going_start count x c.args.classes.now.graph (key_lent c.args.key) c.args.start c.clear.new.self.flags c.requires.start c.requires.good (c.clear.ensures.size ∙ c.requires.seen) c.clear.ensures.none)

pub has-requires : goal.has-requires
has-requires c =
    let l = popped_less (length c.args.classes.now.standing.now) (indexed_of c.args.classes.now) (key_lent c.args.key) c.args.start c.loop-node.stack.items c.pop.new.self.items c.in-Some.node c.loop-node.seen.flags c.in-Some.ensures.items c.loop-node.invariant in
    let e = c.loop-node.invariant.size in
    omega (arith, l, e)

pub field-requires : goal.field-requires
field-requires c = popped_less (length c.args.classes.now.standing.now) (indexed_of c.args.classes.now) (key_lent c.args.key) c.args.start c.loop-node.stack.items c.pop.new.self.items c.in-Some.node c.loop-node.seen.flags c.in-Some.ensures.items c.loop-node.invariant

pub add-requires : goal.add-requires
add-requires c =
    let l = popped_less (length c.args.classes.now.standing.now) (indexed_of c.args.classes.now) (key_lent c.args.key) c.args.start c.loop-node.stack.items c.pop.new.self.items c.in-Some.node c.loop-node.seen.flags c.in-Some.ensures.items c.loop-node.invariant in
    let e = c.loop-node.invariant.size in
    omega (arith, l, e)

pub push_onward-requires : goal.push_onward-requires
push_onward-requires c = popped_less (length c.args.classes.now.standing.now) (indexed_of c.args.classes.now) (key_lent c.args.key) c.args.start c.loop-node.stack.items c.pop.new.self.items c.in-Some.node c.loop-node.seen.flags c.in-Some.ensures.items c.loop-node.invariant

pub returns-in-Some-field-clause-found : goal.returns-in-Some-field-clause-found
returns-in-Some-field-clause-found c =
    let count = length c.args.classes.now.standing.now in
    let x = indexed_of c.args.classes.now in
    let k = key_lent c.args.key in
    going_found count x c.args.classes.now.graph k c.args.start c.in-Some.node (member_lent c.in-Some-field.member) (reverse c.pop.new.self.items) c.loop-node.seen.flags
    (popped_going count x k c.args.start c.loop-node.stack.items c.pop.new.self.items c.in-Some.node c.loop-node.seen.flags c.in-Some.ensures.items c.loop-node.invariant) (sym c.in-Some-field.ensures)

pub loop-node-smaller-in-Continue-branch-3 : goal.loop-node-smaller-in-Continue-branch-3
loop-node-smaller-in-Continue-branch-3 c =
    let l = popped_less (length c.args.classes.now.standing.now) (indexed_of c.args.classes.now) (key_lent c.args.key) c.args.start c.loop-node.stack.items c.pop.new.self.items c.in-Some.node c.loop-node.seen.flags c.in-Some.ensures.items c.loop-node.invariant in
    let e = c.loop-node.invariant.size in
    let n = unseen_set c.loop-node.seen.flags c.in-Some.node (omega (arith, l, e)) (sym c.has.ensures ∙ c.if-not-has.true) in
    let f = ap unseen c.in_ok-add.ensures.flags in
    omega (arith, n, f, c.push_onward.new.stack.ok.0)

pub loop-node-preserved-in-Continue-branch-3 : goal.loop-node-preserved-in-Continue-branch-3
loop-node-preserved-in-Continue-branch-3 c =
    let count = length c.args.classes.now.standing.now in
    let x = indexed_of c.args.classes.now in
    let k = key_lent c.args.key in
    let next = going_add count x c.args.classes.now.graph k c.args.start c.in-Some.node (reverse c.pop.new.self.items) c.loop-node.seen.flags
    (popped_going count x k c.args.start c.loop-node.stack.items c.pop.new.self.items c.in-Some.node c.loop-node.seen.flags c.in-Some.ensures.items c.loop-node.invariant) (none_of member_lent _ c.field.result c.field.ensures c.in_default-field.not-Some) in
    subst (λ s. Going count x k c.args.start s c.add.new.self.flags) (sym c.in_ok-push_onward.ensures)
    (subst (λ f. Going count x k c.args.start (onward_nodes x c.in-Some.node ++ reverse c.pop.new.self.items) f) (sym c.in_ok-add.ensures.flags) next)

pub loop-node-preserved : goal.loop-node-preserved
loop-node-preserved c =
    let count = length c.args.classes.now.standing.now in
    let x = indexed_of c.args.classes.now in
    let k = key_lent c.args.key in
    going_skip count x c.args.classes.now.graph k c.args.start c.in-Some.node (reverse c.pop.new.self.items) c.loop-node.seen.flags
    (popped_going count x k c.args.start c.loop-node.stack.items c.pop.new.self.items c.in-Some.node c.loop-node.seen.flags c.in-Some.ensures.items c.loop-node.invariant) (sym c.has.ensures ∙ c.if-not-has.false)

pub returns-clause-found : goal.returns-clause-found
returns-clause-found c =
    let count = length c.args.classes.now.standing.now in
    let x = indexed_of c.args.classes.now in
    let k = key_lent c.args.key in
    going_end count x c.args.classes.now.graph k c.args.start c.loop-node.seen.flags
    (subst (λ s. Going count x k c.args.start s c.loop-node.seen.flags) (ap reverse (no_items c.loop-node.stack.items (omega (arith, c.in_default.ensures.cases.0, c.loop-node.stack.ok.0)))) c.loop-node.invariant)

pub returns-in-Some-field-clause-within : goal.returns-in-Some-field-clause-within
returns-in-Some-field-clause-within c = popped_less (length c.args.classes.now.standing.now) (indexed_of c.args.classes.now) (key_lent c.args.key) c.args.start c.loop-node.stack.items c.pop.new.self.items c.in-Some.node c.loop-node.seen.flags c.in-Some.ensures.items c.loop-node.invariant

pub returns-in-Some-field-clause-seen : goal.returns-in-Some-field-clause-seen
returns-in-Some-field-clause-seen c = c.loop-node.invariant.size

pub returns-clause-seen : goal.returns-clause-seen
returns-clause-seen c = c.loop-node.invariant.size

pub returns-in-Some-field-clause-keyed : goal.returns-in-Some-field-clause-keyed
returns-in-Some-field-clause-keyed c = member_keyed (fields_of (standing_of (indexed_of c.args.classes.now) c.in-Some.node)) (key_lent c.args.key) (member_lent c.in-Some-field.member) (sym c.in-Some-field.ensures)
