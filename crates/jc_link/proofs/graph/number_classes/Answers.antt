use Rattle.std.proofs.Common.{◌∙◌, ◌∷◌, [], subst}
use Rattle.jc_classes.specs.Names.{Name}
use Rattle.jc_classes.specs.Numbers.{AddsNumbers}
use Rattle.jc_link.specs.Tables.{classes_of}
use Rattle.jc_link.proofs.graphs.ClassesNumbered.{all_numbered, none_numbered, one_numbered}
use Rattle.jc_link.proofs.graph.number_classes.Goals as goal

pub loop-facts-init : goal.loop-facts-init
loop-facts-init c =
    none_numbered (classes_of c.args.table.now) _ c.args.numbers.now _ c.requires c.new-classes.ensures.items (c.into_iter-facts-iterator.ensures.into_iter_gives ∙ c.classes-facts-items.ensures)

pub number_into-requires : goal.number_into-requires
number_into-requires c = c.loop-facts.invariant.adds.nodes

pub loop-facts-preserved : goal.loop-facts-preserved
loop-facts-preserved c =
    let a = c.loop-facts.numbers in
    let b = c.number_into.new.self in
    let r = c.loop-facts.classes.items in
    let s = c.number_into.new.list.items in
    let x = c.in-Some.facts.now in
    let adds = subst (λ (n : Name). AddsNumbers a r b s (n ∷ [])) c.name.ensures c.in_ok-number_into.ensures.adds in
    one_numbered (classes_of c.args.table.now) c.loop-facts.facts-iterator c.next.new.self x c.args.numbers.now a b r s c.loop-facts.invariant c.in-Some.ensures.steps adds

pub returns : goal.returns
returns c = all_numbered (classes_of c.args.table.now) c.loop-facts.facts-iterator c.args.numbers.now c.loop-facts.numbers c.loop-facts.classes.items c.loop-facts.invariant c.in-None.ensures.steps.0
