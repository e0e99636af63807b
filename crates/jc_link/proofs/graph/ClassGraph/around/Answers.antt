use Rattle.std.proofs.Common.{◌++◌, ◌∙◌, []}
use Rattle.std.specs.Option.{option_copied, option_to_list}
use Rattle.jc_classes.specs.Names.{names_of}
use Rattle.jc_classes.specs.Numbers.{AddsNumbers}
use Rattle.jc_classes.proofs.numbering.NumberLemmas.{adds_more}
use Rattle.jc_link.proofs.graphs.ClassesNumbered.{none_once, only_classes}
use Rattle.jc_link.proofs.graph.ClassGraph.around.Goals as goal

pub number_names-requires : goal.number_names-requires
number_names-requires c = none_once c.new-numbers.result c.new-numbers.ensures

pub number_some-requires-clause-once : goal.number_some-requires-clause-once
number_some-requires-clause-once c = c.in_ok-classes.ensures.grows.once

pub number_some-requires-clause-direct : goal.number_some-requires-clause-direct
number_some-requires-clause-direct c = c.in_ok-classes.ensures.nodes

pub gather_graph-requires : goal.gather_graph-requires
gather_graph-requires c =
    let xs = names_of c.args.names.now in
    let ys = option_to_list (option_copied c.args.more) in
    let n0 = c.new-numbers.result in
    let n1 = c.number_names.new.numbers in
    let n2 = c.number_some.new.numbers in
    let r = c.in_ok-classes.classes.items in
    let s = c.number_some.new.direct.items in
    only_classes n0 n2 (xs ++ ys) s c.new-numbers.ensures (adds_more n0 n1 n2 [] r s xs ys c.in_ok-classes.ensures c.in_ok-number_some.ensures)

pub returns-clause-classes : goal.returns-clause-classes
returns-clause-classes c =
    let xs = names_of c.args.names.now in
    let ys = option_to_list (option_copied c.args.more) in
    let n0 = c.new-numbers.result in
    let n1 = c.number_names.new.numbers in
    let n2 = c.number_some.new.numbers in
    let r = c.in_ok-classes.classes.items in
    let s = c.number_some.new.direct.items in
    let both : AddsNumbers n0 [] n2 s (xs ++ ys) = adds_more n0 n1 n2 [] r s xs ys c.in_ok-classes.ensures c.in_ok-number_some.ensures in
    c.in_ok-graph.ensures.classes ∙ both.named
