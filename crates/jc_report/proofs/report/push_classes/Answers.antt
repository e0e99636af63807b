use Rattle.std.proofs.Common.{◌≡◌, ◌<◌, ◌∙◌, ◌∷◌, [], List, ap, arith, length, length-append, refl, subst, sym}
use Rattle.jc_classes.specs.Numbers.{name_at}
use Rattle.jc_classes.specs.Parts.{IsPart}
use Rattle.jc_link.specs.Meters.{counted}
use Rattle.jc_link.specs.Graphs.{ClassGraph, IsIn, names_of_classes}
use Rattle.jc_link.specs.Tables.{classes_of, world}
use Rattle.jc_link.proofs.meters.Counting.{counted_add, counted_none}
use Rattle.jc_report.specs.Reports.{Class}
use Rattle.jc_report.specs.inside.Made.{HaveParts, IsSplit}
use Rattle.jc_report.proofs.reports.ClassesOfTables.{names_made, next_of_table, no_parts, one_part, one_split}
use Rattle.jc_report.proofs.report.push_classes.Goals as goal

pub loop-facts-init : goal.loop-facts-init
loop-facts-init c =
    let left = c.into_iter-facts-iterator.ensures.into_iter_gives ∙ c.classes-facts-items.ensures in
    record {
      split = subst (λ cs. IsSplit c.args.table.now cs c.into_iter-facts-iterator.result) (sym c.requires.none) left;
      parts = λ prefixes lies. subst (HaveParts c.args.table.now prefixes) (sym c.requires.none) (no_parts c.args.table.now prefixes);
      maker = refl;
      made = counted_none c.args.meter.now.made c.args.meter.now.made_fit ∙ ap (λ (cs : List Class). counted c.args.meter.now.made (length cs)) (sym c.requires.none);
      asks = refl;
    }

pub part-requires : goal.part-requires
part-requires c =
    let made = c.loop-facts.classes.items in
    let here = next_of_table c.args.table.now made c.loop-facts.facts-iterator c.next.new.self c.in-Some.facts.now c.loop-facts.invariant.split c.in-Some.ensures.steps in
    let place : c.len.result ≡ length made = omega (arith, c.len.ensures, c.loop-facts.classes.ok.0) in
    let few : c.len.result < length (names_of_classes (classes_of c.args.table.now)) = omega (arith, place, here.0) in
    subst (λ (g : ClassGraph). c.len.result < length g.classes) (sym c.loop-facts.invariant.maker) (subst (λ ns. c.len.result < length ns) (sym c.requires.names) few)

pub loop-facts-preserved : goal.loop-facts-preserved
loop-facts-preserved c =
    let class : Class = record { facts = c.in-Some.facts.now; part = c.in_ok-part.part } in
    let before = c.loop-facts.classes.items in
    let after = c.push.new.self.items in
    let count = c.args.meter.now.made in
    let here = next_of_table c.args.table.now before c.loop-facts.facts-iterator c.next.new.self c.in-Some.facts.now c.loop-facts.invariant.split c.in-Some.ensures.steps in
    let place : c.len.result ≡ length before = omega (arith, c.len.ensures, c.loop-facts.classes.ok.0) in
    let named : name_at c.loop-facts.maker.classes c.len.result ≡ c.in-Some.facts.now.name =
    ap (λ (g : ClassGraph). name_at g.classes c.len.result) c.loop-facts.invariant.maker ∙ ap (λ ns. name_at ns c.len.result) c.requires.names
    ∙ ap (name_at (names_of_classes (classes_of c.args.table.now))) place ∙ here.1 in
    record {
      split = one_split c.args.table.now before after c.loop-facts.facts-iterator c.next.new.self c.in-Some.facts.now class c.loop-facts.invariant.split c.in-Some.ensures.steps c.in_ok-push.ensures.items refl;
      parts = λ prefixes lies.
          one_part c.args.table.now prefixes before after class (c.loop-facts.invariant.parts prefixes lies) c.in_ok-push.ensures.items
          (subst (λ n. IsPart (world c.args.table.now prefixes) n c.in_ok-part.part) named
          (c.in_ok-part.ensures.part (world c.args.table.now prefixes) (subst (IsIn (world c.args.table.now prefixes)) (sym c.loop-facts.invariant.maker) lies)));
      maker = c.part.ensures.graph ∙ c.loop-facts.invariant.maker;
      made = c.in_ok-part.ensures.made ∙ ap (λ a. counted a 1) c.loop-facts.invariant.made ∙ counted_add count (length before) 1
          ∙ ap (counted count) (sym (ap length c.in_ok-push.ensures.items ∙ length-append before (class ∷ [])));
      asks = c.part.ensures.asks ∙ c.loop-facts.invariant.asks;
    }

pub returns-clause-classes : goal.returns-clause-classes
returns-clause-classes c = λ prefixes lies.
    (subst (IsSplit c.args.table.now c.loop-facts.classes.items) c.in-None.ensures.steps.0 c.loop-facts.invariant.split, c.loop-facts.invariant.parts prefixes lies)

pub returns-clause-made : goal.returns-clause-made
returns-clause-made c = c.loop-facts.invariant.made

pub returns-clause-made_rise : goal.returns-clause-made_rise
returns-clause-made_rise c = omega (arith, c.loop-facts.invariant.made, c.args.meter.now.made_fit)

pub returns-clause-names : goal.returns-clause-names
returns-clause-names c =
    names_made c.args.table.now c.loop-facts.classes.items (subst (IsSplit c.args.table.now c.loop-facts.classes.items) c.in-None.ensures.steps.0 c.loop-facts.invariant.split)
    ∙ sym c.requires.names

pub returns-clause-graph : goal.returns-clause-graph
returns-clause-graph c = c.loop-facts.invariant.maker
