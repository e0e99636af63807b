use Rattle.std.proofs.Common.{◌≡◌, ◌<◌, ◌≤◌, ◌+◌, ◌∷◌, [], length, sym, ap, subst, ◌∙◌, arith, length-append, refl}
use Rattle.std.proofs.lemmas.List.{length-map}
use Rattle.jc_classes.specs.Lent.{stands_of}
use Rattle.jc_classes.specs.Numbers.{name_at}
use Rattle.jc_link.specs.Meters.{counted}
use Rattle.jc_link.specs.Tables.{world}
use Rattle.jc_link.proofs.meters.Counting.{counted_add}
use Rattle.jc_link.specs.inside.Gathering.{supertypes_in, stands_in}
use Rattle.jc_link.proofs.graphs.ClassesNumbered.{kept_all, kept_by_growth}
use Rattle.jc_link.proofs.graphs.Reaching.{reached_up}
use Rattle.jc_link.proofs.reaches.Gathered.{asked_add, asked_as}
use Rattle.jc_link.proofs.reaches.Weights.{left_less, told_by}
use Rattle.jc_link.proofs.reached.ask_all.Goals as goal

pub loop-alloc-init : goal.loop-alloc-init
loop-alloc-init c = record {
  asked = c.requires;
  kept = kept_all c.args.numbers.now;
  reached = λ classes all. all;
  asks = λ count is. is;
  asks_rise = omega arith;
  made = refl;
}

pub loop-alloc-preserved : goal.loop-alloc-preserved
loop-alloc-preserved c =
    let m = world c.args.table.now c.args.outside.now in
    let ns = c.loop-alloc.numbers in
    let ns2 = c.push.new.numbers in
    let st = stands_in c.loop-alloc.reached.standing.items in
    let rs = supertypes_in c.loop-alloc.reached.supertypes.items in
    let o = stands_of c.stand_at-next.result in
    let size = length-map c.loop-alloc.reached.standing.items stands_of in
    let at : c.len-in-loop-alloc-2.result ≡ length st = omega (arith, c.len-in-loop-alloc-2.ensures, c.loop-alloc.reached.standing.ok.0) in
    let less : length st < length ns = omega (arith, c.loop-alloc-test.true, c.len.ensures, c.len-in-loop-alloc.ensures, c.loop-alloc.reached.standing.ok.0) in
    let is : o ≡ m (name_at ns (length st)) = c.stand_at-next.ensures.stands ∙ ap m (c.name.ensures ∙ ap (name_at ns) at) in
    let e = c.in_ok-push.ensures in
    let grows = e.numbered.grows in
    record {
      asked = asked_as m ns2 _ _ _ _ e.stands_more e.supertypes_more (asked_add m ns ns2 st rs o e.direct c.loop-alloc.invariant.asked less is e.numbered);
      kept = kept_by_growth c.args.numbers.now ns ns2 _ c.loop-alloc.invariant.kept grows;
      reached = λ classes all. reached_up m classes ns ns2 (length st) o less is (c.loop-alloc.invariant.reached classes all) grows;
      asks = λ count before. c.stand_at-next.ensures.asks ∙ ap (λ a. counted a 1) (c.loop-alloc.invariant.asks count before)
          ∙ counted_add count (length st) 1 ∙ ap (counted count) (sym (ap length e.stands_more ∙ length-append st (o ∷ [])));
      asks_rise = omega (arith, c.stand_at-next.ensures.asks, c.loop-alloc.invariant.asks_rise, c.loop-alloc.meter.asks_fit);
      made = c.stand_at-next.ensures.made ∙ c.loop-alloc.invariant.made;
    }

pub loop-alloc-smaller : goal.loop-alloc-smaller
loop-alloc-smaller c =
    let t = c.args.table.now in
    let ps = c.args.outside.now in
    let m = world t ps in
    let ns = c.loop-alloc.numbers in
    let ns2 = c.push.new.numbers in
    let st = stands_in c.loop-alloc.reached.standing.items in
    let o = stands_of c.stand_at-next.result in
    let size = length-map c.loop-alloc.reached.standing.items stands_of in
    let at : c.len-in-loop-alloc-2.result ≡ length st = omega (arith, c.len-in-loop-alloc-2.ensures, c.loop-alloc.reached.standing.ok.0) in
    let less : length st < length ns = omega (arith, c.loop-alloc-test.true, c.len.ensures, c.len-in-loop-alloc.ensures, c.loop-alloc.reached.standing.ok.0) in
    let is : o ≡ m (name_at ns (length st)) = c.stand_at-next.ensures.stands ∙ ap m (c.name.ensures ∙ ap (name_at ns) at) in
    let e = c.in_ok-push.ensures in
    let next : length (stands_in c.push.new.self.standing.items) ≡ length st + 1 = ap length e.stands_more ∙ length-append st (o ∷ []) in
    let grows = e.numbered.grows in
    let few : length ns2 ≤ length ns + told_by (m (name_at ns (length st))) = subst (λ z. length ns2 ≤ length ns + told_by z) is (omega (arith, grows.few)) in
    left_less t ps ns ns2 (length st) _ c.loop-alloc.invariant.asked.once less next grows.longer grows.same few

pub push-requires : goal.push-requires
push-requires c = c.loop-alloc.invariant.asked.once

pub returns-clause-whole : goal.returns-clause-whole
returns-clause-whole c =
    omega (arith, c.loop-alloc-test.false, c.len.ensures, c.len-in-loop-alloc.ensures, c.loop-alloc.reached.standing.ok.0, length-map c.loop-alloc.reached.standing.items stands_of)

pub returns-clause-asked : goal.returns-clause-asked
returns-clause-asked c = c.loop-alloc.invariant.asked

pub returns-clause-kept : goal.returns-clause-kept
returns-clause-kept c = c.loop-alloc.invariant.kept

pub returns-clause-reached : goal.returns-clause-reached
returns-clause-reached c = c.loop-alloc.invariant.reached

pub returns-clause-asks : goal.returns-clause-asks
returns-clause-asks c = c.loop-alloc.invariant.asks
