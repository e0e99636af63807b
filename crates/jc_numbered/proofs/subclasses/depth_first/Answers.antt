use Rattle.std.proofs.Common.{◌<◌, ◌∷◌, ◌∙◌, [], ℕ, Some, length, sym, ap, subst, arith}
use Rattle.std.specs.List.{All}
use Rattle.std.proofs.lemmas.List.{length-append}
use Rattle.std.proofs.lemmas.List.Elements.{All-pop, All-push}
use Rattle.jc_numbered.proofs.lookups.SubclassLemmas.{all_some, place_below}
use Rattle.jc_numbered.proofs.subclasses.depth_first.Goals as goal

pub loop-preserved : goal.loop-preserved
loop-preserved c =
    let count = length c.args.classes.now.standing.now in
    let below = λ (v : ℕ). v < count in
    let s = c.in_ok-subclasses.subclasses in
    let is = c.in_ok-subclasses.ensures in
    let node = c.in-Some.node in
    let popped = All-pop below c.loop.stack.items c.pop.new.self.items (Some node) c.in-Some.ensures.items c.loop.invariant.stack in
    let within : node < count = popped.1 in
    let next = place_below count s.next.items node c.index.result.now is.next (let z = is.next_size in omega arith) c.index.ensures in
    let first = place_below count s.first.items node c.index-in-loop.result.now is.first (let z = is.first_size in omega arith) c.index-in-loop.ensures in
    record {
      stack = all_some count c.push_some-in-loop.new.stack.items c.push_some-in-loop-2.new.stack.items c.index-in-loop.result.now c.in_ok-push_some-3.ensures
          (all_some count c.pop.new.self.items c.push_some-in-loop.new.stack.items c.index.result.now c.in_ok-push_some-2.ensures popped.0 next) first;
      count = let a = c.loop.invariant.count in
          let b = ap length c.in_ok-push.ensures.items ∙ length-append c.loop.order.items (node ∷ []) in
          omega arith;
      order = subst (All below) (sym c.in_ok-push.ensures.items) (All-push below c.loop.order.items node c.loop.invariant.order within);
    }

pub unreachable-requires : goal.unreachable-requires
unreachable-requires c =
    let a = c.loop.invariant.count in
    let b = c.loop.order.ok in
    let d = c.loop.order.small in
    let e = c.loop-test.false in
    absurd (omega arith)
