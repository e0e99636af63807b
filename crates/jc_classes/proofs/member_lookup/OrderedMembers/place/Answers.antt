use Rattle.std.proofs.Common.{◌+◌, ◌-◌, ◌/◌, ◌<◌, ◌≤◌, length, slice_index, sym, ap, ◌∙◌, arith}
use Rattle.std.proofs.lemmas.List.{length-map}
use Rattle.std.specs.Ordering.{is_lt}
use Rattle.jc_classes.specs.Lent.{key_lent}
use Rattle.jc_classes.specs.MemberOrder.{key_cmp}
use Rattle.jc_classes.specs.inside.FactsShown.{member_shown}
use Rattle.jc_classes.specs.inside.OrderedMembers.{shown}
use Rattle.jc_classes.proofs.members.Searching.{key_shown_at, less_of, narrowed_down, narrowed_up, number_within}
use Rattle.jc_classes.proofs.member_lookup.OrderedMembers.place.Goals as goal

pub bounds-self-number : goal.bounds-self-number
bounds-self-number c =
    let members = c.args.self in
    let middle = c.loop-low.low + (c.loop-low.high - c.loop-low.low) / 2 in
    let less : middle < length members.order.now = omega (arith, c.loop-low-test.true, c.loop-low.invariant.fits) in
    omega (arith, number_within (shown members) members.order.now c.requires middle less, length-map members.members.now (member_shown members.texts.now))

pub loop-low-preserved-then-is_before : goal.loop-low-preserved-then-is_before
loop-low-preserved-then-is_before c =
    let members = c.args.self in
    let order = members.order.now in
    let middle = c.loop-low.low + (c.loop-low.high - c.loop-low.low) / 2 in
    let less : middle < c.loop-low.high = omega (arith, c.loop-low-test.true) in
    let within : slice_index order middle < length members.members.now =
    omega (arith, number_within (shown members) order c.requires middle (omega (arith, less, c.loop-low.invariant.fits)), length-map members.members.now (member_shown members.texts.now)) in
    let here = key_shown_at members.texts.now members.members.now (slice_index order middle) _ within in
    narrowed_up (shown members) order c.requires (key_lent c.args.key) c.loop-low.low c.loop-low.high middle c.loop-low.invariant less
    (less_of _ (ap (λ k. is_lt (key_cmp k (key_lent c.args.key))) here ∙ sym c.is_before.ensures ∙ c.if-is_before.true))

pub loop-low-preserved : goal.loop-low-preserved
loop-low-preserved c =
    let members = c.args.self in
    let order = members.order.now in
    let middle = c.loop-low.low + (c.loop-low.high - c.loop-low.low) / 2 in
    let less : middle < c.loop-low.high = omega (arith, c.loop-low-test.true) in
    let least : c.loop-low.low ≤ middle = omega arith in
    let within : slice_index order middle < length members.members.now =
    omega (arith, number_within (shown members) order c.requires middle (omega (arith, less, c.loop-low.invariant.fits)), length-map members.members.now (member_shown members.texts.now)) in
    let here = key_shown_at members.texts.now members.members.now (slice_index order middle) _ within in
    narrowed_down (shown members) order c.requires (key_lent c.args.key) c.loop-low.low c.loop-low.high middle c.loop-low.invariant less least
    (ap (λ k. is_lt (key_cmp k (key_lent c.args.key))) here ∙ sym c.is_before.ensures ∙ c.if-is_before.false)
