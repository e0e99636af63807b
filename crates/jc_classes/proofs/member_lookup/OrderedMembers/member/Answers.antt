use Rattle.std.proofs.Common.{◌≡◌, ◌<◌, Some, length, rules, slice_index, slice_index_or, sym, ap, ◌∙◌, arith}
use Rattle.std.proofs.lemmas.List.{get_or-map, length-map}
use Rattle.std.proofs.lemmas.Option.{gets}
use Rattle.jc_classes.specs.inside.FactsShown.{member_shown}
use Rattle.jc_classes.specs.inside.OrderedMembers.{shown}
use Rattle.jc_classes.proofs.members.Found.{there_at}
use Rattle.jc_classes.proofs.members.Searching.{number_within}
use Rattle.jc_classes.proofs.member_lookup.OrderedMembers.member.Goals as goal

pub bounds-self-number : goal.bounds-self-number
bounds-self-number c =
    let members = c.args.self in
    let order = members.order.now in
    let less : c.args.place < length order = search rules in
    let at : slice_index order c.args.place ≡ c.in_ok-number.field-0.now = grind (arith, gets, c.in_ok-number.ensures.lookup) in
    omega (arith, number_within (shown members) order c.requires c.args.place less, length-map members.members.now (member_shown members.texts.now), at)

pub returns : goal.returns
returns c =
    let members = c.args.self in
    let order = members.order.now in
    let less : c.args.place < length order = search rules in
    let at : slice_index order c.args.place ≡ c.in_ok-number.field-0.now = grind (arith, gets, c.in_ok-number.ensures.lookup) in
    let within : slice_index order c.args.place < length members.members.now =
    omega (arith, number_within (shown members) order c.requires c.args.place less, length-map members.members.now (member_shown members.texts.now)) in
    ap Some (c.lend.ensures ∙ ap (λ n. member_shown members.texts.now (slice_index_or members.members.now n _)) (sym at) ∙ sym (get_or-map (member_shown members.texts.now) members.members.now (slice_index order c.args.place) _ _ within))
    ∙ sym (there_at (shown members) order c.requires c.args.place less)
