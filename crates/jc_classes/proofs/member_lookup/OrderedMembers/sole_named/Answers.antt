use Rattle.std.proofs.Common.{◌+◌, Some, option_map, sym, ap, ◌∙◌}
use Rattle.jc_classes.specs.Lent.{member_lent}
use Rattle.jc_classes.specs.inside.Ordered.{named_there}
use Rattle.jc_classes.specs.inside.OrderedMembers.{shown}
use Rattle.jc_classes.proofs.members.Named.{alone, sole_found}
use Rattle.jc_classes.proofs.member_lookup.OrderedMembers.sole_named.Goals as goal

pub returns-in_err-member : goal.returns-in_err-member
returns-in_err-member c =
    let next = named_there (shown c.args.self) c.args.self.order.now (c.place-place.result + 1) c.args.name.now in
    ap (option_map member_lent) c.from_residual.ensures ∙ ap (λ x. alone x next) c.in_err-member.ensures
    ∙ sym (sole_found (shown c.args.self) c.args.self.order.now c.requires c.args.name.now c.place-place.result c.place-place.ensures)

pub returns-in-Some : goal.returns-in-Some
returns-in-Some c =
    let next = named_there (shown c.args.self) c.args.self.order.now (c.place-place.result + 1) c.args.name.now in
    let first = member_lent c.in_ok-member.member in
    ap (alone (Some first)) c.in-Some.ensures ∙ ap (λ x. alone x next) c.in_ok-member.ensures
    ∙ sym (sole_found (shown c.args.self) c.args.self.order.now c.requires c.args.name.now c.place-place.result c.place-place.ensures)

pub returns-in-None : goal.returns-in-None
returns-in-None c =
    let next = named_there (shown c.args.self) c.args.self.order.now (c.place-place.result + 1) c.args.name.now in
    let first = member_lent c.in_ok-member.member in
    ap (alone (Some first)) c.in-None.ensures ∙ ap (λ x. alone x next) c.in_ok-member.ensures
    ∙ sym (sole_found (shown c.args.self) c.args.self.order.now c.requires c.args.name.now c.place-place.result c.place-place.ensures)
