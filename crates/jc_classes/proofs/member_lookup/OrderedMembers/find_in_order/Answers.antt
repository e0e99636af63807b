use Rattle.std.proofs.Common.{Some, None, option_map, sym, ap, ◌∙◌}
use Rattle.std.specs.Prelude.{option_and_then}
use Rattle.std.proofs.lemmas.Bool.{cond-false, cond-true}
use Rattle.jc_classes.specs.Lent.{key_lent, member_lent}
use Rattle.jc_classes.specs.Worlds.{is_at}
use Rattle.jc_classes.specs.inside.OrderedMembers.{shown}
use Rattle.jc_classes.proofs.members.Found.{found, if_at}
use Rattle.jc_classes.proofs.member_lookup.OrderedMembers.find_in_order.Goals as goal

pub returns-in_err-member : goal.returns-in_err-member
returns-in_err-member c =
    let key = key_lent c.args.key in
    ap (option_map member_lent) c.from_residual.ensures ∙ ap (option_and_then (if_at key)) c.in_err-member.ensures
    ∙ sym (found (shown c.args.self) c.args.self.order.now c.requires key c.place.result c.place.ensures)

pub returns-then-is_at : goal.returns-then-is_at
returns-then-is_at c =
    let key = key_lent c.args.key in
    let x = member_lent c.in_ok-member.member in
    sym (cond-true (is_at key x) (Some x) None (sym c.is_at.ensures ∙ c.if-is_at.true)) ∙ ap (option_and_then (if_at key)) c.in_ok-member.ensures
    ∙ sym (found (shown c.args.self) c.args.self.order.now c.requires key c.place.result c.place.ensures)

pub returns-else-is_at : goal.returns-else-is_at
returns-else-is_at c =
    let key = key_lent c.args.key in
    let x = member_lent c.in_ok-member.member in
    sym (cond-false (is_at key x) (Some x) None (sym c.is_at.ensures ∙ c.if-is_at.false)) ∙ ap (option_and_then (if_at key)) c.in_ok-member.ensures
    ∙ sym (found (shown c.args.self) c.args.self.order.now c.requires key c.place.result c.place.ensures)
