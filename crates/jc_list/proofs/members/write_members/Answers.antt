use Rattle.std.proofs.Common.{◌≡◌, ◌∙◌, ap}
use Rattle.jc_text.proofs.Sending.{sends_equal}
use Rattle.jc_list.specs.MemberLines.{member_lines}
use Rattle.jc_list.proofs.fronts.OneBehindAnother.{all_listed, begins_equal, item_begins, item_listed, lists_front, none_listed}
use Rattle.jc_list.proofs.members.write_members.Goals as goal

pub loop-member-init : goal.loop-member-init
loop-member-init g c =
    let all : c.into_iter-member-iterator.result ≡ c.args.members = c.into_iter-member-iterator.ensures.into_iter_gives in
    record {
      class = ap (λ i. i.class) all;
      sent = none_listed _ _ _ (member_lines c.args.members.class c.args.word.now c.args.flags.now) (ap (λ i. i.left) all);
    }

pub loop-member-preserved : goal.loop-member-preserved
loop-member-preserved g c =
    let steps = c.in-Some.ensures.steps in
    let same = ap (λ k. member_lines k c.args.word.now c.args.flags.now c.in-Some.member.member) (steps.1.1 ∙ c.loop-member.invariant.class) in
    record {
      class = steps.0 ∙ c.loop-member.invariant.class;
      sent = item_listed (member_lines c.args.members.class c.args.word.now c.args.flags.now) c.loop-member.invariant.sent steps.1.0 (sends_equal same c.in_ok-write_member.ensures);
    }

pub returns-in_err-write_member : goal.returns-in_err-write_member
returns-in_err-write_member g c =
    let steps = c.in-Some.ensures.steps in
    let same = ap (λ k. member_lines k c.args.word.now c.args.flags.now c.in-Some.member.member) (steps.1.1 ∙ c.loop-member.invariant.class) in
    lists_front c.from_residual.result c.from_residual.ensures.0
    (item_begins (member_lines c.args.members.class c.args.word.now c.args.flags.now) c.loop-member.invariant.sent steps.1.0 (begins_equal _ _ same c.in_err-write_member.ensures))

pub returns : goal.returns
returns g c = all_listed (member_lines c.args.members.class c.args.word.now c.args.flags.now) c.loop-member.invariant.sent c.in-None.ensures.steps.1.0
