use Rattle.std.proofs.Common.{◌≡◌}
use Rattle.std.specs.List.{flat_map}
use Rattle.jc_text.proofs.Sending.{HasSent}
use Rattle.jc_list.specs.MemberLines.{member_lines}
use Rattle.jc_list.proofs.members.write_members.Given as goal

-- all lines but those of the members that are left
abbrev pub invariant-loop-member : goal.invariant-loop-member
invariant-loop-member g l = record {
  class : l.member-iterator.class ≡ l.fn.members.class;
  sent : HasSent g.W.Output.written g.W.Output.failures l.fn.out l.out (flat_map (member_lines l.fn.members.class l.word l.flags) l.fn.members.left) (flat_map (member_lines l.fn.members.class l.word l.flags) l.member-iterator.left);
}
