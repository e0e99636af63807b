use Rattle.std.proofs.Common.{ap, sym}
use Rattle.jc_classes.specs.Lent.{member_lent}
use Rattle.jc_classes.specs.Worlds.{key_of}
use Rattle.jc_text.proofs.Sending.{◌⟫◌, sends_equal}
use Rattle.jc_resolve.specs.Answers.{answer_of}
use Rattle.jc_report.specs.PartText.{answer_text}
use Rattle.std.proofs.Common.{refl}
use Rattle.jc_report.proofs.part_text.write_answer.Goals as goal

pub returns-in-ToClass : goal.returns-in-ToClass
returns-in-ToClass g c = sends_equal (ap (λ a. answer_text (answer_of a)) (sym c.in-ToClass.is)) c.write_shown.ensures

pub returns-in-ToMember : goal.returns-in-ToMember
returns-in-ToMember g c =
    let member = c.write_member.ensures (key_of (member_lent c.in-ToMember.member)) refl refl in
    sends_equal (ap (λ a. answer_text (answer_of a)) (sym c.in-ToMember.is)) (c.text.ensures ⟫ member)

pub returns-in-Outside : goal.returns-in-Outside
returns-in-Outside g c = sends_equal (ap (λ a. answer_text (answer_of a)) (sym c.in-Outside.is)) c.write_shown-in-Outside.ensures

pub returns-in-NotLoaded : goal.returns-in-NotLoaded
returns-in-NotLoaded g c = sends_equal (ap (λ a. answer_text (answer_of a)) (sym c.in-NotLoaded.is)) c.text-in-NotLoaded.ensures

pub returns-in-Error : goal.returns-in-Error
returns-in-Error g c = sends_equal (ap (λ a. answer_text (answer_of a)) (sym c.in-Error.is)) c.write_error.ensures
