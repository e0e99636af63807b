use Rattle.std.proofs.Common.{◌∙◌, sym}
use Rattle.jc_text.proofs.Sending.{◌⟫◌, sends_equal}
use Rattle.jc_list.proofs.fronts.OneBehindAnother.{begins_nothing, lists_front, sends_from, sends_to}
use Rattle.jc_list.proofs.told.AttributeTexts.{bad_shown, good_shown, none_shown}
use Rattle.jc_list.proofs.attributes.write_signature.Goals.{then-not-branch, else-not-branch}
use Rattle.jc_list.proofs.attributes.write_signature.Goals as goal

pub returns-in_default : goal.returns-in_default
returns-in_default g c = sends_equal (none_shown c.args.kind c.args.text c.in_default.is) c.text.ensures

pub returns-in_err-check_signature : goal.returns-in_err-check_signature
returns-in_err-check_signature g c = lists_front c.from_residual.result c.from_residual.ensures.0 (begins_nothing _ _ _ _)

pub returns : goal.returns
returns g c =
    elim c.if-not-branch.branch [
      | then-not-branch w ↦
          sends_equal (bad_shown c.args.kind c.args.text c.in-Some.text c.in-Some.is (sym c.in_ok-check_signature.ensures.test ∙ w.if-not-branch.true)) (sends_to w.out-is w.text-then-not-branch.ensures ⟫ c.shown.ensures)
      | else-not-branch w ↦
          sends_equal (good_shown c.args.kind c.args.text c.in-Some.text c.in-Some.is (sym c.in_ok-check_signature.ensures.test ∙ w.if-not-branch.false)) (sends_from w.out-is c.shown.ensures)
    ]
