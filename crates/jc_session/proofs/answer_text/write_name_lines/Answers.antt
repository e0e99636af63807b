use Rattle.std.proofs.Common.{◌∙◌, ap, sym}
use Rattle.std.proofs.lemmas.List.{drop_all, drop_more}
use Rattle.jc_list.proofs.fronts.OneBehindAnother.{all_listed, item_listed}
use Rattle.jc_report.specs.ReportText.{name_line}
use Rattle.jc_text.proofs.Sending.{none_sent, sends_equal}
use Rattle.jc_session.proofs.listings.NameLines.{line_of, lines_of_names, none_of_names}
use Rattle.jc_session.proofs.answer_text.write_name_lines.Goals as goal

pub returns-then-is_empty : goal.returns-then-is_empty
returns-then-is_empty g c = sends_equal (sym (none_of_names c.args.names.now (sym c.is_empty.ensures ∙ c.if-is_empty.true))) c.text.ensures

pub loop-name-init : goal.loop-name-init
loop-name-init g c = none_sent _ _ _ _

pub loop-name-preserved : goal.loop-name-preserved
loop-name-preserved g c =
    item_listed line_of c.loop-name.invariant (drop_more c.args.names.now c.loop-name.name-index _ c.loop-name-test.true)
    (sends_equal (ap name_line (c.as_slice.ensures.value ∙ ap (λ v. v.items) c.name-item.is)) c.write_name.ensures)

pub returns : goal.returns
returns g c =
    sends_equal (sym (lines_of_names c.args.names.now (sym c.is_empty.ensures ∙ c.if-is_empty.false)))
    (all_listed line_of c.loop-name.invariant (drop_all c.loop-name.name-index c.args.names.now c.loop-name-test.false))
