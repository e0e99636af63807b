use Rattle.std.proofs.Common.{ap, map}
use Rattle.std.proofs.lemmas.List.{drop_all, drop_more}
use Rattle.jc_text.proofs.Sending.{none_sent}
use Rattle.jc_report.specs.ErrorsText.{file_error, asked_lent}
use Rattle.jc_report.specs.FileRowView as lent
use Rattle.jc_list.proofs.fronts.OneBehindAnother.{all_listed, item_listed}
use Rattle.jc_report.proofs.errors_text.write_files.Goals as goal

pub loop-row-init : goal.loop-row-init
loop-row-init g c = none_sent _ _ _ _

pub loop-row-preserved : goal.loop-row-preserved
loop-row-preserved g c =
    item_listed (file_error (asked_lent c.args.asked)) c.loop-row.invariant
    (ap (map lent.row_lent) (drop_more c.args.files.now c.loop-row.row-index _ c.loop-row-test.true)) c.write_file.ensures

pub returns : goal.returns
returns g c =
    all_listed (file_error (asked_lent c.args.asked)) c.loop-row.invariant
    (ap (map lent.row_lent) (drop_all c.loop-row.row-index c.args.files.now c.loop-row-test.false))
