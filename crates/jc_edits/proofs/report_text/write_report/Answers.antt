use Rattle.std.proofs.Common.{rules}
use Rattle.jc_text.proofs.Sending.{◌⟫◌, finished}
use Rattle.jc_edits.proofs.report_text.write_report.Goals as goal

pub returns-in-Ok-clause-text : goal.returns-in-Ok-clause-text
returns-in-Ok-clause-text g c =
    let sent = c.write_held.ensures in
    let all = finished c.finish.result c.new-text.ensures.fresh (sent.2 ⟫ c.finish.ensures.sends) c.finish.ensures.ok c.finish.ensures.err in
    (sent.0, sent.1, search (rules, all), tt)

pub returns-in-Err-clause-text : goal.returns-in-Err-clause-text
returns-in-Err-clause-text g c =
    let sent = c.write_held.ensures in
    let all = finished c.finish.result c.new-text.ensures.fresh (sent.2 ⟫ c.finish.ensures.sends) c.finish.ensures.ok c.finish.ensures.err in
    (sent.0, sent.1, tt, search (rules, all))
