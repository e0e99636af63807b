use Rattle.std.proofs.Common.{rules}
use Rattle.jc_text.proofs.Sending.{◌⟫◌, finished}
use Rattle.jc_report.proofs.report_text.write_report.Goals as goal

pub returns : goal.returns
returns g c =
    let all = finished c.finish.result c.new-text.ensures.fresh (c.write_held.ensures ⟫ c.finish.ensures.sends) c.finish.ensures.ok c.finish.ensures.err in
    search (rules, all)
