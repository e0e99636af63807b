use Rattle.std.proofs.Common.{rules}
use Rattle.jc_text.proofs.Sending.{◌⟫◌, finished}
use Rattle.jc_edits.specs.inside.Reporting.{found_text}
use Rattle.jc_edits.proofs.reporting.FoundText.{says_found}
use Rattle.jc_edits.proofs.report_text.write_part_of.Goals as goal

pub returns-in-Ok-clause-text : goal.returns-in-Ok-clause-text
returns-in-Ok-clause-text g c =
    let all = finished c.finish.result c.new-text.ensures.fresh (c.write_found.ensures ⟫ c.finish.ensures.sends) c.finish.ensures.ok c.finish.ensures.err in
    (found_text c.class.result, says_found c.args.report.now.files c.args.report.now.prefixes c.args.name.now c.class.result c.class.ensures.facts c.class.ensures.part, search (rules, all), tt)

pub returns-in-Err-clause-text : goal.returns-in-Err-clause-text
returns-in-Err-clause-text g c =
    let all = finished c.finish.result c.new-text.ensures.fresh (c.write_found.ensures ⟫ c.finish.ensures.sends) c.finish.ensures.ok c.finish.ensures.err in
    (found_text c.class.result, says_found c.args.report.now.files c.args.report.now.prefixes c.args.name.now c.class.result c.class.ensures.facts c.class.ensures.part, tt, search (rules, all))
