use Rattle.std.proofs.Common.{◌∙◌, ap}
use Rattle.jc_report.specs.ErrorsText.{is_wrong_among}
use Rattle.jc_report.proofs.errors.AllErrors.{wrong_all}
use Rattle.jc_report.proofs.report.TreeReport.wrong.Goals as goal

pub returns : goal.returns
returns c = c.wrong_among.ensures ∙ ap (λ a. is_wrong_among a c.args.self.now) c.all.ensures ∙ wrong_all c.args.self.now
