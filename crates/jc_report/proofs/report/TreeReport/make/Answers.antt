use Rattle.std.proofs.Common.{◌≡◌, IfOk, length, subst}
use Rattle.jc_link.specs.Meters.{counted}
use Rattle.jc_report.specs.Reports.{Report}
use Rattle.jc_report.proofs.report.TreeReport.make.Goals as goal

pub returns-clause-made : goal.returns-clause-made
returns-clause-made c =
    subst (λ count. IfOk c.over.result (λ (r : Report). c.over.new.meter.made ≡ counted count (length r.classes))) c.of.ensures.made c.over.ensures.made
