use Rattle.jc_link.specs.Tables.{or_built_in}
use Rattle.jc_link.proofs.tables.Prefixed.{reach_stays}
use Rattle.jc_report.specs.Reports.{facts_at}
use Rattle.jc_edits.proofs.laws.reach_stays.Goals as goal

pub returns : goal.returns
returns c = λ f old new d n r. reach_stays (λ x. or_built_in (facts_at f x) x) old new r
