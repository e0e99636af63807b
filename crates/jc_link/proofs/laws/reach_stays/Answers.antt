use Rattle.jc_link.specs.Tables.{class_found}
use Rattle.jc_link.proofs.tables.Prefixed.{reach_stays}
use Rattle.jc_link.proofs.laws.reach_stays.Goals as goal

pub returns : goal.returns
returns c = λ places old new d n r. reach_stays (class_found places) old new r
