use Rattle.jc_report.proofs.errors.AllErrors.{wrong_all}
use Rattle.jc_report.proofs.errors.ErrorsTold.{errors_told}
use Rattle.jc_report.proofs.laws.errors_are_told.Goals as goal

pub returns-clause-told : goal.returns-clause-told
returns-clause-told c = λ f prefixes asked r is. errors_told f prefixes asked r is

pub returns-clause-all : goal.returns-clause-all
returns-clause-all c = wrong_all
