use Rattle.jc_view.proofs.reading.Codes.{code_read_is, code_is_read}
use Rattle.jc_view.proofs.reading.AttributeTables.{exceptions_read_are, exceptions_are_read, bootstraps_read_are, bootstraps_are_read}
use Rattle.jc_view.proofs.laws.attributes_are_read.Goals as goal

pub returns : goal.returns
returns c = record {
  code = λ b k fits. (code_read_is b k fits, code_is_read b k);
  exceptions = λ b names fits. (exceptions_read_are b names fits, exceptions_are_read b names);
  bootstraps = λ b methods fits. (bootstraps_read_are b methods fits, bootstraps_are_read b methods);
}
