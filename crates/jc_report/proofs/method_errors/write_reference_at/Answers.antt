use Rattle.std.proofs.Common.{[], ap}
use Rattle.std.specs.Option.{option_map_or}
use Rattle.jc_text.proofs.Sending.{sends_equal, sends_nothing}
use Rattle.jc_report.specs.PartText.{reference_text}
use Rattle.jc_report.proofs.method_errors.write_reference_at.Goals as goal

pub returns-in-Some : goal.returns-in-Some
returns-in-Some g c = sends_equal (ap (λ o. option_map_or reference_text o []) c.in-Some.ensures) c.write_reference.ensures

pub returns-in-None : goal.returns-in-None
returns-in-None g c = sends_equal (ap (λ o. option_map_or reference_text o []) c.in-None.ensures) (sends_nothing _ _ _)
