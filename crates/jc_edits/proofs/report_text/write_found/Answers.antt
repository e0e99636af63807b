use Rattle.std.proofs.Common.{ap, sym}
use Rattle.jc_text.proofs.Sending.{sends_equal}
use Rattle.jc_edits.specs.inside.Reporting.{found_text}
use Rattle.jc_edits.proofs.report_text.write_found.Goals as goal

pub returns-in-Some : goal.returns-in-Some
returns-in-Some g c = sends_equal (ap found_text (sym c.in-Some.is)) c.write_part.ensures

pub returns-in-None : goal.returns-in-None
returns-in-None g c = sends_equal (ap found_text (sym c.in-None.is)) c.text.ensures
