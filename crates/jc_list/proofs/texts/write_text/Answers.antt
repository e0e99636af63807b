use Rattle.std.proofs.Common.{ap, sym}
use Rattle.std.specs.Option.{option_copied}
use Rattle.jc_text.proofs.Sending.{sends_equal}
use Rattle.jc_list.specs.Texts.{shown_text}
use Rattle.jc_list.proofs.texts.write_text.Goals as goal

pub returns-in-Some : goal.returns-in-Some
returns-in-Some g c = sends_equal (ap (λ text. shown_text (option_copied text)) (sym c.in-Some.is)) c.shown.ensures

pub returns-in-None : goal.returns-in-None
returns-in-None g c = sends_equal (ap (λ text. shown_text (option_copied text)) (sym c.in-None.is)) c.text.ensures
