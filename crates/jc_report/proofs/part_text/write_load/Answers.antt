use Rattle.std.proofs.Common.{ap, sym, ◌∙◌}
use Rattle.jc_text.proofs.Sending.{sends_equal}
use Rattle.jc_resolve.specs.Answers.{loading_of}
use Rattle.jc_report.specs.PartText.{error_text, load_text}
use Rattle.jc_report.proofs.part_text.write_load.Goals as goal

pub returns-in-Loaded : goal.returns-in-Loaded
returns-in-Loaded g c = sends_equal (ap (λ l. load_text (loading_of l)) (sym c.in-Loaded.is)) c.text.ensures

pub returns-in-Outside : goal.returns-in-Outside
returns-in-Outside g c = sends_equal (ap (λ l. load_text (loading_of l)) (sym c.in-Outside.is)) c.text-in-Outside.ensures

pub returns-in-Fails : goal.returns-in-Fails
returns-in-Fails g c =
    sends_equal (ap (error_text c.in-Fails.error) c.as_slice.ensures.value ∙ ap (λ l. load_text (loading_of l)) (sym c.in-Fails.is)) c.write_error.ensures
