use Rattle.std.proofs.lemmas.List.{append-nil}
use Rattle.jc_text.proofs.Sending.{◌⟫◌}
use Rattle.jc_report.proofs.file_row.write_refusal_name.Goals as goal

pub returns-in-Some : goal.returns-in-Some
returns-in-Some g c = rw (c.name_and_place-place.ensures, c.in-Some.is) (c.text.ensures ⟫ c.write_place.ensures)

pub returns-in-None : goal.returns-in-None
returns-in-None g c = rw (c.name_and_place-place.ensures, c.in-None.is, append-nil) c.text.ensures
