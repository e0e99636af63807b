use Rattle.jc_text.proofs.text_writer.TextWriter.decimal.Goals as goal

pub returns : goal.returns
returns g c = rw (c.as_bytes.ensures.value, c.format.ensures.text) at c.text.ensures
