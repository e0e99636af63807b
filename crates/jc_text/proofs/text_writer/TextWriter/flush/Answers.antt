use Rattle.std.proofs.Common.{[], refl, sym, ◌∙◌}
use Rattle.std.proofs.lemmas.List.{append-nil}
use Rattle.jc_text.proofs.WritesAtOnce.{outcome_of_write}
use Rattle.jc_text.proofs.text_writer.TextWriter.flush.Goals as goal

pub returns-clause-sends : goal.returns-clause-sends
returns-clause-sends g c = record {
  same_reference = refl;
  outcome = outcome_of_write [] c.bytes.result.now c.write_all.result c.if-self.false c.is_err-self.ensures.value c.clear-2.ensures (c.bytes.ensures ∙ sym (append-nil c.args.self.now.pending))
      c.write_all.ensures.ok c.write_all.ensures.front c.write_all.ensures.failures;
}
