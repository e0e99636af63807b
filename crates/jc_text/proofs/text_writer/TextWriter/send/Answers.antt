use Rattle.std.proofs.Common.{◌++◌, refl, sym, ap, rules}
use Rattle.jc_text.proofs.WritesAtOnce.{outcome_of_write}
use Rattle.jc_text.proofs.text_writer.TextWriter.send.Goals as goal

pub returns-then-not-self : goal.returns-then-not-self
returns-then-not-self g c =
    let bytes = c.args.bytes.now in
    record {
      same_reference = refl;
      outcome = outcome_of_write bytes bytes c.write_all.result c.if-not-self.true c.is_err-self.ensures.value c.requires (ap (λ l. l ++ bytes) (sym c.requires))
          c.write_all.ensures.ok c.write_all.ensures.front c.write_all.ensures.failures;
    }

pub returns-else-not-self : goal.returns-else-not-self
returns-else-not-self c = search rules
