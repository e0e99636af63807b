-- Texts behind one another, grouped from the left as `++` groups them.
use Rattle.std.proofs.Common.{◌≡◌, ℕ, List, [], Option}
use Rattle.jc_text.specs.declared.text_writer.TextWriter.{TextWriter}
use Rattle.jc_text.proofs.Sending.{HasSent, sends_nothing}

-- nothing was handed over yet
pub all_left : {W : Type 0} {written : W → Option (List ℕ)} {failures : W → ℕ} {start : TextWriter W} {text left : List ℕ} → text ≡ left
    → HasSent written failures start start text left
all_left {written = written} {failures = failures} {start = start} same = record {
  done = [];
  sends = sends_nothing written failures start;
  split = same;
}
