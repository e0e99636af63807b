-- A text behind the name of its class.
use Rattle.std.proofs.Common.{◌++◌, ℕ, List, Option, codes}
use Rattle.jc_text.proofs.Sending.{◌⟫◌}
use Rattle.jc_text.specs.Escapes.{shown}
use Rattle.jc_text.specs.Sends.{Sends}
use Rattle.jc_text.specs.declared.text_writer.TextWriter.{TextWriter}
use Rattle.jc_classes.specs.Names.{Name}
use Rattle.jc_report.specs.ErrorsText.{of_class}

pub told_behind : {W : Type 0} {written : W → Option (List ℕ)} {failures : W → ℕ} {a b c : TextWriter W} (name : Name) (text : List ℕ)
    → Sends written failures a b (shown name ++ codes ": ") → Sends written failures b c text → Sends written failures a c (of_class name text)
told_behind name text front behind = front ⟫ behind
