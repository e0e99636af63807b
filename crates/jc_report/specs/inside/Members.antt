-- A member that is written.
use Rattle.std.specs.Prelude.{◌≡◌, ℕ, List, Option}
use Rattle.jc_text.specs.Sends.{Sends}
use Rattle.jc_text.specs.declared.text_writer.TextWriter.{TextWriter}
use Rattle.jc_classes.specs.Facts.{Key}
use Rattle.jc_classes.specs.Names.{Name}
use Rattle.jc_report.specs.PartText.{member_text}

-- the text of the class, the name and the descriptor was written
abbrev pub SendsMember : {W : Type 0} (written : W → Option (List ℕ)) (failures : W → ℕ) (old new : TextWriter W)
    (class : Name) (name descriptor : List ℕ) → Type 0
SendsMember written failures old new class name descriptor =
    (key : Key) → key.name ≡ name → key.descriptor ≡ descriptor → Sends written failures old new (member_text class key)
