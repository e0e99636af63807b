-- The effect of a text writer, and of the text that is passed to it, on its output.
use Rattle.std.specs.Prelude.{◌≡◌, ℕ, ◌<◌, true, false, List, [], ◌++◌, length, take, Option}
use Rattle.std.specs.Io.KnownBytes.{Appends, Keeps}
use Rattle.jc_base.specs.Device.{MoreFaults}
use Rattle.jc_text.specs.declared.text_writer.TextWriter.{TextWriter}

-- no write has failed, and no text is pending
pub record IsFresh {W : Type 0} (writer : TextWriter W) : Type 0 where
  pub empty : writer.pending ≡ []
  pub working : writer.failed ≡ false

-- the text was passed to the writer; `written` and `failures` are the bytes and the number of failures of its output
pub data Sent {W : Type 0} (written : W → Option (List ℕ)) (failures : W → ℕ) (old new : TextWriter W)
    (text : List ℕ) : Type 0 where
  -- no write failed: a prefix of the pending text and this text was written, and the rest is pending
  Adds : old.failed ≡ false → new.failed ≡ false → (front : List ℕ) → old.pending ++ text ≡ front ++ new.pending
      → Appends (written old.out.now) (written new.out.now) front
      → failures new.out.now ≡ failures old.out.now → Sent written failures old new text
  -- a write failed, and a proper prefix of the pending text and this text was written
  Fails : old.failed ≡ false → new.failed ≡ true → (n : ℕ) → n < length (old.pending ++ text)
      → Appends (written old.out.now) (written new.out.now) (take n (old.pending ++ text))
      → MoreFaults (failures old.out.now) (failures new.out.now) → Sent written failures old new text
  -- a write had failed before, and nothing was written
  Drops : old.failed ≡ true → new.failed ≡ true → Keeps (written old.out.now) (written new.out.now)
      → failures new.out.now ≡ failures old.out.now → Sent written failures old new text

-- the text was passed to the writer as `Sent` says, and the writer still has the same output
pub record Sends {W : Type 0} (written : W → Option (List ℕ)) (failures : W → ℕ) (old new : TextWriter W)
    (text : List ℕ) : Type 0 where
  pub same_reference : new.out.ghost_name ≡ old.out.ghost_name
  pub outcome : Sent written failures old new text
