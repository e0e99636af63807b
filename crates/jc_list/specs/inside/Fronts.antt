-- A text that is sent whole, unless an allocation fails.
use Rattle.std.specs.Prelude.{ℕ, ◌≤◌, List, length, take, Option, Result, MatchResult}
use Rattle.jc_text.specs.declared.text_writer.TextWriter.{TextWriter}
use Rattle.jc_text.specs.Sends.{Sends}

-- a prefix of the text, or all of it, was sent
abbrev pub SendsBeginning : {W : Type 0} → (W → Option (List ℕ)) → (W → ℕ) → TextWriter W → TextWriter W
    → List ℕ → Type 0
SendsBeginning written failures old new text = (n : ℕ) × (n ≤ length text) × Sends written failures old new (take n text)

-- the whole text is sent at `Ok`, and a prefix at `Err`
abbrev pub Lists : {W T E : Type 0} → (W → Option (List ℕ)) → (W → ℕ) → Result T E → TextWriter W → TextWriter W
    → List ℕ → Type 0
Lists written failures result old new text =
    MatchResult result (λ _. Sends written failures old new text) (λ _. SendsBeginning written failures old new text)
