-- Texts that are written at once, that wait, or that are dropped.
use Rattle.std.proofs.Common.{◌≡◌, ◌++◌, ℕ, true, false, List, [], Option, OnOk, OnErr, Result, Ok, Err, refl, sym, ap, ◌∙◌, subst, ◌⊎◌, inl, inr}
use Rattle.std.proofs.lemmas.Bool.{cases_Bool}
use Rattle.std.proofs.lemmas.List.{append-nil}
use Rattle.std.proofs.KnownBytes.{Appends-nil, Keeps-refl}
use Rattle.std.specs.Result.{is_err}
use Rattle.std.specs.Io.KnownBytes.{Appends}
use Rattle.jc_base.specs.Device.{CountsFault, WritesFront}
use Rattle.jc_text.specs.declared.text_writer.TextWriter.{TextWriter}
use Rattle.jc_text.specs.Sends.{Sent, Adds, Fails, Drops, Sends}

-- what waited and the text were written together
pub outcome_of_write : {W T E : Type 0} {written : W → Option (List ℕ)} {failures : W → ℕ} {old new : TextWriter W} (text bytes : List ℕ) (r : Result T E)
    → old.failed ≡ false → new.failed ≡ is_err r → new.pending ≡ [] → bytes ≡ old.pending ++ text
    → OnOk r (Appends (written old.out.now) (written new.out.now) bytes) → OnErr r (WritesFront (written old.out.now) (written new.out.now) bytes)
    → CountsFault r (failures old.out.now) (failures new.out.now) → Sent written failures old new text
outcome_of_write text bytes (Ok x) working failed empty all ok front count =
    Adds working failed bytes (sym all ∙ sym (append-nil bytes) ∙ ap (λ l. bytes ++ l) (sym empty)) ok count
outcome_of_write {written = written} {old = old} {new = new} text bytes (Err x) working failed empty all ok front count =
    let part = subst (WritesFront (written old.out.now) (written new.out.now)) all front in
    Fails working failed part.0 part.1 part.2 count.0

-- a write had failed
pub outcome_of_none : {W : Type 0} {written : W → Option (List ℕ)} {failures : W → ℕ} {old new : TextWriter W} (text : List ℕ)
    → old.failed ≡ true → new.failed ≡ true → new.out.now ≡ old.out.now → Sent written failures old new text
outcome_of_none {written = written} {failures = failures} {old = old} text failed fails same =
    Drops failed fails (rw same (Keeps-refl (written old.out.now))) (ap failures same)

outcome_of_wait : {W : Type 0} {written : W → Option (List ℕ)} {failures : W → ℕ} {old new : TextWriter W} (text : List ℕ)
    → (old.failed ≡ true) ⊎ (old.failed ≡ false) → new.failed ≡ old.failed → new.out.now ≡ old.out.now → new.pending ≡ old.pending ++ text → Sent written failures old new text
outcome_of_wait text (inl e) same out waits = outcome_of_none text e (same ∙ e) out
outcome_of_wait {written = written} {failures = failures} {old = old} text (inr e) same out waits =
    Adds e (same ∙ e) [] (sym waits) (rw out (Appends-nil (written old.out.now))) (ap failures out)

-- the text waits behind what waited before
pub sends_waiting : {W : Type 0} (written : W → Option (List ℕ)) (failures : W → ℕ) (old : TextWriter W) (pending text : List ℕ)
    → pending ≡ old.pending ++ text → Sends written failures old (record { out = old.out; pending = pending; failed = old.failed }) text
sends_waiting written failures old pending text waits = record {
  same_reference = refl;
  outcome = outcome_of_wait text (cases_Bool old.failed) refl refl waits;
}

pub sends_unchanged : {W : Type 0} (written : W → Option (List ℕ)) (failures : W → ℕ) (old : TextWriter W) (pending : List ℕ)
    → pending ≡ old.pending → Sends written failures old (record { out = old.out; pending = pending; failed = old.failed }) []
sends_unchanged written failures old pending same = sends_waiting written failures old pending [] (same ∙ sym (append-nil old.pending))
