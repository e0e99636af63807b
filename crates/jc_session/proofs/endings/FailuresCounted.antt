-- What counts failures of a run counts them of the program.
use Rattle.std.proofs.Common.{◌≡◌, ◌⊎◌, ℕ, Bool, Err, List, MatchOption, None, Ok, Option, Result, Some, ⊎_elim, refl, sym, subst}
use Rattle.jc_input.specs.declared.run_error.Ended.{Ended}
use Rattle.jc_input.specs.declared.run_error.RunError.{RunError}
use Rattle.jc_input.specs.declared.run_error.RunError.TheVariants as run_errors
use Rattle.jc_input.specs.RunErrors.{CountsReads, CountsWrites}
use Rattle.jc_input.specs.declared.edit.EditError.{EditError}
use Rattle.jc_input.specs.declared.edit.EditError.TheVariants as errors
use Rattle.jc_input.specs.declared.source.SourceError.{SourceError}
use Rattle.jc_input.specs.declared.source.SourceError.TheVariants as sources
use Rattle.jc_input.specs.FileEdits.{size_refusal}
use Rattle.std.specs.Io.KnownBytes.{Keeps}
use Rattle.jc_session.specs.Checks.{CheckFault, FileRefused, FileUnread, WriteFailed}
use Rattle.jc_session.specs.Checks as checks
use Rattle.jc_session.specs.Statuses.{Checks, CountsInput, CountsOutput, ProgramError, ListsAs, ListsFile, NoMemory, Outcome, Refused, Usage, fault_of, outcome_of_check}
use Rattle.jc_session.specs.Words.{Word}

pub input_counts : (e : RunError) (old new : ℕ) → CountsReads {T = Ended} (Err e) old new → CountsInput (Err (fault_of e)) old new
input_counts run_errors.Read old new counts = counts
input_counts run_errors.Write old new counts = counts
input_counts run_errors.NoMemory old new counts = counts

pub output_counts : (e : RunError) (old new : ℕ) → CountsWrites {T = Ended} (Err e) old new → CountsOutput (Err (fault_of e)) old new
output_counts run_errors.Read old new counts = counts
output_counts run_errors.Write old new counts = counts
output_counts run_errors.NoMemory old new counts = counts

-- with no run no device fails
pub input_idle : (fault : ProgramError) (n : ℕ) → (fault ≡ Usage) ⊎ (fault ≡ NoMemory) → CountsInput (Err fault) n n
input_idle fault n is = ⊎_elim (λ e. subst (λ x. CountsInput (Err x) n n) (sym e) refl) (λ e. subst (λ x. CountsInput (Err x) n n) (sym e) refl) is

pub output_idle : (fault : ProgramError) (n : ℕ) → (fault ≡ Usage) ⊎ (fault ≡ NoMemory) → CountsOutput (Err fault) n n
output_idle fault n is = ⊎_elim (λ e. subst (λ x. CountsOutput (Err x) n n) (sym e) refl) (λ e. subst (λ x. CountsOutput (Err x) n n) (sym e) refl) is

counts_of_check : (checked : Result Bool CheckFault) (n : ℕ) → CountsInput (outcome_of_check checked) n n
counts_of_check (Ok wrong) n = refl
counts_of_check (Err (FileUnread path)) n = refl
counts_of_check (Err (FileRefused e path)) n = refl
counts_of_check (Err WriteFailed) n = refl
counts_of_check (Err checks.NoMemory) n = refl

-- a check reads no input
pub input_unread : (words : List Word) (outcome : Outcome) (before now : Option (List ℕ)) (n : ℕ) → Checks words outcome before now → CountsInput outcome n n
input_unread words outcome before now n =
    ⊎_elim (λ h. subst (λ x. CountsInput x n n) (sym h.0) refl)
    (⊎_elim (λ h. subst (λ x. CountsInput x n n) (sym h.1) refl) (λ h. subst (λ x. CountsInput x n n) (sym h.8) (counts_of_check h.7 n)))

-- nor does a listing
pub input_unlisted : (path : List ℕ) (answer : Result (List ℕ) SourceError) (outcome : Outcome) (before now : Option (List ℕ)) (n : ℕ) → ListsAs path answer outcome before now → CountsInput outcome n n
input_unlisted path (Ok bytes) outcome before now n lists = sized (size_refusal bytes) lists
  where
    sized : (o : Option EditError) → MatchOption o (ListsFile bytes outcome before now) (λ _. (outcome ≡ Err (Refused errors.TooLarge path)) × Keeps before now) → CountsInput outcome n n
    sized None h = ⊎_elim (λ did. subst (λ x. CountsInput x n n) (sym did.0) refl) (⊎_elim (λ did. subst (λ x. CountsInput x n n) (sym did.0) refl) (λ did. subst (λ x. CountsInput x n n) (sym did.0) refl)) h
    sized (Some e) h = subst (λ x. CountsInput x n n) (sym h.0) refl
input_unlisted path (Err sources.Unread) outcome before now n lists = subst (λ x. CountsInput x n n) (sym lists.0) refl
input_unlisted path (Err sources.NoMemory) outcome before now n lists = subst (λ x. CountsInput x n n) (sym lists.0) refl
