-- A usage error, or no memory for the arguments, performs nothing.
use Rattle.std.proofs.Common.{◌≡◌, ◌⊎◌, ℕ, List, Option, Err, ap, inl, inr, refl, ⊎_elim}
use Rattle.std.proofs.KnownBytes.{Keeps-refl}
use Rattle.jc_session.specs.declared.program_error.ProgramError.{ProgramError as LentFault}
use Rattle.jc_session.specs.Statuses.{NoMemory, Performs, Usage}
use Rattle.jc_session.specs.Words.{IsUsageError}
use Rattle.jc_session.specs.inside.LentFaults.{fault_lent}
use Rattle.jc_session.specs.inside.Requests.{FailsFor}

pub words_perform : {R : Type 0} (remaining : R → Option (List ℕ)) (words : List (List ℕ)) (fault : LentFault) (input : R) (before : Option (List ℕ))
    → FailsFor (IsUsageError words) fault → Performs remaining words (Err (fault_lent fault)) input input before before
words_perform remaining words fault input before fails =
    ⊎_elim (λ usage. inl (ap Err usage.0, usage.1, refl, Keeps-refl before)) (λ memory. inr (inl (ap Err memory, refl, Keeps-refl before))) fails

-- without the reason
pub fault_of_words : (reason : Type 0) (fault : LentFault) → FailsFor reason fault → (fault_lent fault ≡ Usage) ⊎ (fault_lent fault ≡ NoMemory)
fault_of_words reason fault fails = ⊎_elim (λ usage. inl usage.0) (λ memory. inr memory) fails
