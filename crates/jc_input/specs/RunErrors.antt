-- Why a run stops: the numbers of these errors, and the failures of devices that cause them.
use Rattle.std.specs.Prelude.{◌≡◌, ℕ, ◌≤◌, Result, Ok, Err}
use Rattle.jc_base.specs.Device.{MoreFaults}
use Rattle.jc_input.specs.declared.run_error.RunError.{RunError}
use Rattle.jc_input.specs.declared.run_error.RunError.TheVariants as run_errors

-- the input's count of failures grows if a read failed, and stays otherwise
abbrev pub CountsReads : {T : Type 0} → Result T RunError → ℕ → ℕ → Type 0
CountsReads (Ok x) old new = new ≡ old
CountsReads (Err run_errors.Read) old new = MoreFaults old new × (old ≤ new)
CountsReads (Err run_errors.Write) old new = new ≡ old
CountsReads (Err run_errors.NoMemory) old new = new ≡ old

-- the output's count of failures grows if a write failed, and stays otherwise
abbrev pub CountsWrites : {T : Type 0} → Result T RunError → ℕ → ℕ → Type 0
CountsWrites (Ok x) old new = new ≡ old
CountsWrites (Err run_errors.Read) old new = new ≡ old
CountsWrites (Err run_errors.Write) old new = MoreFaults old new × (old ≤ new)
CountsWrites (Err run_errors.NoMemory) old new = new ≡ old

-- the number of an error
abbrev pub run_code : RunError → ℕ
run_code run_errors.Read = 1
run_code run_errors.Write = 2
run_code run_errors.NoMemory = 3
