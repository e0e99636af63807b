-- The states of devices over readers and writers of std, as contracts see them.
use Rattle.std.specs.Prelude.{ℕ, Bool}
use Rattle.std.specs.declared.io.traits.Read.{Ghosts}
use Rattle.jc_base.specs.declared.std_devices.StdInput.{StdInput}
use Rattle.jc_base.specs.declared.std_devices.StdOutput.{StdOutput}

-- the reader that `input.into_inner()` returns
abbrev pub input_reader : {R : Type 0} {g : Ghosts R} → StdInput R g → R
input_reader input = input.inner

-- the number of bytes that the input may still return
abbrev pub input_allowance : {R : Type 0} {g : Ghosts R} → StdInput R g → ℕ
input_allowance input = input.allowance

-- a read into a buffer that is not empty has returned no bytes
abbrev pub input_ended : {R : Type 0} {g : Ghosts R} → StdInput R g → Bool
input_ended input = input.ended

-- the number of reads that failed
abbrev pub input_failures : {R : Type 0} {g : Ghosts R} → StdInput R g → ℕ
input_failures input = input.failures

-- the writer that `output.into_inner()` returns
abbrev pub output_writer : {W : Type 0} → StdOutput W → W
output_writer output = output.inner

-- the number of writes that failed
abbrev pub output_failures : {W : Type 0} → StdOutput W → ℕ
output_failures output = output.failures
