-- How a listing ends.
use Rattle.std.specs.Prelude.{◌≡◌, ℕ, ◌≤◌, List, Option, Result, Ok, Err}
use Rattle.std.specs.Io.KnownBytes.{Appends}
use Rattle.jc_base.specs.Device.{MoreFaults, WritesFront}
use Rattle.jc_list.specs.Listing.{WritesBeginning}
use Rattle.jc_list.specs.declared.list_error.ListError.{ListError}
use Rattle.jc_list.specs.declared.list_error.ListError.TheVariants as errors

-- the number of an error
abbrev pub list_code : ListError → ℕ
list_code errors.Write = 1
list_code errors.NoMemory = 2

-- only a failed write increases the output's count of failures
abbrev pub CountsWrites : {T : Type 0} → Result T ListError → ℕ → ℕ → Type 0
CountsWrites (Ok x) old new = new ≡ old
CountsWrites (Err errors.Write) old new = MoreFaults old new × (old ≤ new)
CountsWrites (Err errors.NoMemory) old new = new ≡ old

-- the text was written, or at an error a prefix of it, which is a proper prefix if the output failed
abbrev pub WritesListing : {T : Type 0} → Result T ListError → Option (List ℕ) → Option (List ℕ) → List ℕ → Type 0
WritesListing (Ok x) old new text = Appends old new text
WritesListing (Err errors.Write) old new text = WritesFront old new text
WritesListing (Err errors.NoMemory) old new text = WritesBeginning old new text
