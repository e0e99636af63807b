-- What an edit allocates, and the files after it is committed or undone.
use Rattle.std.specs.Prelude.{◌≡◌, ◌&&◌, ◌||◌, ℕ, Bool, true, false, List, [], Option, Some, None, ⊤, if◌then◌else◌}
use Rattle.std.specs.FinMap as map
use Rattle.jc_base.specs.Bytes.{same_bytes}
use Rattle.jc_edits.specs.declared.claimed_files.Grown.{Grown}
use Rattle.jc_report.specs.Files.{Files}
use Rattle.jc_report.specs.FileRows.{names}
use Rattle.jc_edits.specs.inside.Claims.{PathsByName, has_claim, AreClaims}
use Rattle.jc_report.specs.inside.Naming.{names_at}

-- the files, with these bytes at the path, or with none
abbrev pub put_at : Files → List ℕ → Option (List ℕ) → Files
put_at f path None = map.remove f path
put_at f path (Some bytes) = map.insert f path bytes

abbrev pub committed : Files → Grown → Files
committed f grown = put_at f grown.path.now grown.file

abbrev pub undone : Files → Grown → Files
undone f grown = if grown.is_new then map.remove f grown.path.now else f

-- the claims are those of the files and that of these bytes at the path
abbrev pub AreClaimsBesides : PathsByName → Files → List ℕ → Option (List ℕ) → Type 0
AreClaimsBesides claims f path None = AreClaims claims f
AreClaimsBesides claims f path (Some bytes) =
    (name p : List ℕ) → has_claim claims name p ≡ ((same_bytes p path && names bytes name) || names_at f p name)

-- if the path is new, it has an empty file
abbrev pub HasEmpty : Files → List ℕ → Bool → Type 0
HasEmpty f path false = ⊤
HasEmpty f path true = map.get f path ≡ Some []

abbrev pub HasPlace : Files → List ℕ → Option (List ℕ) → Type 0
HasPlace f path None = ⊤
HasPlace f path (Some bytes) = map.contains_key f path ≡ true

pub record IsGrown (claims : PathsByName) (f : Files) (grown : Grown) : Type 0 where
  pub besides : AreClaimsBesides claims f grown.path.now grown.file
  pub empty : HasEmpty f grown.path.now grown.is_new
