-- The rules that are broken at each place.
use Rattle.std.specs.Prelude.{◌≡◌, ℕ, List, ◌++◌, filter, map}
use Rattle.jc_file.specs.declared.fault.FormatRule.{FormatRule}
use Rattle.jc_file.specs.declared.broken.Broken.{Broken}
use Rattle.jc_file.specs.inside.RuleSets.{has}

-- the places where a rule is broken
abbrev pub places_in : FormatRule → List Broken → List ℕ
places_in rule broken = map (λ b. b.place) (filter (λ b. has b.rules rule) broken)

-- for each rule, its places are appended
abbrev pub AddsPlaces : (FormatRule → List ℕ) → (old new : List Broken) → Type 0
AddsPlaces places old new = (rule : FormatRule) → places_in rule new ≡ places_in rule old ++ places rule
