-- The outside prefixes.
use Rattle.std.specs.Prelude.{◌≡◌, ℕ, ◌==◌, nat_lt, nat_eq, Bool, ◌||◌, not, if◌then◌else◌, codes}
use Rattle.std.specs.Prelude.{List, [], ◌∷◌, ◌++◌, map, length, Option, Some, None}
use Rattle.std.specs.Borrow.{Bor}
use Rattle.std.specs.List.{filter, list_any, starts_with}
use Rattle.jc_classes.specs.Names.{Name, same_name}
use Rattle.jc_link.specs.declared.outside.OutsideError.{OutsideError}
use Rattle.jc_link.specs.declared.outside.OutsideError.TheVariants.{BadPrefix, NoMemory, TooManyPrefixes}

-- the outside prefixes if the user gives none
abbrev pub standard_prefixes : List (List ℕ)
standard_prefixes = codes "java/" ∷ codes "javax/" ∷ []

-- the prefix does not have 1 to 256 bytes
abbrev pub is_bad_prefix : List ℕ → Bool
is_bad_prefix prefix = length prefix == 0 || nat_lt 256 (length prefix)

-- the first error that applies to prefixes: one of them is bad, or there are more than 64
abbrev pub prefixes_fault : List (List ℕ) → Option OutsideError
prefixes_fault prefixes =
    if list_any is_bad_prefix prefixes then Some BadPrefix
    else if nat_lt 64 (length prefixes) then Some TooManyPrefixes else None

abbrev pub outside_error_code : OutsideError → ℕ
outside_error_code BadPrefix = 1
outside_error_code TooManyPrefixes = 2
outside_error_code NoMemory = 3

-- this is the first error of the borrowed prefixes
abbrev pub HasFault : List (Bor (List ℕ)) → OutsideError → Type 0
HasFault prefixes fault = prefixes_fault (map (λ p. p.now) prefixes) ≡ Some fault

-- whether the prefix is one of these
abbrev pub holds : List Name → Name → Bool
holds prefixes prefix = list_any (same_name prefix) prefixes

-- the prefixes without this one
abbrev pub without : List Name → Name → List Name
without prefixes prefix = filter (λ p. not (same_name p prefix)) prefixes

-- the prefixes with this one at the end, and at no other place
abbrev pub with_one : List Name → Name → List Name
with_one prefixes prefix = without prefixes prefix ++ prefix ∷ []

-- whether a name begins with one of the prefixes
abbrev pub is_covered : List (List ℕ) → Name → Bool
is_covered prefixes name = list_any (starts_with nat_eq name) prefixes
