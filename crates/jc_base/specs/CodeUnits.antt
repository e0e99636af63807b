-- The code units that bytes encode, up to the first bytes that encode none. The law
-- `units_end_at_the_first_wrong_spelling` says so.
use Rattle.std.specs.Prelude.{ℕ, zero, suc, List, [], ◌∷◌, length, drop}
use Rattle.std.specs.Option.{option_map_or}
use Rattle.jc_base.specs.FirstUnit.{first_unit}

-- at most n of these units
unfoldable pub units_before_within : ℕ → List ℕ → List ℕ
units_before_within zero b = []
units_before_within (suc n) b = option_map_or (λ first. first.0 ∷ units_before_within n (drop first.1 b)) (first_unit b) []

unfoldable pub units_before : List ℕ → List ℕ
units_before b = units_before_within (length b) b
