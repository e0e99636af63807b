-- The numbers of references by the indexes of their constants.
use Rattle.std.specs.Prelude.{◌≡◌, ℕ, ◌+◌, ◌==◌, if◌then◌else◌, List, [], ◌∷◌, Option, Some, None, drop, slice_index_or}
use Rattle.jc_classes.specs.Facts.{Reference}

-- the number of the first of these references with this index; the references are numbered from `number`
abbrev pub number_from : ℕ → ℕ → List Reference → Option ℕ
number_from number index [] = None
number_from number index (r ∷ rs) = if r.index == index then Some number else number_from (number + 1) index rs

-- the table has this number at the index, and is otherwise unchanged
abbrev pub IsPut : ℕ → Option ℕ → List (Option ℕ) → List (Option ℕ) → Type 0
IsPut index number old new = (at : ℕ)
    → slice_index_or new at None ≡ (if index == at then number else slice_index_or old at None)

-- the table has the references from `number` on
abbrev pub AreNumbersBy : List Reference → ℕ → List (Option ℕ) → Type 0
AreNumbersBy rs number table = (index : ℕ) → slice_index_or table index None ≡ number_from number index (drop number rs)
