-- Many texts in one buffer.
use Rattle.std.specs.Prelude.{◌≡◌, ℕ, zero, suc, ◌-◌, ◌≤◌, List, [], ◌∷◌, take, drop, slice_index_or}

-- the texts that end at these places; the first one begins at `from`
unfoldable pub texts_from : List ℕ → ℕ → List ℕ → List (List ℕ)
texts_from bytes from [] = []
texts_from bytes from (end ∷ ends) = take (end - from) (drop from bytes) ∷ texts_from bytes end ends

-- the places are in ascending order, and the last text ends with the buffer
abbrev pub AreEnds : ℕ → ℕ → List ℕ → Type 0
AreEnds size from [] = from ≡ size
AreEnds size from (end ∷ ends) = (from ≤ end) × AreEnds size end ends

-- where the text of a number begins
abbrev pub start_at : ℕ → List ℕ → ℕ → ℕ
start_at from ends zero = from
start_at from ends (suc number) = slice_index_or ends number 0
