-- The key of a row: a list of numbers. Keys have the same order as their rows.
use Rattle.std.specs.Prelude.{ℕ, ◌+◌, List, ◌∷◌, ◌++◌, map}
use Rattle.jc_report.specs.Rows.{Row, kind_number}

-- each number plus one, so that 0 is less than all of them
abbrev pub raised : List ℕ → List ℕ
raised bytes = map (λ b. b + 1) bytes

-- the class, 0, the kind, the name, 0 and the descriptor, each text raised
abbrev pub row_key : Row → List ℕ
row_key row = raised row.class ++ 0 ∷ kind_number row.kind ∷ raised row.key.name ++ 0 ∷ raised row.key.descriptor
