-- Starts of instructions, as a mark for each offset.
use Rattle.std.specs.Prelude.{ℕ, Bool, List}
use Rattle.jc_code.specs.CodeFaults.{numbers_of}

-- the offsets that are marked
abbrev pub marked : List Bool → List ℕ
marked marks = numbers_of (λ mark. mark) 0 marks
