-- The place of an index among references.
use Rattle.std.specs.Prelude.{◌≡◌, ℕ, ◌+◌, ◌≤◌, ◌==◌, Bool, true, false, nat_lt, List, Option, Some, None, slice_get, if◌then◌else◌}
use Rattle.std.specs.Option.{option_map_or}
use Rattle.jc_classes.specs.Facts.{Reference}
use Rattle.jc_classes.specs.Resolution.{Answer}

-- the reference, which is given by its number, has a lesser index
abbrev pub is_below : List Reference → (index number : ℕ) → Bool
is_below references index number = option_map_or (λ r. nat_lt r.index index) (slice_get references number) false

-- the reference before low has a lesser index, and the one at high does not
pub record IsNarrowed (references : List Reference) (index low high : ℕ) : Type 0 where
  pub ordered : low ≤ high
  pub below : (number : ℕ) → number + 1 ≡ low → is_below references index number ≡ true
  pub above : is_below references index high ≡ false

-- the answer at a number, if the reference there has the index
abbrev pub answer_there : (index : ℕ) → Option Reference → Option Answer → Option Answer
answer_there index None answer = None
answer_there index (Some r) answer = if r.index == index then answer else None
