-- The word that stands first.
use Rattle.std.proofs.Common.{◌≡◌, ◌≤◌, ◌∷◌, Bor, List, [], ap, arith, length, map, slice_index_or, ℕ}
use Rattle.jc_session.specs.Statuses.{NamesCommand}

pub names_command : (words : List (Bor (List ℕ))) (d : Bor (List ℕ)) (command : List ℕ) → 1 ≤ length words → (slice_index_or words 0 d).now ≡ command → NamesCommand command (map (λ word. word.now) words)
names_command [] d command some first = absurd (omega arith)
names_command (word ∷ words) d command some first = (map (λ w. w.now) words, ap (λ c. c ∷ map (λ w. w.now) words) first)
