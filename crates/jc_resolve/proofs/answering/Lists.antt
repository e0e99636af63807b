-- Reading a list in order.
use Rattle.std.proofs.Common.{◌≡◌, ℕ, ◌≤◌, List, map, option_map, length, Option, Some, None, sym, ap, ◌∙◌, ⊎_elim}
use Rattle.std.proofs.lemmas.List.{length-map}
use Rattle.std.proofs.lemmas.Option.{slice_get_cases}
use Rattle.std.specs.List.{slice_get}

no_some : {X : Type 0} (x : X) → None ≡ Some x → ⊥
no_some x e = cc

pub past : {X : Type 0} (xs : List X) (i : ℕ) → slice_get xs i ≡ None → length xs ≤ i
past xs i e = ⊎_elim (λ p. absurd (no_some p.0 (sym e ∙ p.2))) (λ p. p.0) (slice_get_cases xs i).1

pub nodes_size : {X : Type 0} (f : ℕ → X) {Y : Type 0} (g : Y → Option X) (nodes : List (Option ℕ)) (ys : List Y) → map (option_map f) nodes ≡ map g ys → length nodes ≡ length ys
nodes_size f g nodes ys e = sym (length-map nodes (option_map f)) ∙ ap length e ∙ length-map ys g
