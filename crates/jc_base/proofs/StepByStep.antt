-- What each item of a list adds, one item after the other.
use Rattle.std.proofs.Common.{◌≡◌, ◌∙◌, ℕ, ◌+◌, ◌<◌, ◌≤◌, List, ◌∷◌, ◌++◌, length, get_or, drop, ap, sym, append_assoc, append-nil, add-one}
use Rattle.std.proofs.Math.ListN.{drop_of_length-le}
use Rattle.std.proofs.Math.Seq.{drop-cons}
use Rattle.std.specs.List.{flat_map}

-- the items so far and those of what is left, one step on
pub flat_map_step : {X A : Type 0} (f : X → List A) (xs : List X) (i : ℕ) (d : X) (before after all : List A) → i < length xs → after ≡ before ++ f (get_or xs i d) → before ++ flat_map f (drop i xs) ≡ all → after ++ flat_map f (drop (i + 1) xs) ≡ all
flat_map_step f xs i d before after all h k all_is =
    let e : drop i xs ≡ get_or xs i d ∷ drop (i + 1) xs = rw add-one (drop-cons xs i d h) in
    ap (λ r. r ++ flat_map f (drop (i + 1) xs)) k
    ∙ append_assoc before (f (get_or xs i d)) (flat_map f (drop (i + 1) xs))
    ∙ ap (λ r. before ++ flat_map f r) (sym e)
    ∙ all_is

-- at the end
pub flat_map_all : {X A : Type 0} (f : X → List A) (xs : List X) (i : ℕ) (before all : List A) → length xs ≤ i → before ++ flat_map f (drop i xs) ≡ all → before ≡ all
flat_map_all f xs i before all le all_is =
    sym (append-nil before) ∙ ap (λ r. before ++ flat_map f r) (sym (drop_of_length-le xs le)) ∙ all_is
