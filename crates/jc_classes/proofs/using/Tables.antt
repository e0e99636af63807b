-- The arguments of the bootstrap methods in a table, as they are read.
use Rattle.std.proofs.Common.{◌≡◌, ◌∙◌, ℕ, suc, ◌+◌, ◌-◌, ◌<◌, ◌≤◌, List, [], ◌++◌, Option, Some, unwrap_or, ap, sym, arith}
use Rattle.std.specs.List.{flat_map}
use Rattle.std.proofs.lemmas.List.{append-nil, append_assoc}
use Rattle.jc_view.specs.Reading.{each_value}

-- what is found so far, and in what is left, is all; so it is one step on
pub found_more : {X A : Type 0} (one : List ℕ → Option (List ℕ)) (value : List ℕ → X) (f : X → List A) (count i : ℕ) (xs ys : List ℕ) (so_far new all : List A) → i < count → one xs ≡ Some ys → new ≡ so_far ++ f (value xs)
    → so_far ++ flat_map f (each_value one value (count - i) xs) ≡ all → new ++ flat_map f (each_value one value (count - (i + 1)) ys) ≡ all
unfolding each_value
found_more one value f count i xs ys so_far new all lt is_next added e =
    let k : count - i ≡ suc (count - (i + 1)) = omega arith in
    let behind : unwrap_or (one xs) [] ≡ ys = ap (λ (o : Option (List ℕ)). unwrap_or o []) is_next in
    let step : flat_map f (each_value one value (count - i) xs) ≡ f (value xs) ++ flat_map f (each_value one value (count - (i + 1)) ys) =
    ap (λ n. flat_map f (each_value one value n xs)) k
    ∙ ap (λ zs. f (value xs) ++ flat_map f (each_value one value (count - (i + 1)) zs)) behind in
    ap (λ v. v ++ flat_map f (each_value one value (count - (i + 1)) ys)) added
    ∙ append_assoc so_far (f (value xs)) (flat_map f (each_value one value (count - (i + 1)) ys))
    ∙ ap (λ v. so_far ++ v) (sym step) ∙ e

pub found_all : {X A : Type 0} (one : List ℕ → Option (List ℕ)) (value : List ℕ → X) (f : X → List A) (count i : ℕ) (xs : List ℕ) (so_far all : List A) → count ≤ i
    → so_far ++ flat_map f (each_value one value (count - i) xs) ≡ all → so_far ≡ all
unfolding each_value
found_all one value f count i xs so_far all le e =
    let k : count - i ≡ 0 = omega arith in
    sym (append-nil so_far) ∙ ap (λ n. so_far ++ flat_map f (each_value one value n xs)) (sym k) ∙ e
