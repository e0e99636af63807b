-- Numbers in turn, and in another order.
use Rattle.std.proofs.Common.{◌≡◌, ◌<◌, ◌≤◌, ◌+◌, take, ℕ, zero, suc, List, [], ◌∷◌, ◌++◌, length, map, get_or, refl, ap, subst, arith}
use Rattle.std.proofs.lemmas.List.{length-map}
use Rattle.std.proofs.lemmas.List.Sorted.{Contains-permutation, IsPermutation-sym}
use Rattle.std.specs.List.{All, Contains}
use Rattle.std.specs.List.Sorted.{IsPermutation}
use Rattle.jc_classes.specs.Facts.{AreNumbers}
use Rattle.jc_classes.specs.declared.alike.Asked.{Asked}

-- from n on, one after another
abbrev pub AreInTurn : ℕ → List ℕ → Type 0
AreInTurn n [] = Unit {0}
AreInTurn n (x ∷ xs) = (x ≡ n) × AreInTurn (suc n) xs

pub turn_push : (n : ℕ) (xs : List ℕ) (x : ℕ) → x ≡ n + length xs → AreInTurn n xs → AreInTurn n (xs ++ x ∷ [])
turn_push n [] x e h = (omega (arith, e), tt)
turn_push n (y ∷ xs) x e h = (h.0, turn_push (suc n) xs x (omega (arith, e)) h.1)

turn_at : (n : ℕ) (xs : List ℕ) (i d : ℕ) → AreInTurn n xs → i < length xs → get_or xs i d ≡ n + i
turn_at n [] i d h l = absurd (omega arith)
turn_at n (x ∷ xs) zero d h l = omega (arith, h.0)
turn_at n (x ∷ xs) (suc i) d h l = let t = turn_at (suc n) xs i d h.1 (omega (arith, l)) in omega (arith, t)

abbrev number_of : Asked → ℕ
number_of a = a.number

map_contains : (as1 : List Asked) (a : Asked) → Contains as1 a → Contains (map number_of as1) a.number
map_contains [] a c = absurd (omega (arith, c.1))
map_contains (b ∷ as1) a (zero, l, e) = (zero, omega arith, ap number_of e)
map_contains (b ∷ as1) a (suc i, l, e) = let t = map_contains as1 a (i, omega (arith, l), e) in (suc t.0, omega (arith, t.1), t.2)

map_from : (as1 : List Asked) (n : ℕ) → Contains (map number_of as1) n → (a : Asked) × Contains as1 a × (a.number ≡ n)
map_from [] n c = absurd (omega (arith, c.1))
map_from (b ∷ as1) n (zero, l, e) = (b, (zero, omega arith, refl), e)
map_from (b ∷ as1) n (suc i, l, e) = let t = map_from as1 n (i, omega (arith, l), e) in (t.0, (suc t.1.0, omega (arith, t.1.1), t.1.2), t.2)

within_of : (count : ℕ) (xs : List ℕ) → ((n : ℕ) → Contains xs n → n < count) → All (λ n. n < count) xs
within_of count xs h = λ i d l. h (get_or xs i d) (i, l, get_or_again xs i d l)
  where
    get_or_again : (ys : List ℕ) (i d : ℕ) → i < length ys → get_or ys i (get_or ys i d) ≡ get_or ys i d
    get_or_again [] i d l = absurd (omega arith)
    get_or_again (y ∷ ys) zero d l = refl
    get_or_again (y ∷ ys) (suc i) d l = get_or_again ys i d (omega (arith, l))

pub numbers_in_turn : (count : ℕ) (numbers : List ℕ) → length numbers ≡ count → AreInTurn 0 numbers → AreNumbers count numbers
numbers_in_turn count numbers size turn = record {
  within = within_of count numbers (λ n c. let t = turn_at 0 numbers c.0 n turn c.1 in omega (arith, t, c.2, c.1, size));
  each = λ n l. let t = turn_at 0 numbers n n turn (omega (arith, l, size)) in (n, omega (arith, l, size), omega (arith, t));
}

pub numbers_sorted : (count : ℕ) (asked sorted : List Asked) → IsPermutation asked sorted → length asked ≡ count → AreInTurn 0 (map number_of asked) → AreNumbers count (map number_of sorted)
numbers_sorted count asked sorted p size turn =
    let len = length-map asked number_of in
    record {
      within = within_of count (map number_of sorted) (λ n c.
          let a = map_from sorted n c in
          let b = map_contains asked a.0 (Contains-permutation sorted asked a.0 (IsPermutation-sym asked sorted p) a.1) in
          let t = turn_at 0 (map number_of asked) b.0 (a.0.number) turn b.1 in
          omega (arith, t, a.2, b.2, b.1, len, size));
      each = λ n l.
          let t = turn_at 0 (map number_of asked) n n turn (omega (arith, l, len, size)) in
          let a = map_from asked n (n, omega (arith, l, len, size), omega (arith, t)) in
          subst (Contains (map number_of sorted)) a.2 (map_contains sorted a.0 (Contains-permutation asked sorted a.0 p a.1));
    }

pub take_all : (as1 : List Asked) (i : ℕ) → length as1 ≤ i → take i as1 ≡ as1
take_all [] zero l = refl
take_all [] (suc i) l = refl
take_all (a ∷ as1) zero l = absurd (omega arith)
take_all (a ∷ as1) (suc i) l = ap (λ z. a ∷ z) (take_all as1 i (omega (arith, l)))
