-- Packages of names.
use Rattle.std.proofs.Common.{◌≡◌, ℕ, ◌-◌, ◌<◌, ◌≤◌, ◌==◌, Bool, true, false, cond, zero, suc, List, [], length, map, take, get_or, refl, sym, ap, ◌∙◌, arith}
use Rattle.std.proofs.lemmas.Bool.Decides.{nat_tests}
use Rattle.std.proofs.lemmas.List.{get_or-map, get_or_past, length-map, length-take-le}
use Rattle.jc_classes.specs.Names.{Name, package_of, package_to}
use Rattle.jc_numbered.specs.inside.Packages.{package_end}

eq_hit : (a b : ℕ) → a ≡ b → (a == b) ≡ true
eq_hit a b e = grind (arith, nat_tests)

eq_miss : (a b : ℕ) → (a ≡ b → ⊥) → (a == b) ≡ false
eq_miss a b e = grind (arith, nat_tests)

pub package_hit : (n : Name) (e : ℕ) → 0 < e → get_or n (e - 1) 0 ≡ 47 → package_to n e ≡ take (e - 1) n
unfolding package_to
package_hit n zero l h = absurd (omega arith)
package_hit n (suc k) l h =
    let q : suc k - 1 ≡ k = omega arith in
    ap (λ b. cond b (take k n) (package_to n k)) (eq_hit (get_or n k 0) 47 (ap (λ j. get_or n j 0) (sym q) ∙ h)) ∙ ap (λ j. take j n) (sym q)

pub package_miss : (n : Name) (e : ℕ) → 0 < e → (get_or n (e - 1) 0 ≡ 47 → ⊥) → package_to n (e - 1) ≡ package_to n e
unfolding package_to
package_miss n zero l h = absurd (omega arith)
package_miss n (suc k) l h =
    let q : suc k - 1 ≡ k = omega arith in
    ap (package_to n) q ∙ sym (ap (λ b. cond b (take k n) (package_to n k)) (eq_miss (get_or n k 0) 47 (λ f. h (ap (λ j. get_or n j 0) q ∙ f))))

pub package_none : (n : Name) → package_to n 0 ≡ []
unfolding package_to
package_none n = refl

-- a package is a front of the name
record IsFrontOf (n p : Name) : Type 0 where
  short : length p ≤ length n
  front : take (length p) n ≡ p

front_by : (n : Name) (k : ℕ) → k ≤ length n → IsFrontOf n (package_to n k) → (b : Bool) → IsFrontOf n (cond b (take k n) (package_to n k))
front_by n k l h true = let size = length-take-le k n l in record { short = omega (arith, size, l); front = ap (λ j. take j n) size }
front_by n k l h false = h

front_to : (n : Name) (e : ℕ) → e ≤ length n → IsFrontOf n (package_to n e)
unfolding package_to
front_to n zero l = record { short = omega arith; front = refl }
front_to n (suc k) l = front_by n k (omega (arith, l)) (front_to n k (omega (arith, l))) (get_or n k 0 == 47)

pub package_short : (n : Name) → length (package_of n) ≤ length n
package_short n = (front_to n (length n) (omega arith)).short

pub package_front : (n : Name) → take (length (package_of n)) n ≡ package_of n
package_front n = (front_to n (length n) (omega arith)).front

-- ---- the ends of names

module _ (names : List Name) (ends : List ℕ) (are : ends ≡ map package_end names) (node : ℕ) where
  pub end_at : (end : ℕ) → node < length ends → get_or ends node 0 ≡ end → end ≡ length (package_of (get_or names node []))
  end_at end l e =
      sym e ∙ ap (λ xs. get_or xs node 0) are ∙ get_or-map package_end names node [] 0 (omega (arith, l, ap length are, length-map names package_end))

  pub no_end : length ends ≤ node → [] ≡ package_of (get_or names node [])
  no_end l = sym (package_none []) ∙ ap package_of (sym (get_or_past names node [] (omega (arith, l, ap length are, length-map names package_end))))
