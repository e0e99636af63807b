-- Prefixes that are held, each once.
use Rattle.std.proofs.Common.{◌≡◌, ℕ, zero, suc, ◌<◌, ◌≤◌, Bool, true, false, not, cond, List, [], ◌∷◌, ◌++◌, length, codes, refl, sym, ap, subst, ◌∙◌, arith, ◌⊎◌, inl, inr, ⊎_elim, length-append}
use Rattle.std.proofs.lemmas.List.Elements.{Contains-append_left, Contains-append_right, Contains-append_cases}
use Rattle.std.proofs.lemmas.List.{get_or_push, get_or_append_left, get_or_default}
use Rattle.std.proofs.lemmas.Bool.{false≢true}
use Rattle.std.specs.List.{Contains, filter}
use Rattle.jc_classes.proofs.worlds.NameTests.{same_is, same_self}
use Rattle.jc_classes.specs.Names.{Name, same_name}
use Rattle.jc_classes.specs.Numbers.{name_at, IsOnce}
use Rattle.jc_link.specs.Prefixes.{standard_prefixes, with_one, without}
use Rattle.jc_link.specs.inside.HeldPrefixes.{IsHeldOf}

pub one_is : (x y : Name) → Contains (x ∷ []) y → x ≡ y
one_is x y c = let e : c.0 ≡ 0 = omega (arith, c.1) in sym (get_or_push [] x y c.0 (sym e)) ∙ c.2

-- behind the others a name that isn't one of them
once_push : (held : List Name) (x : Name) → IsOnce held → (Contains held x → ⊥) → IsOnce (held ++ x ∷ [])
once_push held x once apart = λ i j a b e. ⊎_elim
    (λ (p : i < length held). ⊎_elim
    (λ (q : j < length held). once i j p q (sym (left i p) ∙ e ∙ left j q))
    (λ (q : length held ≡ j). absurd (apart (found i p (sym (left i p) ∙ e ∙ last j q))))
    (cases j b))
    (λ (p : length held ≡ i). ⊎_elim
    (λ (q : j < length held). absurd (apart (found j q (sym (left j q) ∙ sym e ∙ last i p))))
    (λ (q : length held ≡ j). sym p ∙ q)
    (cases j b))
    (cases i a)
  where
    left : (i : ℕ) → i < length held → name_at (held ++ x ∷ []) i ≡ name_at held i
    left i l = get_or_append_left held (x ∷ []) [] i l

    last : (i : ℕ) → length held ≡ i → name_at (held ++ x ∷ []) i ≡ x
    last i e = get_or_push held x [] i e

    found : (i : ℕ) → i < length held → name_at held i ≡ x → Contains held x
    found i l e = (i, l, get_or_default held i x [] l ∙ e)

    cases : (i : ℕ) → i < length (held ++ x ∷ []) → (i < length held) ⊎ (length held ≡ i)
    cases i l = ⊎_elim inl (λ e. inr (omega (arith, length-append held (x ∷ [])))) (under i (length held))
      where
        under : (a b : ℕ) → (a < b) ⊎ (b ≤ a)
        under a b = grind arith

pub standard_once : IsOnce standard_prefixes
standard_once = once_push (codes "java/" ∷ []) (codes "javax/") (once_push [] (codes "java/") (λ i j a b e. absurd (omega arith)) (λ c. absurd (omega (arith, c.1))))
    (λ c. let longer = ap length (one_is (codes "java/") (codes "javax/") c) in absurd (omega (arith, longer)))

pub held_none : IsHeldOf [] []
held_none = record { same = λ p. ((λ c. c), (λ c. c)); once = λ i j a b e. absurd (omega arith) }

-- ---- without one, and with one behind the others

once_head : (x : Name) (xs : List Name) → IsOnce (x ∷ xs) → Contains xs x → ⊥
once_head x xs once c =
    let same : 0 ≡ suc c.0 = once 0 (suc c.0) (omega arith) (omega (arith, c.1)) (sym (sym (get_or_default xs c.0 x [] c.1) ∙ c.2)) in
    absurd (omega (arith, same))

once_tail : (x : Name) (xs : List Name) → IsOnce (x ∷ xs) → IsOnce xs
once_tail x xs once = λ i j a b e. let same : suc i ≡ suc j = once (suc i) (suc j) (omega (arith, a)) (omega (arith, b)) e in omega (arith, same)

once_cons : (x : Name) (xs : List Name) → (Contains xs x → ⊥) → IsOnce xs → IsOnce (x ∷ xs)
once_cons x xs apart once zero zero a b e = refl
once_cons x xs apart once zero (suc j) a b e = let l : j < length xs = omega (arith, b) in absurd (apart (j, l, get_or_default xs j x [] l ∙ sym e))
once_cons x xs apart once (suc i) zero a b e = let l : i < length xs = omega (arith, a) in absurd (apart (i, l, get_or_default xs i x [] l ∙ e))
once_cons x xs apart once (suc i) (suc j) a b e = ap suc (once i j (omega (arith, a)) (omega (arith, b)) e)

kept_in : (test : Name → Bool) (xs : List Name) (y : Name) → Contains (filter test xs) y → Contains xs y
kept_in test [] y c = c
kept_in test (x ∷ xs) y c = by (test x) c (kept_in test xs y)
  where
    by : (b : Bool) → Contains (cond b (x ∷ filter test xs) (filter test xs)) y → (Contains (filter test xs) y → Contains xs y) → Contains (x ∷ xs) y
    by true c later = ⊎_elim (λ q. Contains-append_left (x ∷ []) xs y q) (λ q. Contains-append_right (x ∷ []) xs y (later q)) (Contains-append_cases (x ∷ []) (filter test xs) y c)
    by false c later = Contains-append_right (x ∷ []) xs y (later c)

once_kept : (test : Name → Bool) (xs : List Name) → IsOnce xs → IsOnce (filter test xs)
once_kept test [] once = once
once_kept test (x ∷ xs) once = by (test x) (once_kept test xs (once_tail x xs once))
  where
    by : (b : Bool) → IsOnce (filter test xs) → IsOnce (cond b (x ∷ filter test xs) (filter test xs))
    by true later = once_cons x (filter test xs) (λ c. once_head x xs once (kept_in test xs x c)) later
    by false later = later

left_out : (x : Name) (xs : List Name) → Contains (without xs x) x → ⊥
left_out x [] c = omega (arith, c.1)
left_out x (y ∷ ys) c = by (same_name y x) refl c (left_out x ys)
  where
    by : (b : Bool) → same_name y x ≡ b → Contains (cond (not b) (y ∷ without ys x) (without ys x)) x → (Contains (without ys x) x → ⊥) → ⊥
    by true e c later = later c
    by false e c later = ⊎_elim
        (λ q. let same : y ≡ x = one_is y x q in false≢true (sym e ∙ subst (λ z. same_name y z ≡ true) same (same_self y)))
        later
        (Contains-append_cases (y ∷ []) (without ys x) x c)

pub once_without : (held : List Name) (x : Name) → IsOnce held → IsOnce (without held x)
once_without held x once = once_kept (λ p. not (same_name p x)) held once

pub once_with_one : (held : List Name) (x : Name) → IsOnce held → IsOnce (with_one held x)
once_with_one held x once = once_push (without held x) x (once_without held x once) (left_out x held)

-- the others stay
others_stay : (x : Name) (xs : List Name) (y : Name) → Contains xs y → (x ≡ y) ⊎ Contains (without xs x) y
others_stay x [] y c = inr c
others_stay x (z ∷ zs) y c = by (same_name z x) refl (Contains-append_cases (z ∷ []) zs y c) (others_stay x zs y)
  where
    by : (b : Bool) → same_name z x ≡ b → Contains (z ∷ []) y ⊎ Contains zs y → (Contains zs y → (x ≡ y) ⊎ Contains (without zs x) y)
        → (x ≡ y) ⊎ Contains (cond (not b) (z ∷ without zs x) (without zs x)) y
    by true e (inl c) later = inl (sym (same_is z x e) ∙ one_is z y c)
    by true e (inr c) later = later c
    by false e (inl c) later = inr (Contains-append_left (z ∷ []) (without zs x) y c)
    by false e (inr c) later = ⊎_elim inl (λ q. inr (Contains-append_right (z ∷ []) (without zs x) y q)) (later c)

-- one more is given
pub held_more : (held given : List Name) (x : Name) → IsHeldOf held given → IsHeldOf (with_one held x) (given ++ x ∷ [])
held_more held given x h = record {
  same = λ p. (
    (λ c. ⊎_elim (λ q. Contains-append_left given (x ∷ []) p ((h.same p).0 (kept_in (λ n. not (same_name n x)) held p q))) (λ q. Contains-append_right given (x ∷ []) p q) (Contains-append_cases (without held x) (x ∷ []) p c)),
    (λ c. ⊎_elim
        (λ q. ⊎_elim (λ e. Contains-append_right (without held x) (x ∷ []) p (0, (omega arith), e)) (λ r. Contains-append_left (without held x) (x ∷ []) p r) (others_stay x held p ((h.same p).1 q)))
        (λ q. Contains-append_right (without held x) (x ∷ []) p q)
        (Contains-append_cases given (x ∷ []) p c)),
  );
  once = once_with_one held x h.once;
}
