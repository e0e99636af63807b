-- Different slots have different bytes.
use Rattle.std.proofs.Common.{◌≡◌, ℕ, Bool, true, false, cond, List, [], ◌∷◌, ◌++◌, Option, Some, None, refl, sym, ap, subst, ◌∙◌, ◌⊎◌, ⊎_elim}
use Rattle.std.specs.Prelude.{◌==◌}
use Rattle.std.specs.List.{flat_map}
use Rattle.std.proofs.lemmas.Bool.{cases_Bool, false≢true}
use Rattle.std.proofs.lemmas.Bool.Decides.{Decides-eqb}
use Rattle.jc_classes.specs.Facts.{Key}
use Rattle.jc_classes.specs.Names.{Name}
use Rattle.jc_numbered.specs.inside.Slots.{Slot, ended, escaped, key_name, name_in, slot_name}

first_same : {a b : ℕ} {xs ys : List ℕ} → a ∷ xs ≡ b ∷ ys → a ≡ b
first_same e = cc

rest_same : {a b : ℕ} {xs ys : List ℕ} → a ∷ xs ≡ b ∷ ys → xs ≡ ys
rest_same e = cc

-- a text with its end, and what follows
abbrev runs : (text after : List ℕ) → List ℕ
runs [] r = 0 ∷ 0 ∷ r
runs (x ∷ a) r = cond (x == 0) (0 ∷ 1 ∷ runs a r) (x ∷ runs a r)

ended_runs : (a r : List ℕ) → ended a ++ r ≡ runs a r
ended_runs [] r = refl
ended_runs (x ∷ a) r = by (x == 0) (ended_runs a r)
  where
    by : (b : Bool) → ended a ++ r ≡ runs a r → ((cond b (0 ∷ 1 ∷ []) (x ∷ []) ++ flat_map escaped a) ++ 0 ∷ 0 ∷ []) ++ r ≡ cond b (0 ∷ 1 ∷ runs a r) (x ∷ runs a r)
    by true e = ap (λ z. 0 ∷ 1 ∷ z) e
    by false e = ap (λ z. x ∷ z) e

-- a byte that is not 0 is none of the end
not_end : (y : ℕ) → (y == 0) ≡ false → ◌≡◌ {A = ℕ} 0 y → ⊥
not_end y f e = false≢true (sym f ∙ ap (λ z. z == 0) (sym e))

not_two : ◌≡◌ {A = ℕ} 0 1 → ⊥
not_two e = absurd cc

runs_same : (a b r s : List ℕ) → runs a r ≡ runs b s → (a ≡ b) × (r ≡ s)
runs_same [] [] r s e = (refl, rest_same (rest_same e))
runs_same [] (y ∷ b) r s e = by (y == 0) refl e
  where
    by : (t : Bool) → (y == 0) ≡ t → 0 ∷ 0 ∷ r ≡ cond t (0 ∷ 1 ∷ runs b s) (y ∷ runs b s) → ([] ≡ y ∷ b) × (r ≡ s)
    by true h e = absurd (not_two (first_same (rest_same e)))
    by false h e = absurd (not_end y h (first_same e))
runs_same (x ∷ a) [] r s e = by (x == 0) refl e
  where
    by : (t : Bool) → (x == 0) ≡ t → cond t (0 ∷ 1 ∷ runs a r) (x ∷ runs a r) ≡ 0 ∷ 0 ∷ s → (x ∷ a ≡ []) × (r ≡ s)
    by true h e = absurd (not_two (sym (first_same (rest_same e))))
    by false h e = absurd (not_end x h (sym (first_same e)))
runs_same (x ∷ a) (y ∷ b) r s e = by (x == 0) (y == 0) refl refl (runs_same a b r s) e
  where
    zero_is : (z : ℕ) → (z == 0) ≡ true → z ≡ 0
    zero_is z h = (Decides-eqb z 0).0 h

    both : {x y : ℕ} → x ≡ y → (a ≡ b) × (r ≡ s) → (x ∷ a ≡ y ∷ b) × (r ≡ s)
    both {y = y} e q = (ap (λ z. z ∷ a) e ∙ ap (λ z. y ∷ z) q.0, q.1)

    by : (t u : Bool) → (x == 0) ≡ t → (y == 0) ≡ u → (runs a r ≡ runs b s → (a ≡ b) × (r ≡ s)) → cond t (0 ∷ 1 ∷ runs a r) (x ∷ runs a r) ≡ cond u (0 ∷ 1 ∷ runs b s) (y ∷ runs b s)
        → (x ∷ a ≡ y ∷ b) × (r ≡ s)
    by true true h k on e = both (zero_is x h ∙ sym (zero_is y k)) (on (rest_same (rest_same e)))
    by true false h k on e = absurd (not_end y k (first_same e))
    by false true h k on e = absurd (not_end x h (sym (first_same e)))
    by false false h k on e = both (first_same e) (on (rest_same e))

ended_same : (a b r s : List ℕ) → ended a ++ r ≡ ended b ++ s → (a ≡ b) × (r ≡ s)
ended_same a b r s e = runs_same a b r s (sym (ended_runs a r) ∙ e ∙ ended_runs b s)

key_same : (k l : Key) → key_name k ≡ key_name l → k ≡ l
key_same k l e =
    let q = ended_same k.name l.name k.descriptor l.descriptor e in
    ap (λ n. record { name = n; descriptor = k.descriptor }) q.0 ∙ ap (λ d. record { name = l.name; descriptor = d }) q.1

name_same : (o p : Option Name) (k l : Key) → name_in o k ≡ name_in p l → (o ≡ p) × (k ≡ l)
name_same None None k l e = (refl, key_same k l (rest_same e))
name_same None (Some p) k l e = absurd (not_two (first_same e))
name_same (Some o) None k l e = absurd (not_two (sym (first_same e)))
name_same (Some o) (Some p) k l e =
    let q = ended_same o p (key_name k) (key_name l) (rest_same e) in
    (ap Some q.0, key_same k l q.1)

pub slot_same : (s t : Slot) → slot_name s ≡ slot_name t → s ≡ t
slot_same s t e =
    let q = name_same s.in_package t.in_package s.key t.key e in
    ap (λ p. record { in_package = p; key = s.key }) q.0 ∙ ap (λ k. record { in_package = t.in_package; key = k }) q.1

-- slots of different keys have different bytes
pub other_key : (s t : Slot) → (s.key ≡ t.key → ⊥) → slot_name s ≡ slot_name t → ⊥
other_key s t n e = n (ap (λ (z : Slot). z.key) (slot_same s t e))
