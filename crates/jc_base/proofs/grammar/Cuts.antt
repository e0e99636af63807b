-- Cutting a text at the first byte that no identifier has.
use Rattle.std.proofs.Common.{◌≡◌, ◌≢◌, ℕ, ◌+◌, ◌-◌, ◌<◌, ◌≤◌, Bool, true, false, eqb, ltb, not, cond, ◌||◌, List, [], ◌∷◌, ◌++◌, length, get_or, take, drop, position, Some, None, ◌⊎◌, inl, inr, sym, ap, ◌∙◌, subst, arith, add-one, drop-cons}
use Rattle.std.specs.List.{Contains, list_any, position_or_len}
use Rattle.std.proofs.lemmas.Bool.{false≢true, eq-eqb, eqb-true, cases_Bool, ltb-false, not-true}
use Rattle.std.proofs.lemmas.List.{take_rest, take-append-drop, get_or-take, get_or_default, length-take-le}
use Rattle.std.proofs.lemmas.List.Sums.{prefix_len_passes}
use Rattle.std.proofs.lemmas.List.Folds.{list_any_at}
use Rattle.std.proofs.lemmas.List.Quantifiers.{position-Some}
use Rattle.std.proofs.lemmas.List.Elements.{Contains-append_right, All-head, All-tail}
use Rattle.jc_base.specs.Names.{Lacks}
use Rattle.jc_base.specs.ModifiedUtf8.{IsWellSpelled}
use Rattle.jc_base.specs.Signatures.{identifier_stops}
use Rattle.jc_base.specs.inside.Owed.{IsStop, IsCut, BeginsWithName}

abbrev pub is_stop_byte : ℕ → Bool
is_stop_byte c = list_any (λ stop. eqb stop c) identifier_stops

any_has : (xs : List ℕ) (c : ℕ) → list_any (λ x. eqb x c) xs ≡ true → Contains xs c
any_has [] c e = absurd (false≢true e)
any_has (x ∷ xs) c e = by_first (cases_Bool (eqb x c)) (any_has xs c)
  where
    by_first : (eqb x c ≡ true) ⊎ (eqb x c ≡ false) → (list_any (λ y. eqb y c) xs ≡ true → Contains xs c) → Contains (x ∷ xs) c
    by_first (inl passed) has = (0, omega arith, eqb-true x c passed)
    by_first (inr none) has = Contains-append_right (x ∷ []) xs c (has (sym (ap (λ b. b || list_any (λ y. eqb y c) xs) none) ∙ e))

pub stop_from_test : (c : ℕ) → is_stop_byte c ≡ true → IsStop c
stop_from_test c e = any_has identifier_stops c e

pub test_from_stop : (c : ℕ) → IsStop c → is_stop_byte c ≡ true
test_from_stop c (k, within, is) = list_any_at (λ b. eqb b c) identifier_stops k c within (eq-eqb (get_or identifier_stops k c) c is)

pub cut_at : (text : List ℕ) (place : ℕ) → Some place ≡ position is_stop_byte text → place < length text
    → IsCut text (take place text) (get_or text place 0) (take (length text - (place + 1)) (drop (place + 1) text))
cut_at text place found within =
    let first = position-Some is_stop_byte text place 0 (sym found) in
    record {
      split = sym (take-append-drop place text) ∙ ap (λ b. take place text ++ b) (drop-cons text place 0 within ∙ ap (λ n. get_or text place 0 ∷ drop n text) (sym (add-one place))) ∙ ap (λ b. take place text ++ get_or text place 0 ∷ b) (sym (take_rest text (place + 1)));
      lacks = λ k d below stop.
          let inside : k < place = omega (arith, below, length-take-le place text (omega arith)) in
          let same : get_or (take place text) k d ≡ get_or text k 0 = get_or-take place text k d inside ∙ get_or_default text k d 0 (omega arith) in
          false≢true (sym (first.2 k inside) ∙ test_from_stop (get_or text k 0) (subst IsStop same stop));
      stop = stop_from_test (get_or text place 0) first.1;
    }

pub cut_nowhere : (text : List ℕ) → None ≡ position is_stop_byte text → Lacks text identifier_stops
cut_nowhere text none k d below stop =
    elim (cases_Bool (ltb (position_or_len is_stop_byte text) (length text))) [
      | inl passed ↦
          let some : position is_stop_byte text ≡ Some (position_or_len is_stop_byte text) = ap (λ b. cond b (Some (position_or_len is_stop_byte text)) None) passed in
          absurd (cc)
      | inr beyond ↦
          let all : length text ≤ position_or_len is_stop_byte text = ltb-false (position_or_len is_stop_byte text) (length text) beyond in
          let passes = prefix_len_passes (λ c. not (is_stop_byte c)) text k 0 (omega arith) in
          false≢true (sym (not-true (is_stop_byte (get_or text k 0)) passes) ∙ test_from_stop (get_or text k 0) (subst IsStop (get_or_default text k d 0 below) stop))
    ]

-- two cuts of one text are one
pub one_cut : (text n m : List ℕ) (c x : ℕ) (r b : List ℕ) → IsCut text n c r → IsCut text m x b → c ≡ x
one_cut text n m c x r b p q = same n m r b p.lacks q.lacks (sym p.split ∙ q.split)
  where
    same : (n m r b : List ℕ) → Lacks n identifier_stops → Lacks m identifier_stops → n ++ c ∷ r ≡ m ++ x ∷ b → c ≡ x
    same [] [] r b l k e = cc
    same [] (y ∷ m) r b l k e = let f : c ≡ y = cc in absurd (All-head (λ c. Contains identifier_stops c → ⊥) y m k (subst IsStop f p.stop))
    same (y ∷ n) [] r b l k e = let f : x ≡ y = cc in absurd (All-head (λ c. Contains identifier_stops c → ⊥) y n l (subst IsStop f q.stop))
    same (y ∷ n) (z ∷ m) r b l k e = same n m r b (All-tail (λ c. Contains identifier_stops c → ⊥) y n l) (All-tail (λ c. Contains identifier_stops c → ⊥) z m k) (ap (drop 1) e)

no_stop_in : (n : List ℕ) (c : ℕ) (r : List ℕ) → IsStop c → Lacks (n ++ c ∷ r) identifier_stops → ⊥
no_stop_in [] c r stop lacks = All-head (λ c. Contains identifier_stops c → ⊥) c r lacks stop
no_stop_in (y ∷ n) c r stop lacks = no_stop_in n c r stop (All-tail (λ c. Contains identifier_stops c → ⊥) y (n ++ c ∷ r) lacks)

pub no_cut : (text n : List ℕ) (c : ℕ) (r : List ℕ) → Lacks text identifier_stops → IsCut text n c r → ⊥
no_cut text n c r lacks cut = no_stop_in n c r cut.stop (subst (λ t. Lacks t identifier_stops) cut.split lacks)

pub has_name : (text name : List ℕ) (c : ℕ) (rest : List ℕ) → IsCut text name c rest → IsWellSpelled name × (name ≢ []) → BeginsWithName text c rest
has_name text name c rest cut good = record { name = name; is = (good.0, good.1, cut.lacks); cut = cut }
