-- Names where each stands first, by the ranks of their texts.
use Rattle.std.proofs.Common.{◌≡◌, ◌∙◌, ℕ, suc, ◌+◌, ◌<◌, Bool, true, false, ◌||◌, not, cond, List, [], ◌∷◌, ◌++◌, length, map, nat_eq, slice_index, slice_index_or, slice_set, take, refl, sym, ap, subst, arith, ⊎_elim}
use Rattle.std.specs.List.{All, filter, list_any}
use Rattle.std.specs.Ordering.{is_eq, nat_cmp}
use Rattle.std.proofs.lemmas.Bool.{cases_Bool, cond-false, cond-true, false≢true}
use Rattle.std.proofs.lemmas.Bool.Decides.{nat_tests}
use Rattle.std.proofs.lemmas.List.{append-nil, get_or-set_other, get_or-set_same, get_or-take, length-set, length-take-le, map-append, take_more}
use Rattle.std.proofs.lemmas.List.Elements.{filter-append}
use Rattle.std.proofs.lemmas.List.Folds.{list_any-append}
use Rattle.jc_classes.specs.FactsOf.{once}
use Rattle.jc_classes.specs.NameLists.{has}
use Rattle.jc_classes.specs.Names.{Name, same_name}
use Rattle.jc_classes.specs.inside.FactsShown.{text_at}
use Rattle.jc_classes.specs.inside.Ranks.{AreRanks}
use Rattle.jc_classes.proofs.worlds.NameTests.{same_is}

-- ---- one more name

abbrev others : Name → Name → Bool
others x m = not (same_name m x)

or_true : (b : Bool) → (b || true) ≡ true
or_true true = refl
or_true false = refl

last_kept : (x n : Name) (ns : List Name) (b : Bool) → same_name n x ≡ b → x ∷ filter (others x) (ns ++ n ∷ []) ≡ cond (b || false) (x ∷ filter (others x) ns) (x ∷ (filter (others x) ns ++ n ∷ []))
last_kept x n ns true e = ap (λ ms. x ∷ ms) (filter-append (others x) ns (n ∷ []) ∙ ap (λ ms. filter (others x) ns ++ ms) (cond-false (others x n) (n ∷ []) [] (ap not e)) ∙ append-nil (filter (others x) ns))
last_kept x n ns false e = ap (λ ms. x ∷ ms) (filter-append (others x) ns (n ∷ []) ∙ ap (λ ms. filter (others x) ns ++ ms) (cond-true (others x n) (n ∷ []) [] (ap not e)))

one_more : (x n : Name) (b : Bool) (ns : List Name) → x ∷ filter (others x) (cond b ns (ns ++ n ∷ [])) ≡ cond (same_name n x || b) (x ∷ filter (others x) ns) (x ∷ (filter (others x) ns ++ n ∷ []))
one_more x n true ns = sym (cond-true (same_name n x || true) (x ∷ filter (others x) ns) (x ∷ (filter (others x) ns ++ n ∷ [])) (or_true (same_name n x)))
one_more x n false ns = last_kept x n ns (same_name n x) refl

once_push : (ns : List Name) (n : Name) → once (ns ++ n ∷ []) ≡ cond (has ns n) (once ns) (once ns ++ n ∷ [])
once_push [] n = refl
once_push (x ∷ ns) n = ap (λ ms. x ∷ filter (others x) ms) (once_push ns n) ∙ one_more x n (has ns n) (once ns)

pub once_short : (ns : List Name) → length ns < 2 → ns ≡ once ns
once_short [] l = refl
once_short (x ∷ []) l = refl
once_short (x ∷ y ∷ ns) l = absurd (omega (arith, l))

-- ---- in turn

not_it : (n x m : Name) → same_name n x ≡ false → same_name m x ≡ true → same_name n m ≡ false
not_it n x m e f = subst (λ y. same_name n y ≡ false) (sym (same_is m x f)) e

has_others : (x n : Name) → same_name n x ≡ false → (ns : List Name) → has (filter (others x) ns) n ≡ has ns n
has_others x n e [] = refl
has_others x n e (m ∷ ns) = ⊎_elim
    (λ t. ap (λ l. has l n) (cond-false (others x m) (m ∷ filter (others x) ns) (filter (others x) ns) (ap not t)) ∙ has_others x n e ns ∙ ap (λ b. b || has ns n) (sym (not_it n x m e t)))
    (λ f. ap (λ l. has l n) (cond-true (others x m) (m ∷ filter (others x) ns) (filter (others x) ns) (ap not f)) ∙ ap (λ b. same_name n m || b) (has_others x n e ns))
    (cases_Bool (same_name m x))

-- the first of each are the same names
has_once : (ns : List Name) (n : Name) → has (once ns) n ≡ has ns n
has_once [] n = refl
has_once (x ∷ ns) n = ⊎_elim
    (λ t. ap (λ b. b || has (filter (others x) (once ns)) n) t ∙ sym (ap (λ b. b || has ns n) t))
    (λ f. ap (λ b. same_name n x || b) (has_others x n f (once ns) ∙ has_once ns n))
    (cases_Bool (same_name n x))

module _ (texts : List Name) (names : List ℕ) (i : ℕ) (l : i < length names) (kept : List ℕ) (done : map (text_at texts) kept ≡ once (map (text_at texts) (take i names))) where
  text : Name
  text = text_at texts (slice_index names i)

  taken : map (text_at texts) (take (i + 1) names) ≡ map (text_at texts) (take i names) ++ text ∷ []
  unfolding text
  taken = ap (map (text_at texts)) (take_more names i 0 l) ∙ map-append (text_at texts) (take i names) (slice_index names i ∷ [])

  test : (b : Bool) → b ≡ has (map (text_at texts) kept) text → once (map (text_at texts) (take (i + 1) names)) ≡ cond b (map (text_at texts) kept) (map (text_at texts) kept ++ text ∷ [])
  test b e =
      let asked : has (map (text_at texts) (take i names)) text ≡ b = sym (has_once (map (text_at texts) (take i names)) text) ∙ sym (ap (λ ns. has ns text) done) ∙ sym e in
      ap once taken ∙ once_push (map (text_at texts) (take i names)) text
      ∙ ap (λ z. cond z (once (map (text_at texts) (take i names))) (once (map (text_at texts) (take i names)) ++ text ∷ [])) asked
      ∙ ap (λ ns. cond b ns (ns ++ text ∷ [])) (sym done)

  pub turn_again : true ≡ has (map (text_at texts) kept) (text_at texts (slice_index names i)) → map (text_at texts) kept ≡ once (map (text_at texts) (take (i + 1) names))
  unfolding text
  turn_again e = sym (test true e)

  pub turn_first : false ≡ has (map (text_at texts) kept) (text_at texts (slice_index names i)) → map (text_at texts) (kept ++ slice_index names i ∷ []) ≡ once (map (text_at texts) (take (i + 1) names))
  unfolding text
  turn_first e = map-append (text_at texts) kept (slice_index names i ∷ []) ∙ sym (test false e)

-- ---- by ranks

eq_turned : (a b : ℕ) → is_eq (nat_cmp a b) ≡ nat_eq b a
eq_turned a b = grind (arith, nat_tests)

has_ranked : (texts : List Name) (ranks : List ℕ) → AreRanks texts ranks → (done : List ℕ) (name : ℕ) → ((k : ℕ) → k < length done → slice_index done k < length ranks) → name < length ranks
    → has (map (text_at texts) done) (text_at texts name) ≡ list_any (λ n. nat_eq (slice_index ranks n) (slice_index ranks name)) done
has_ranked texts ranks r [] name h l = refl
has_ranked texts ranks r (x ∷ done) name h l =
    let one : same_name (text_at texts name) (text_at texts x) ≡ nat_eq (slice_index ranks x) (slice_index ranks name) =
    ap is_eq (sym (r.order name x (omega (arith, l, r.size)) (omega (arith, h 0 (omega arith), r.size)))) ∙ eq_turned (slice_index ranks name) (slice_index ranks x) in
    ap (λ b. b || has (map (text_at texts) done) (text_at texts name)) one
    ∙ ap (λ b. nat_eq (slice_index ranks x) (slice_index ranks name) || b) (has_ranked texts ranks r done name (λ k m. h (suc k) (omega (arith, m))) l)

-- which ranks were seen, and what was kept, once these names are done
pub record HaveMet (ranks done : List ℕ) (flags : List Bool) (firsts : List ℕ) : Type 0 where
  pub size : length flags ≡ length ranks
  pub seen : (rank : ℕ) → slice_index_or flags rank false ≡ list_any (λ name. nat_eq (slice_index ranks name) rank) done
  pub kept : (texts : List Name) → AreRanks texts ranks → map (text_at texts) firsts ≡ once (map (text_at texts) done)

or_false : (a b : Bool) → b ≡ false → a ≡ (a || (b || false))
or_false true b e = refl
or_false false b e = sym (ap (λ z. z || false) e)

or_first : (a b : Bool) → a ≡ true → a ≡ (a || b)
or_first true b e = refl
or_first false b e = absurd (false≢true e)

or_last : (a b : Bool) → b ≡ true → true ≡ (a || (b || false))
or_last true b e = refl
or_last false b e = sym (ap (λ z. z || false) e)

same_number : (a b : ℕ) → nat_eq a b ≡ true → a ≡ b
same_number a b e = grind (arith, nat_tests)

itself : (a b : ℕ) → a ≡ b → nat_eq a b ≡ true
itself a b e = grind (arith, nat_tests)

module _ (ranks done : List ℕ) (seen : List Bool) (kept : List ℕ) (h : HaveMet ranks done seen kept) (name : ℕ) (below : (k : ℕ) → k < length done → slice_index done k < length ranks) (l : name < length ranks) where
  rank : ℕ
  rank = slice_index ranks name

  pushed : (texts : List Name) → AreRanks texts ranks → (b : Bool) → slice_index_or seen rank false ≡ b
      → once (map (text_at texts) (done ++ name ∷ [])) ≡ cond b (map (text_at texts) kept) (map (text_at texts) kept ++ text_at texts name ∷ [])
  unfolding rank
  pushed texts r b e =
      let test : has (map (text_at texts) done) (text_at texts name) ≡ b = has_ranked texts ranks r done name below l ∙ sym (h.seen (slice_index ranks name)) ∙ e in
      ap once (map-append (text_at texts) done (name ∷ []))
      ∙ once_push (map (text_at texts) done) (text_at texts name)
      ∙ ap (λ z. cond z (once (map (text_at texts) done)) (once (map (text_at texts) done) ++ text_at texts name ∷ [])) test
      ∙ ap (λ ns. cond b ns (ns ++ text_at texts name ∷ [])) (sym (h.kept texts r))

  one_seen : (other : ℕ) → list_any (λ n. nat_eq (slice_index ranks n) other) (done ++ name ∷ []) ≡ (slice_index_or seen other false || (nat_eq rank other || false))
  unfolding rank
  one_seen other = list_any-append (λ n. nat_eq (slice_index ranks n) other) done (name ∷ []) ∙ ap (λ b. b || (nat_eq (slice_index ranks name) other || false)) (sym (h.seen other))

  pub met_again : slice_index_or seen (slice_index ranks name) false ≡ true → HaveMet ranks (done ++ name ∷ []) seen kept
  unfolding rank
  met_again e = record {
    size = h.size;
    seen = λ other. ⊎_elim
        (λ t. let same : slice_index ranks name ≡ other = same_number (slice_index ranks name) other t in or_first (slice_index_or seen other false) (nat_eq (slice_index ranks name) other || false) (ap (λ k. slice_index_or seen k false) (sym same) ∙ e))
        (λ f. or_false (slice_index_or seen other false) (nat_eq (slice_index ranks name) other) f)
        (cases_Bool (nat_eq (slice_index ranks name) other))
        ∙ sym (one_seen other);
    kept = λ texts r. sym (pushed texts r true e);
  }

  pub met_first : slice_index ranks name < length seen → slice_index_or seen (slice_index ranks name) false ≡ false → HaveMet ranks (done ++ name ∷ []) (slice_set seen (slice_index ranks name) true) (kept ++ name ∷ [])
  unfolding rank
  met_first within e = record {
    size = length-set seen (slice_index ranks name) true ∙ h.size;
    seen = λ other. ⊎_elim
        (λ t.
        let same : slice_index ranks name ≡ other = same_number (slice_index ranks name) other t in
        ap (λ k. slice_index_or (slice_set seen (slice_index ranks name) true) k false) (sym same) ∙ get_or-set_same seen (slice_index ranks name) true false within
        ∙ or_last (slice_index_or seen other false) (nat_eq (slice_index ranks name) other) t)
        (λ f. get_or-set_other seen (slice_index ranks name) other true false (λ g. false≢true (sym f ∙ itself (slice_index ranks name) other (sym g))) ∙ or_false (slice_index_or seen other false) (nat_eq (slice_index ranks name) other) f)
        (cases_Bool (nat_eq (slice_index ranks name) other))
        ∙ sym (one_seen other);
    kept = λ texts r. map-append (text_at texts) kept (name ∷ []) ∙ sym (pushed texts r false e);
  }

-- ---- the names up to one more

module _ (ranks names : List ℕ) (below : All (λ name. name < length ranks) names) (i : ℕ) (seen : List Bool) (kept : List ℕ) (l : i < length names) (h : HaveMet ranks (take i names) seen kept) where
  front_below : (k : ℕ) → k < length (take i names) → slice_index (take i names) k < length ranks
  front_below k m =
      let less : k < i = omega (arith, m, length-take-le i names (omega (arith, l))) in
      subst (λ n. n < length ranks) (sym (get_or-take i names k 0 less)) (below k 0 (omega (arith, less, l)))

  pub next_again : slice_index_or seen (slice_index ranks (slice_index names i)) false ≡ true → HaveMet ranks (take (i + 1) names) seen kept
  next_again e = subst (λ done. HaveMet ranks done seen kept) (sym (take_more names i 0 l)) (met_again ranks (take i names) seen kept h (slice_index names i) front_below (below i 0 l) e)

  pub next_first : slice_index ranks (slice_index names i) < length seen → slice_index_or seen (slice_index ranks (slice_index names i)) false ≡ false → HaveMet ranks (take (i + 1) names) (slice_set seen (slice_index ranks (slice_index names i)) true) (kept ++ slice_index names i ∷ [])
  next_first m e = subst (λ done. HaveMet ranks done (slice_set seen (slice_index ranks (slice_index names i)) true) (kept ++ slice_index names i ∷ [])) (sym (take_more names i 0 l)) (met_first ranks (take i names) seen kept h (slice_index names i) front_below (below i 0 l) m e)
