-- The names of a numbering, rising.
use Rattle.std.proofs.Common.{◌≡◌, ℕ, ◌<◌, ◌≤◌, ◌+◌, true, List, [], ◌∷◌, ◌++◌, length, take, arith, subst, Option, Some, None, is_some, refl, sym, ap, ◌∙◌, ⊎_elim}
use Rattle.std.proofs.lemmas.Bool.{cases_Bool}
use Rattle.std.proofs.lemmas.List.{get_or-take, get_or_default, length-take-le, take_all, take_more}
use Rattle.std.proofs.lemmas.Map.Entries.{length-keys_of}
use Rattle.std.proofs.lemmas.Map.Views.{list_any-from_Contains, Contains-from_any}
use Rattle.std.specs.Cmp.{eq_by_cmp_equiv}
use Rattle.std.specs.List.{Contains}
use Rattle.std.specs.FinMap as fin
use Rattle.jc_base.proofs.maps.FiniteMaps.{bytes_cmp_total, keys_rise}
use Rattle.jc_classes.specs.Names.{Name}
use Rattle.jc_classes.specs.NameLists.{has, IsRisingOf}
use Rattle.jc_classes.specs.Numbers.{IsOnce, name_at}
use Rattle.jc_classes.specs.inside.Numbering.{NumberOf, IsNumbered}
use Rattle.jc_classes.proofs.numbering.NumberLemmas.{none_found, numbered_push}
use Rattle.jc_classes.proofs.worlds.NameTests.{same_is}

pub has_of : (names : List Name) (n : Name) → Contains names n → has names n ≡ true
has_of names n c = list_any-from_Contains (eq_by_cmp_equiv bytes_cmp_total) n names c

pub contains_of : (names : List Name) (n : Name) → has names n ≡ true → Contains names n
contains_of names n e = Contains-from_any same_is n names e

-- a name at a place is one of the names
pub has_at : (names : List Name) (i : ℕ) (n : Name) → i < length names → name_at names i ≡ n → has names n ≡ true
has_at names i n l e = has_of names n (i, l, get_or_default names i n [] l ∙ e)

pub place_of : (names : List Name) (n : Name) → has names n ≡ true → (i : ℕ) × (i < length names) × (name_at names i ≡ n)
place_of names n e = let c = contains_of names n e in (c.0, c.1, get_or_default names c.0 [] n c.1 ∙ c.2)

none_some : {X A : Type 0} {x : X} → None ≡ Some x → A
none_some e = absurd cc

numbered_has : (p : NumberOf) (ns : List Name) → IsNumbered p ns → (n : Name) → has ns n ≡ is_some (fin.get p n)
numbered_has p ns h n = by (fin.get p n) refl
  where
    by : (o : Option ℕ) → fin.get p n ≡ o → has ns n ≡ is_some o
    by (Some i) e = let q = h.finds.there n i e in has_at ns i n q.0 q.1
    by None e = ⊎_elim
        (λ t. let q = place_of ns n t in none_some (sym e ∙ ap (fin.get p) (sym q.2) ∙ h.finds.back q.0 q.1))
        (λ f. f)
        (cases_Bool (has ns n))

pub rising_of : (p : NumberOf) (ns : List Name) → IsNumbered p ns → IsRisingOf (fin.keys p) ns
rising_of p ns h = record { rises = keys_rise p; same = λ n. sym (fin.contains_key-keys p n) ∙ sym (numbered_has p ns h n); count = length-keys_of (fin.entries p) ∙ sym (fin.len-entries p) ∙ h.count }

-- the first names with one more
pub numbered_next : (p : NumberOf) (ns : List Name) (i : ℕ) (x : Name) → IsOnce ns → i < length ns → name_at ns i ≡ x → IsNumbered p (take i ns)
    → IsNumbered (fin.insert p x i) (take (i + 1) ns)
numbered_next p ns i x once l e h =
    let size : length (take i ns) ≡ i = length-take-le i ns (omega (arith, l)) in
    let none : fin.get p x ≡ None = none_found (fin.get p) (take i ns) (take i ns) x h.finds refl
    (λ j k q.
    let less : j < i = subst (λ n. j < n) size k in
    let same : j ≡ i = once j i (omega (arith, less, l)) l (sym (get_or-take i ns j [] less) ∙ q ∙ sym e) in
    omega (arith, less, same)) in
    subst (IsNumbered (fin.insert p x i)) (sym (take_more ns i [] l ∙ ap (λ z. take i ns ++ z ∷ []) e))
    (subst (λ n. IsNumbered (fin.insert p x n) (take i ns ++ x ∷ [])) size (numbered_push p (take i ns) x h none))

pub rising_names : (p : NumberOf) (ns rising : List Name) (i : ℕ) → length ns ≤ i → IsNumbered p (take i ns) → rising ≡ fin.keys p → IsRisingOf rising ns
rising_names p ns rising i l h e = subst (λ z. IsRisingOf z ns) (sym e) (rising_of p ns (subst (IsNumbered p) (take_all i ns l) h))
