-- Rows by their keys.
use Rattle.std.proofs.Common.{◌≡◌, ◌∙◌, ℕ, ◌<◌, ◌≤◌, true, List, [], ◌∷◌, length, map, get_or, slice_get, Some, Result, Ok, Err, refl, sym, ap, subst, arith}
use Rattle.std.proofs.lemmas.Option.{get_or_from_slice_get, slice_get_within}
use Rattle.std.proofs.lemmas.List.{get_or-map, length-map}
use Rattle.std.proofs.lemmas.List.Elements.{All-contains}
use Rattle.std.specs.Cmp.{Equal-is}
use Rattle.std.specs.Prelude.{is_ok}
use Rattle.std.specs.List.Sorted.{IsBinarySearchResult, IsNonDecreasingBy, IsSearchInRange, IsStrictlySortedBy}
use Rattle.std.specs.Ordering.{eq_by_cmp, on, ordering_index}
use Rattle.jc_base.specs.Bytes.{bytes_cmp}
use Rattle.jc_base.proofs.maps.FiniteMaps.{bytes_cmp-IsAntisymmetric}
use Rattle.jc_classes.specs.Facts.{Reference}
use Rattle.jc_classes.specs.NameLists.{has}
use Rattle.jc_classes.specs.Names.{Name, name_cmp}
use Rattle.jc_classes.specs.Numbers.{name_at}
use Rattle.jc_index.specs.inside.Places.{IsGapFor}
use Rattle.jc_index.proofs.lists.Edited.{gap_lacks, stands_has}
use Rattle.jc_index.proofs.lists.Searching.{falls_never}
use Rattle.jc_report.specs.RequiredRows.{AreOf, row_required, spelled, spelled_all}
use Rattle.jc_report.specs.RowKeys.{row_key}
use Rattle.jc_report.specs.declared.required_row.RequiredRow.{RequiredRow}
use Rattle.jc_linkage.specs.inside.RowLists.{ShareReferences}

pub keys_of_rows : (xs : List RequiredRow) → map row_key (map row_required xs) ≡ spelled_all xs
keys_of_rows [] = refl
keys_of_rows (x ∷ xs) = ap (λ ks. spelled x ∷ ks) (keys_of_rows xs)

-- the key at a place of rows
key_at : (xs : List RequiredRow) (i : ℕ) (x : RequiredRow) → i < length xs → name_at (spelled_all xs) i ≡ spelled (get_or xs i x)
key_at xs i x l = get_or-map spelled xs i x [] l

pub held_row : (xs : List RequiredRow) (i : ℕ) (x : RequiredRow) → i < length xs → x ≡ get_or xs i x → name_at (spelled_all xs) i ≡ spelled x
held_row xs i x l e = key_at xs i x l ∙ ap spelled (sym e)

-- rows that tie have one key
pub tied : (a b : RequiredRow) → eq_by_cmp (on spelled bytes_cmp) a b ≡ true → spelled a ≡ spelled b
tied a b e = bytes_cmp-IsAntisymmetric (spelled a) (spelled b) ((Equal-is (bytes_cmp (spelled a) (spelled b))).0 e)

-- ---- a row is looked for in rows that rise

falls : (xs : List RequiredRow) (key : Name) → IsStrictlySortedBy name_cmp (spelled_all xs) → IsNonDecreasingBy (λ x. ordering_index (bytes_cmp (spelled x) key)) xs
falls xs key rises i j d l within =
    let all = falls_never (spelled_all xs) key rises i j (spelled d) l (omega (arith, within, length-map xs spelled)) in
    subst (λ n. ordering_index (bytes_cmp n key) ≤ ordering_index (bytes_cmp (spelled (get_or xs j d)) key)) (get_or-map spelled xs i d (spelled d) (omega (arith, l, within)))
    (subst (λ n. ordering_index (bytes_cmp (get_or (spelled_all xs) i (spelled d)) key) ≤ ordering_index (bytes_cmp n key)) (get_or-map spelled xs j d (spelled d) within) all)

pub searched : (xs : List RequiredRow) (key : Name) (r : Result ℕ ℕ) → IsSearchInRange r (length xs) → IsBinarySearchResult (λ x. bytes_cmp (spelled x) key) xs r
    → IsStrictlySortedBy name_cmp (spelled_all xs) → is_ok r ≡ has (spelled_all xs) key
searched [] key (Ok i) bound is rises = absurd (omega (arith, bound))
searched [] key (Err i) bound is rises = refl
searched (x ∷ xs) key (Ok i) bound is rises =
    let all = x ∷ xs in
    let same : name_at (spelled_all all) i ≡ key = key_at all i x bound ∙ bytes_cmp-IsAntisymmetric (spelled (get_or all i x)) key (is x) in
    sym (stands_has (spelled_all all) key i (omega (arith, bound, length-map all spelled), same))
searched (x ∷ xs) key (Err i) bound is rises =
    let all = x ∷ xs in
    let split = is (falls all key rises) in
    let count = length-map all spelled in
    let gap : IsGapFor (spelled_all all) key i = record {
      ordered = omega arith;
      fits = omega (arith, bound, count);
      below = λ k l. ap (λ n. name_cmp n key) (key_at all k x (omega (arith, l, bound))) ∙ split.0 k x (omega arith) l;
      above = λ k l within. ap (λ n. name_cmp n key) (key_at all k x (omega (arith, within, count))) ∙ split.1 k x l (omega (arith, within, count));
    } in
    sym (gap_lacks (spelled_all all) key i gap)

-- a row at a place that has the key
pub near_has : (xs : List RequiredRow) (i : ℕ) (x : RequiredRow) (key : Name) → slice_get xs i ≡ Some x → spelled x ≡ key → has (spelled_all xs) key ≡ true
near_has xs i x key e same =
    let within = slice_get_within xs i x e in
    stands_has (spelled_all xs) key i (omega (arith, within, length-map xs spelled), held_row xs i x within (sym (get_or_from_slice_get xs i x x e)) ∙ same)

-- ---- rows of the same references

pub of_each : (rows others : List RequiredRow) → ShareReferences rows others → (items : List RequiredRow) → items ≡ rows → (i : ℕ) (x : RequiredRow) → i < length items → x ≡ get_or items i x → AreOf x.references others
of_each rows others share items same i x l e =
    let of = subst (AreOf share.references) (sym same) share.own in
    subst (λ (refs : List Reference). AreOf refs others) (sym (All-contains (λ (row : RequiredRow). row.references ≡ share.references) items x of (i, l, sym e))) share.other
