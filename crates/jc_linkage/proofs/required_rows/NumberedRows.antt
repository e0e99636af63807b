-- Rows of the numbers of references, found among other rows of these.
use Rattle.std.proofs.Common.{◌≡◌, ◌∙◌, ℕ, Bool, true, false, ◌||◌, cond, List, [], ◌∷◌, ◌++◌, map, sym, ap, subst, ◌⊎◌, inl, inr, ⊎_elim}
use Rattle.std.proofs.lemmas.List.{map-append}
use Rattle.std.proofs.lemmas.List.Elements.{All-contains, All-contains_itself, All-filter, filter_passes}
use Rattle.std.proofs.lemmas.List.Folds.{list_any-append}
use Rattle.std.specs.List.{AllByRecursion, Contains, filter}
use Rattle.std.specs.List.Sorted.{IsStrictlySortedBy}
use Rattle.jc_base.proofs.Membership.{Has, from_has, has_from, has-from_map, has-map}
use Rattle.jc_classes.specs.Facts.{Reference}
use Rattle.jc_classes.specs.NameLists.{has}
use Rattle.jc_classes.specs.Names.{Name, name_cmp, same_name}
use Rattle.jc_classes.proofs.numbering.Rising.{contains_of, has_of}
use Rattle.jc_report.specs.RequiredRows.{AreOf, row_numbered, row_required, rows_numbered, spelled, spelled_all}
use Rattle.jc_report.specs.RowKeys.{row_key}
use Rattle.jc_report.specs.declared.required_row.RequiredRow.{RequiredRow}
use Rattle.jc_linkage.specs.inside.RowLists.{AreInOrder, IsThere, Stay}
use Rattle.jc_linkage.proofs.equations.Booleans.{or_join, or_none, or_split, same_test}
use Rattle.jc_linkage.proofs.required_rows.RowLists.{keys_of_rows}

-- ---- rows that are left out

all_kept : (P : Name → Type 0) (test : RequiredRow → Bool) (rows : List RequiredRow) → AllByRecursion P (spelled_all rows) → AllByRecursion P (spelled_all (filter test rows))
all_kept P test [] h = tt
all_kept P test (x ∷ xs) h =
    elim (test x) as (λ b. AllByRecursion P (spelled_all (cond b (x ∷ filter test xs) (filter test xs)))) [
      | true ↦ (h.0, all_kept P test xs h.1)
      | false ↦ all_kept P test xs h.1
    ]

pub kept_rise : (test : RequiredRow → Bool) (rows : List RequiredRow) → IsStrictlySortedBy name_cmp (spelled_all rows) → IsStrictlySortedBy name_cmp (spelled_all (filter test rows))
unfolding IsStrictlySortedBy
kept_rise test [] h = tt
kept_rise test (x ∷ xs) h =
    elim (test x) as (λ b. IsStrictlySortedBy name_cmp (spelled_all (cond b (x ∷ filter test xs) (filter test xs)))) [
      | true ↦ (all_kept _ test xs h.0, kept_rise test xs h.1)
      | false ↦ kept_rise test xs h.1
    ]

pub kept_passes : {X : Type 0} (test : X → Bool) (xs : List X) (x : X) → Contains (filter test xs) x → Contains xs x × (test x ≡ true)
kept_passes test xs x there = (
  All-contains (Contains xs) (filter test xs) x (All-filter test (Contains xs) xs (All-contains_itself xs)) there,
  All-contains (λ y. test y ≡ true) (filter test xs) x (filter_passes test xs) there,
)

passes_stays : {X : Type 0} (test : X → Bool) (xs : List X) (x : X) → test x ≡ true → Has xs x → Has (filter test xs) x
passes_stays test [] x t h = absurd h
passes_stays test (y ∷ ys) x t (inl e) = subst (λ b. Has (cond b (y ∷ filter test ys) (filter test ys)) x) (sym (ap test e ∙ t)) (inl e)
passes_stays test (y ∷ ys) x t (inr h) =
    elim (test y) as (λ b. Has (cond b (y ∷ filter test ys) (filter test ys)) x) [
      | true ↦ inr (passes_stays test ys x t h)
      | false ↦ passes_stays test ys x t h
    ]

pub kept_there : {X : Type 0} (test : X → Bool) (xs : List X) (x : X) → test x ≡ true → Contains xs x → Contains (filter test xs) x
kept_there test xs x t there = from_has (filter test xs) x (passes_stays test xs x t (has_from xs x there))

-- ---- the keys of rows

row_has : (rows : List RequiredRow) (x : RequiredRow) → Contains rows x → has (spelled_all rows) (spelled x) ≡ true
row_has rows x there = has_of (spelled_all rows) (spelled x) (from_has (spelled_all rows) (spelled x) (has-map spelled rows x (has_from rows x there)))

has_row : (rows : List RequiredRow) (key : Name) → has (spelled_all rows) key ≡ true → (x : RequiredRow) × Contains rows x × (spelled x ≡ key)
has_row rows key h =
    let found = has-from_map spelled rows key (has_from (spelled_all rows) key (contains_of (spelled_all rows) key h)) in
    (found.0, from_has rows found.0 found.1, found.2)

joined_has : (rows more : List RequiredRow) (key : Name) → has (spelled_all (rows ++ more)) key ≡ (has (spelled_all rows) key || has (spelled_all more) key)
joined_has rows more key = ap (λ ks. has ks key) (map-append spelled rows more) ∙ list_any-append (same_name key) (spelled_all rows) (spelled_all more)

module _ (refs : List Reference) where
  abbrev key_numbered : ℕ → Name
  key_numbered n = row_key (row_numbered refs n)

  abbrev keys_numbered : List ℕ → List Name
  keys_numbered numbers = map row_key (rows_numbered refs numbers)

  number_has : (numbers : List ℕ) (n : ℕ) → Contains numbers n → has (keys_numbered numbers) (key_numbered n) ≡ true
  number_has numbers n there =
      has_of (keys_numbered numbers) (key_numbered n) (from_has (keys_numbered numbers) (key_numbered n)
      (has-map row_key (rows_numbered refs numbers) (row_numbered refs n) (has-map (row_numbered refs) numbers n (has_from numbers n there))))

  has_number : (numbers : List ℕ) (key : Name) → has (keys_numbered numbers) key ≡ true → (n : ℕ) × Contains numbers n × (key_numbered n ≡ key)
  has_number numbers key h =
      let row = has-from_map row_key (rows_numbered refs numbers) key (has_from (keys_numbered numbers) key (contains_of (keys_numbered numbers) key h)) in
      let n = has-from_map (row_numbered refs) numbers row.0 row.1 in
      (n.0, from_has numbers n.0 n.1, ap row_key n.2 ∙ row.2)

  spelled_of : (rows : List RequiredRow) → AreOf refs rows → (x : RequiredRow) → Contains rows x → spelled x ≡ key_numbered x.number
  spelled_of rows of x there = ap (λ r. row_key (row_numbered r x.number)) (All-contains (λ (row : RequiredRow). row.references ≡ refs) rows x of there)

  -- rows that are made of numbers
  pub made_same : (numbers : List ℕ) (rows : List RequiredRow) → map row_required rows ≡ rows_numbered refs numbers → (key : Name) → has (spelled_all rows) key ≡ has (keys_numbered numbers) key
  made_same numbers rows made key = ap (λ ks. has ks key) (sym (keys_of_rows rows) ∙ ap (map row_key) made)

  module _ (before rows : List RequiredRow) (of : AreOf refs before) (numbers comes : List ℕ) (stay : Stay before numbers rows) where
    pub stay_of : AreOf refs rows
    stay_of = subst (AreOf refs) (sym stay.passed) (All-filter stay.test (λ (row : RequiredRow). row.references ≡ refs) before of)

    pub stay_rise : IsStrictlySortedBy name_cmp (spelled_all before) → IsStrictlySortedBy name_cmp (spelled_all rows)
    stay_rise rises = subst (λ (xs : List RequiredRow). IsStrictlySortedBy name_cmp (spelled_all xs)) (sym stay.passed) (kept_rise stay.test before rises)

    stay_sound : (key : Name) → has (spelled_all rows) key ≡ true → has (keys_numbered numbers) key ≡ true
    stay_sound key h =
        let x = has_row rows key h in
        let passes = (kept_passes stay.test before x.0 (subst (λ (xs : List RequiredRow). Contains xs x.0) stay.passed x.1)).1 in
        subst (λ k. has (keys_numbered numbers) k ≡ true) (sym (spelled_of rows stay_of x.0 x.1) ∙ x.2) (number_has numbers x.0.number (stay.sound x.0 passes))

    module _ (sound : (n : ℕ) → Contains comes n → Contains numbers n) (complete : (n : ℕ) → Contains numbers n → Contains comes n ⊎ IsThere rows n) where
      comes_sound : (key : Name) → has (keys_numbered comes) key ≡ true → has (keys_numbered numbers) key ≡ true
      comes_sound key h =
          let n = has_number comes key h in
          subst (λ k. has (keys_numbered numbers) k ≡ true) n.2 (number_has numbers n.0 (sound n.0 n.1))

      there_has : (n : ℕ) → IsThere rows n → has (spelled_all rows) (key_numbered n) ≡ true
      there_has n there =
          let x = has-from_map (λ (row : RequiredRow). row.number) rows n (has_from (map (λ (row : RequiredRow). row.number) rows) n there) in
          let in_rows = from_has rows x.0 x.1 in
          subst (λ k. has (spelled_all rows) k ≡ true) (spelled_of rows stay_of x.0 in_rows ∙ ap key_numbered x.2) (row_has rows x.0 in_rows)

      all_complete : (key : Name) → has (keys_numbered numbers) key ≡ true → (has (spelled_all rows) key || has (keys_numbered comes) key) ≡ true
      all_complete key h =
          let n = has_number numbers key h in
          subst (λ k. (has (spelled_all rows) k || has (keys_numbered comes) k) ≡ true) n.2
          (or_join (has (spelled_all rows) (key_numbered n.0)) (has (keys_numbered comes) (key_numbered n.0))
          (⊎_elim (λ c. inr (number_has comes n.0 c)) (λ t. inl (there_has n.0 t)) (complete n.0 n.1)))

      -- the rows that stay and those that come are all
      pub all_same : (key : Name) → (has (spelled_all rows) key || has (keys_numbered comes) key) ≡ has (keys_numbered numbers) key
      all_same key = same_test (has (spelled_all rows) key || has (keys_numbered comes) key) (has (keys_numbered numbers) key)
          (λ h. ⊎_elim (stay_sound key) (comes_sound key) (or_split (has (spelled_all rows) key) (has (keys_numbered comes) key) h))
          (all_complete key)

      -- without any that come, these are in order
      pub in_order_alone : IsStrictlySortedBy name_cmp (spelled_all before) → comes ≡ [] → AreInOrder refs numbers rows
      in_order_alone rises none = record {
        rises = stay_rise rises;
        of = stay_of;
        same = λ key. sym (or_none (has (spelled_all rows) key)) ∙ ap (λ ns. has (spelled_all rows) key || has (keys_numbered ns) key) (sym none) ∙ all_same key;
      }

      -- and with these, once they are put in order
      pub in_order_all : (more result : List RequiredRow) → map row_required more ≡ rows_numbered refs comes
          → ((key : Name) → has (spelled_all result) key ≡ has (spelled_all (rows ++ more)) key) → IsStrictlySortedBy name_cmp (spelled_all result) → AreOf refs result
          → AreInOrder refs numbers result
      in_order_all more result made same rises of_result = record {
        rises = rises;
        of = of_result;
        same = λ key. same key ∙ joined_has rows more key ∙ ap (λ b. has (spelled_all rows) key || b) (made_same comes more made key) ∙ all_same key;
      }
