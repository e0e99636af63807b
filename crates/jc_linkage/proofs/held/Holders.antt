-- The classes that require a row are the users of its key.
use Rattle.std.proofs.Common.{◌≡◌, ◌∙◌, ℕ, true, List, [], Option, Some, None, is_some, length, map, slice_get, refl, sym, ap, subst}
use Rattle.std.proofs.lemmas.Option.{get_or_from_slice_get, same_Some, slice_get-map, slice_get_within}
use Rattle.jc_base.proofs.maps.FiniteMaps.{get_from_entry}
use Rattle.std.specs.FinMap as fin
use Rattle.std.specs.List.{Contains}
use Rattle.std.specs.List.Sorted.{IsStrictlySortedBy}
use Rattle.std.specs.Option.{option_map, unwrap_or}
use Rattle.jc_classes.specs.NameLists.{has, Lists}
use Rattle.jc_classes.specs.Names.{Name, name_cmp}
use Rattle.jc_index.specs.Indexes.{HaveUsers, users_of}
use Rattle.jc_index.proofs.indexes.Lists.{keys_list}
use Rattle.jc_report.specs.ClassRows.{required_rows}
use Rattle.jc_report.specs.Reports.{Class, GivesRow}
use Rattle.jc_report.specs.RowKeys.{row_key}
use Rattle.jc_report.specs.Rows.{AreRows, Row}
use Rattle.jc_report.proofs.row_keys.KeyOrder.{row_back, row_of}
use Rattle.jc_report.proofs.rows.RowsAreOne.{are_rows_one}
use Rattle.jc_linkage.specs.Holders.{CountsHolders, IsHolder}
use Rattle.jc_linkage.specs.Linkages.{AreHeldClasses, Linkage}
use Rattle.jc_linkage.specs.declared.dependants.Dependants.{Dependants}
use Rattle.jc_linkage.specs.inside.Holding.{IsHeld}
use Rattle.jc_linkage.specs.inside.Kept.{KeptMap, keys_of, names_kept}
use Rattle.jc_linkage.specs.inside.Kept.Relation.{Requires}
use Rattle.jc_linkage.proofs.held.Places.{kept_by}
use Rattle.jc_linkage.proofs.held.Required.{keys_required, required_keys}
use Rattle.jc_linkage.proofs.held.Rows.{class_given, key_given}

-- the users of an entry rise, and are so many; none where there is none
abbrev IsCounted : Option (Name × List Name) → ℕ → Type 0
IsCounted None n = n ≡ 0
IsCounted (Some entry) n = IsStrictlySortedBy name_cmp entry.1 × (n ≡ length entry.1)

module _ (a : Linkage) (kept : KeptMap) (dependants : Dependants) (held : IsHeld a.classes a.prefixes kept dependants) (classes : List Class) (h : AreHeldClasses a classes) where
  -- a user of a key requires its row, whose key it is
  record Uses (key user : Name) : Type 0 where
    holder : IsHolder classes (row_of key) user
    back : row_key (row_of key) ≡ key

  user_holds : (key user : Name) → has (users_of dependants.required key) user ≡ true → Uses key user
  user_holds key user there =
      let k = kept_by Requires (fin.get kept user) key (sym (held.linked Requires key user) ∙ there) in
      let found = class_given a kept held.parts required_rows keys_of (keys_required a) classes h user k.0 k.1 key k.2 in
      let c = found.0 in
      let row = found.1 in
      let same : row ≡ row_of key = sym (row_back row) ∙ ap row_of found.5 in
      record {
        holder = record { class = c; among = found.2; named = found.3; gives = subst (Contains (required_rows c.facts c.part)) same found.4 };
        back = ap row_key (sym same) ∙ found.5;
      }

  holder_uses : (key : Name) → row_key (row_of key) ≡ key → (n : Name) → IsHolder classes (row_of key) n → has (users_of dependants.required key) n ≡ true
  holder_uses key back n g =
      let k = key_given a kept held.parts required_rows keys_of (keys_required a) classes h (row_of key) (record { class = g.class; among = g.among; gives = g.gives }) in
      held.linked Requires key n
      ∙ ap (λ o. has (names_kept Requires o) key) (ap (fin.get kept) (sym g.named) ∙ k.1)
      ∙ ap (has (keys_of k.0)) (sym back)
      ∙ k.2

  holders_listed : (key user : Name) (list : List Name) → has (users_of dependants.required key) user ≡ true → fin.get dependants.required key ≡ Some list → IsStrictlySortedBy name_cmp list → Lists list (IsHolder classes (row_of key))
  holders_listed key user list there at rises =
      let is : users_of dependants.required key ≡ list = ap (λ o. unwrap_or o []) at in
      let back = (user_holds key user there).back in
      record {
        rises = rises;
        sound = λ n e. (user_holds key n (ap (λ xs. has xs n) is ∙ e)).holder;
        complete = λ n g. ap (λ xs. has xs n) (sym is) ∙ holder_uses key back n g;
      }

  -- ---- the rows that are required, by their places

  module _ (used : HaveUsers dependants.required)
      (rows : List Row) (are : AreRows rows (GivesRow required_rows classes)) (place : ℕ) where
    row_at : slice_get rows place ≡ option_map row_of (slice_get (fin.keys dependants.required) place)
    row_at =
        let keys = fin.keys dependants.required in
        let same : rows ≡ map row_of keys = are_rows_one (GivesRow required_rows classes) rows (map row_of keys) are (required_keys a kept dependants held classes h keys (keys_list dependants.required) used) in
        ap (λ rs. slice_get rs place) same ∙ slice_get-map row_of keys place

    key_at : slice_get (fin.keys dependants.required) place ≡ option_map (λ (e : Name × List Name). e.0) (slice_get (fin.entries dependants.required) place)
    key_at = slice_get-map (λ (e : Name × List Name). e.0) (fin.entries dependants.required) place

    -- by the entry at the place
    counted_at : (entry : Option (Name × List Name)) → slice_get (fin.entries dependants.required) place ≡ entry
        → (n : ℕ) → IsCounted entry n → CountsHolders classes (slice_get rows place) n
    counted_at None e n counted = subst (λ o. CountsHolders classes o n) (sym (row_at ∙ ap (option_map row_of) (key_at ∙ ap (option_map (λ (e : Name × List Name). e.0)) e))) counted
    counted_at (Some entry) e n counted =
        let at : fin.get dependants.required entry.0 ≡ Some entry.1 = get_from_entry dependants.required entry.0 entry.1 (
          place,
          slice_get_within (fin.entries dependants.required) place entry e,
          get_or_from_slice_get (fin.entries dependants.required) place entry entry e,
        ) in
        let user = used entry.0 (ap is_some at) in
        subst (λ o. CountsHolders classes o n) (sym (row_at ∙ ap (option_map row_of) (key_at ∙ ap (option_map (λ (e : Name × List Name). e.0)) e)))
        (entry.1, holders_listed entry.0 user.0 entry.1 user.1 at counted.0, counted.1)

    pub no_row : None ≡ option_map (λ (e : Name × List Name). e.1) (slice_get (fin.entries dependants.required) place) → CountsHolders classes (slice_get rows place) 0
    no_row e = by (slice_get (fin.entries dependants.required) place) refl e
      where
        by : (entry : Option (Name × List Name)) → slice_get (fin.entries dependants.required) place ≡ entry → None ≡ option_map (λ (e : Name × List Name). e.1) entry → CountsHolders classes (slice_get rows place) 0
        by None at e = counted_at None at 0 refl
        by (Some entry) at e = absurd cc

    pub holders_counted : (list : List Name) → Some list ≡ option_map (λ (e : Name × List Name). e.1) (slice_get (fin.entries dependants.required) place) → IsStrictlySortedBy name_cmp list
        → (n : ℕ) → n ≡ length list → CountsHolders classes (slice_get rows place) n
    holders_counted list e rises n counted = by (slice_get (fin.entries dependants.required) place) refl e
      where
        by : (entry : Option (Name × List Name)) → slice_get (fin.entries dependants.required) place ≡ entry → Some list ≡ option_map (λ (e : Name × List Name). e.1) entry → CountsHolders classes (slice_get rows place) n
        by None at e = absurd cc
        by (Some entry) at e =
            let same : list ≡ entry.1 = same_Some list entry.1 e in
            counted_at (Some entry) at n (subst (IsStrictlySortedBy name_cmp) same rises, counted ∙ ap length same)
