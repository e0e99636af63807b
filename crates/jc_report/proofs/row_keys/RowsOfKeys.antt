-- The rows of keys that rise rise, and are those whose keys they are.
use Rattle.std.proofs.Common.{◌≡◌, ◌∙◌, inl, inr, List, [], ◌∷◌, map, refl, ap, sym, subst}
use Rattle.std.specs.declared.cmp.Ordering.TheVariants.{Less}
use Rattle.std.specs.List.{Contains, AllByRecursion}
use Rattle.std.specs.List.Sorted.{IsStrictlySortedBy}
use Rattle.jc_base.proofs.Membership.{Has, from_has, has_from, has-from_map, has-map}
use Rattle.jc_classes.specs.Names.{Name, name_cmp}
use Rattle.jc_report.specs.RowKeys.{row_key}
use Rattle.jc_report.specs.Rows.{AreRows, Row, row_cmp}
use Rattle.jc_report.proofs.row_keys.KeyOrder.{key_order, row_back, row_of}

-- it is the key of a row
record IsKey (key : Name) : Type 0 where
  row : Row
  is : key ≡ row_key row

its_row : (key : Name) (k : IsKey key) → row_of key ≡ k.row
its_row key k = ap row_of k.is ∙ row_back k.row

below : (x y : Name) → IsKey x → IsKey y → name_cmp x y ≡ Less → row_cmp (row_of x) (row_of y) ≡ Less
below x y k m less =
    (λ i. row_cmp (its_row x k i) (its_row y m i)) ∙ sym (key_order k.row m.row) ∙ (λ i. name_cmp (sym k.is i) (sym m.is i)) ∙ less

above : (x : Name) (keys : List Name) → IsKey x → ((y : Name) → Has keys y → IsKey y) → AllByRecursion (λ y. name_cmp x y ≡ Less) keys → AllByRecursion (λ r. row_cmp (row_of x) r ≡ Less) (map row_of keys)
above x [] k each h = tt
above x (y ∷ keys) k each h = (below x y k (each y (inl refl)) h.0, above x keys k (λ z there. each z (inr there)) h.1)

rises : (keys : List Name) → ((y : Name) → Has keys y → IsKey y) → IsStrictlySortedBy name_cmp keys → IsStrictlySortedBy row_cmp (map row_of keys)
unfolding IsStrictlySortedBy
rises [] each h = tt
rises (x ∷ keys) each h = (above x keys (each x (inl refl)) (λ z there. each z (inr there)) h.0, rises keys (λ z there. each z (inr there)) h.1)

module _ (keys : List Name) (P : Row → Type 0) where
  pub rows_of_keys : IsStrictlySortedBy name_cmp keys → ((key : Name) → Contains keys key → (row : Row) × P row × (key ≡ row_key row))
      → ((row : Row) → P row → Contains keys (row_key row)) → AreRows (map row_of keys) P
  rows_of_keys up sound complete = record {
    rises = rises keys (λ key there. let from = sound key (from_has keys key there) in record { row = from.0; is = from.2 }) up;
    sound = λ row h.
        let found = has-from_map row_of keys row (has_from (map row_of keys) row h) in
        let from = sound found.0 (from_has keys found.0 found.1) in
        let same : from.0 ≡ row = sym (row_back from.0) ∙ ap row_of (sym from.2) ∙ found.2 in
        subst P same from.1;
    complete = λ row p.
        let there = from_has (map row_of keys) (row_of (row_key row)) (has-map row_of keys (row_key row) (has_from keys (row_key row) (complete row p))) in
        subst (Contains (map row_of keys)) (row_back row) there;
  }
