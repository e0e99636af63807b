-- The names that were put in an order so far, and one more.
use Rattle.std.proofs.Common.{◌≡◌, ◌∙◌, ◌||◌, ◌&&◌, ◌++◌, ◌∷◌, Bool, Bor, List, Some, [], ap, cond, false, is_some, map, refl, sym, true}
use Rattle.std.proofs.lemmas.Bool.{false≢true}
use Rattle.std.proofs.lemmas.List.{map-append}
use Rattle.std.proofs.lemmas.List.Folds.{list_any-append}
use Rattle.std.specs.FinMap as fin
use Rattle.std.specs.FinMap.{FinMap}
use Rattle.std.specs.List.{list_any}
use Rattle.std.specs.declared.option.Option.{Option}
use Rattle.jc_base.proofs.maps.FiniteMaps.{get-insert, same_bytes_decides}
use Rattle.jc_classes.specs.Names.{Name}
use Rattle.jc_base.specs.Bytes.{bytes_cmp, same_bytes}
use Rattle.jc_session.specs.inside.FolderNames.{is_entry_name}

has_more : (n : Name) (seen : List (Bor Name)) (x : Bor Name) → list_any (same_bytes n) (map (λ y. y.now) (seen ++ x ∷ [])) ≡ (list_any (same_bytes n) (map (λ y. y.now) seen) || (same_bytes n x.now || false))
has_more n seen x = ap (list_any (same_bytes n)) (map-append (λ y. y.now) seen (x ∷ [])) ∙ list_any-append (same_bytes n) (map (λ y. y.now) seen) (x.now ∷ [])

taken : (same c e any : Bool) → (same ≡ true → e ≡ true) → cond same true (c || (e && any)) ≡ (c || (e && (any || (same || false))))
taken true true e any h = refl
taken true false true true h = refl
taken true false true false h = refl
taken true false false any h = absurd (false≢true (h refl))
taken false true e any h = refl
taken false false true true h = refl
taken false false true false h = refl
taken false false false any h = refl

passed : (same c e any : Bool) → (same ≡ true → e ≡ false) → (c || (e && any)) ≡ (c || (e && (any || (same || false))))
passed same true e any h = refl
passed same false false any h = refl
passed true false true any h = absurd (false≢true (sym (h refl)))
passed false false true true h = refl
passed false false true false h = refl

some_or : {V : Type 0} (same : Bool) (v : V) (o : Option V) → is_some (cond same (Some v) o) ≡ cond same true (is_some o)
some_or true v o = refl
some_or false v o = refl

test_of_same : (n k : Name) (b : Bool) → is_entry_name k ≡ b → same_bytes n k ≡ true → is_entry_name n ≡ b
test_of_same n k b e same = ap is_entry_name ((same_bytes_decides n k).0 same) ∙ e

module _ {V : Type 0} (first each : FinMap bytes_cmp V) (n : Name) (seen : List (Bor Name)) (x : Bor Name) (so_far : fin.contains_key each n ≡ (fin.contains_key first n || (is_entry_name n && list_any (same_bytes n) (map (λ y. y.now) seen)))) where
  pub name_taken : (v : V) → is_entry_name x.now ≡ true → fin.contains_key (fin.insert each x.now v) n ≡ (fin.contains_key first n || (is_entry_name n && list_any (same_bytes n) (map (λ y. y.now) (seen ++ x ∷ []))))
  name_taken v is =
      ap is_some (get-insert each x.now v n) ∙ some_or (same_bytes n x.now) v (fin.get each n) ∙ ap (cond (same_bytes n x.now) true) so_far
      ∙ taken (same_bytes n x.now) (fin.contains_key first n) (is_entry_name n) _ (test_of_same n x.now true is)
      ∙ ap (λ b. fin.contains_key first n || (is_entry_name n && b)) (sym (has_more n seen x))

  pub name_passed : is_entry_name x.now ≡ false → fin.contains_key each n ≡ (fin.contains_key first n || (is_entry_name n && list_any (same_bytes n) (map (λ y. y.now) (seen ++ x ∷ []))))
  name_passed is =
      so_far ∙ passed (same_bytes n x.now) (fin.contains_key first n) (is_entry_name n) _ (test_of_same n x.now false is)
      ∙ ap (λ b. fin.contains_key first n || (is_entry_name n && b)) (sym (has_more n seen x))
