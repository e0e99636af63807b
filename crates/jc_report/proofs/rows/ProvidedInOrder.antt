-- A class's own row and those of its open members, by the numbers of these in order, are what it provides.
use Rattle.std.proofs.Common.{◌≡◌, ◌∙◌, inl, inr, ℕ, Bool, true, false, List, [], ◌∷◌, ◌++◌, map, None, refl, sym, ap, subst}
use Rattle.std.proofs.lemmas.Bool.{false≢true}
use Rattle.std.specs.Prelude.{if◌then◌else◌, ◌&&◌}
use Rattle.std.specs.declared.cmp.Ordering.TheVariants.{Less}
use Rattle.std.specs.Cmp.{nat_cmp_total, tied_itself}
use Rattle.std.specs.List.{AllByRecursion, Contains, filter}
use Rattle.std.specs.List.Sorted.{IsStrictlySortedBy}
use Rattle.std.specs.Ordering.{nat_cmp, ordering_then}
use Rattle.jc_base.proofs.Membership.{Has, from_has, has_from, has-cases, has-from_map, has-left, has-map, has-right}
use Rattle.jc_base.proofs.maps.FiniteMaps.{bytes_cmp_total}
use Rattle.jc_file.specs.AccessFlags.{has, public}
use Rattle.jc_classes.specs.Facts.{Facts, Key, Member}
use Rattle.jc_classes.specs.MemberOrder.{IsOrder, key_cmp}
use Rattle.jc_classes.specs.Names.{Name}
use Rattle.jc_classes.specs.Parts.{Part}
use Rattle.jc_classes.specs.Worlds.{key_of}
use Rattle.jc_classes.specs.declared.reference.ReferenceKind.{ReferenceKind}
use Rattle.jc_classes.specs.declared.reference.ReferenceKind.TheVariants as kinds
use Rattle.jc_report.specs.ClassRows.{class_row, is_loaded, is_open, is_open_method, member_row, open_rows, provided_rows}
use Rattle.jc_report.specs.Rows.{AreRows, Row, kind_number, row_cmp}
use Rattle.jc_report.specs.inside.MemberRows.{is_open_by, key_row, keys_after, members_by, open_keys, rows_by}
use Rattle.jc_report.proofs.rows.KeysInOrder.{keys_left_complete, keys_left_rise, keys_left_sound}
use Rattle.jc_report.proofs.rows.RisingLists.{rises_append}

module _ (class : Name) where
  by_key : (kind : ReferenceKind) (a b : Key) → row_cmp (key_row class kind a) (key_row class kind b) ≡ key_cmp a b
  by_key kind a b = λ i. ordering_then (tied_itself bytes_cmp_total class i) (ordering_then (tied_itself nat_cmp_total (kind_number kind) i) (key_cmp a b))

  by_kind : (j k : ReferenceKind) (a b : Key) → nat_cmp (kind_number j) (kind_number k) ≡ Less → row_cmp (key_row class j a) (key_row class k b) ≡ Less
  by_kind j k a b less = λ i. ordering_then (tied_itself bytes_cmp_total class i) (ordering_then (less i) (key_cmp a b))

  above : (kind : ReferenceKind) (a : Key) (keys : List Key) → AllByRecursion (λ b. key_cmp a b ≡ Less) keys → AllByRecursion (λ r. row_cmp (key_row class kind a) r ≡ Less) (map (key_row class kind) keys)
  above kind a [] h = tt
  above kind a (b ∷ keys) h = (by_key kind a b ∙ h.0, above kind a keys h.1)

  rows_rise : (kind : ReferenceKind) (keys : List Key) → IsStrictlySortedBy key_cmp keys → IsStrictlySortedBy row_cmp (map (key_row class kind) keys)
  unfolding IsStrictlySortedBy
  rows_rise kind [] h = tt
  rows_rise kind (a ∷ keys) h = (above kind a keys h.0, rows_rise kind keys h.1)

-- ---- what passes a test

has-filter : (keeps : Member → Bool) (xs : List Member) (x : Member) → Has xs x → keeps x ≡ true → Has (filter keeps xs) x
has-filter keeps [] x h is = absurd h
has-filter keeps (y ∷ xs) x h is = by (keeps y) refl h (λ there. has-filter keeps xs x there is)
  where
    by : (b : Bool) → keeps y ≡ b → Has (y ∷ xs) x → (Has xs x → Has (filter keeps xs) x) → Has (if b then y ∷ filter keeps xs else filter keeps xs) x
    by true e (inl same) rest = inl same
    by true e (inr there) rest = inr (rest there)
    by false e (inl same) rest = absurd (false≢true (sym e ∙ ap keeps same ∙ is))
    by false e (inr there) rest = rest there

has-from_filter : (keeps : Member → Bool) (xs : List Member) (x : Member) → Has (filter keeps xs) x → Has xs x × (keeps x ≡ true)
has-from_filter keeps [] x h = absurd h
has-from_filter keeps (y ∷ xs) x h = by (keeps y) refl h (has-from_filter keeps xs x)
  where
    by : (b : Bool) → keeps y ≡ b → Has (if b then y ∷ filter keeps xs else filter keeps xs) x → (Has (filter keeps xs) x → Has xs x × (keeps x ≡ true)) → Has (y ∷ xs) x × (keeps x ≡ true)
    by true e (inl same) rest = (inl same, ap keeps (sym same) ∙ e)
    by true e (inr there) rest = let found = rest there in (inr found.0, found.1)
    by false e there rest = let found = rest there in (inr found.0, found.1)

-- ---- the rows of the members of a kind

module _ (f : Facts) (kind : ReferenceKind) (keeps : Member → Bool) (same : (m : Member) → is_open_by kind m ≡ keeps m) (order : List ℕ) (is : IsOrder (members_by kind f) order) where
  abbrev members_rows : List Row
  members_rows = map (member_row f.name kind) (filter keeps (members_by kind f))

  kind_rises : IsStrictlySortedBy row_cmp (rows_by kind f order)
  kind_rises = rows_rise f.name kind (keys_after None (open_keys kind f order)) (keys_left_rise kind f order is)

  kind_sound : (row : Row) → Has (rows_by kind f order) row → Has members_rows row
  kind_sound row h =
      let k = has-from_map (key_row f.name kind) (keys_after None (open_keys kind f order)) row h in
      let m = keys_left_sound kind f order is k.0 k.1 in
      let there = has-map (member_row f.name kind) (filter keeps (members_by kind f)) m.0 (has-filter keeps (members_by kind f) m.0 m.1 (sym (same m.0) ∙ m.2)) in
      subst (Has members_rows) (ap (key_row f.name kind) m.3 ∙ k.2) there

  kind_complete : (row : Row) → Has members_rows row → Has (rows_by kind f order) row
  kind_complete row h =
      let m = has-from_map (member_row f.name kind) (filter keeps (members_by kind f)) row h in
      let own = has-from_filter keeps (members_by kind f) m.0 m.1 in
      let there = has-map (key_row f.name kind) (keys_after None (open_keys kind f order)) (key_of m.0) (keys_left_complete kind f order is m.0 own.0 (same m.0 ∙ own.1)) in
      subst (Has (rows_by kind f order)) m.2 there

of_kind : (f : Facts) (kind : ReferenceKind) (order : List ℕ) (row : Row) → Has (rows_by kind f order) row → (k : Key) × (key_row f.name kind k ≡ row)
of_kind f kind order row h = let k = has-from_map (key_row f.name kind) (keys_after None (open_keys kind f order)) row h in (k.0, k.2)

module _ (f : Facts) (fields methods : List ℕ) (by_field : IsOrder f.fields fields) (by_method : IsOrder f.methods methods) where
  abbrev field_rows : List Row
  field_rows = map (member_row f.name kinds.Field) (filter is_open f.fields)

  abbrev method_rows : List Row
  method_rows = map (member_row f.name kinds.Method) (filter is_open_method f.methods)

  abbrev of_fields : List Row
  of_fields = rows_by kinds.Field f fields

  abbrev of_methods : List Row
  of_methods = rows_by kinds.Method f methods

  members_rise : IsStrictlySortedBy row_cmp (of_fields ++ of_methods)
  members_rise = rises_append row_cmp of_fields of_methods
      (kind_rises f kinds.Field is_open (λ m. refl) fields by_field)
      (kind_rises f kinds.Method is_open_method (λ m. refl) methods by_method)
      (λ x y h k.
      let a = of_kind f kinds.Field fields x h in
      let b = of_kind f kinds.Method methods y k in
      (λ i. row_cmp (sym a.1 i) (sym b.1 i)) ∙ by_kind f.name kinds.Field kinds.Method a.0 b.0 refl)

  member_above : (row : Row) → Has (of_fields ++ of_methods) row → row_cmp (class_row f.name) row ≡ Less
  member_above row h = elim (has-cases of_fields of_methods row h) [
    | inl k ↦ let a = of_kind f kinds.Field fields row k in ap (row_cmp (class_row f.name)) (sym a.1) ∙ by_kind f.name kinds.Class kinds.Field (record { name = []; descriptor = [] }) a.0 refl
    | inr k ↦ let a = of_kind f kinds.Method methods row k in ap (row_cmp (class_row f.name)) (sym a.1) ∙ by_kind f.name kinds.Class kinds.Method (record { name = []; descriptor = [] }) a.0 refl
  ]

  all_rise : IsStrictlySortedBy row_cmp (class_row f.name ∷ [] ++ of_fields ++ of_methods)
  unfolding IsStrictlySortedBy
  all_rise = rises_append row_cmp (class_row f.name ∷ []) (of_fields ++ of_methods) (tt, tt) members_rise one
    where
      one : (x y : Row) → Has (class_row f.name ∷ []) x → Has (of_fields ++ of_methods) y → row_cmp x y ≡ Less
      one x y (inl e) k = ap (λ r. row_cmp r y) (sym e) ∙ member_above y k
      one x y (inr h) k = absurd h

  members_sound : (row : Row) → Has (of_fields ++ of_methods) row → Has (field_rows ++ method_rows) row
  members_sound row h = elim (has-cases of_fields of_methods row h) [
    | inl k ↦ has-left field_rows method_rows row (kind_sound f kinds.Field is_open (λ m. refl) fields by_field row k)
    | inr k ↦ has-right field_rows method_rows row (kind_sound f kinds.Method is_open_method (λ m. refl) methods by_method row k)
  ]

  members_complete : (row : Row) → Has (field_rows ++ method_rows) row → Has (of_fields ++ of_methods) row
  members_complete row h = elim (has-cases field_rows method_rows row h) [
    | inl k ↦ has-left of_fields of_methods row (kind_complete f kinds.Field is_open (λ m. refl) fields by_field row k)
    | inr k ↦ has-right of_fields of_methods row (kind_complete f kinds.Method is_open_method (λ m. refl) methods by_method row k)
  ]

  all_sound : (row : Row) → Has (class_row f.name ∷ of_fields ++ of_methods) row → Has (open_rows f) row
  all_sound row (inl e) = inl e
  all_sound row (inr h) = inr (members_sound row h)

  all_complete : (row : Row) → Has (open_rows f) row → Has (class_row f.name ∷ of_fields ++ of_methods) row
  all_complete row (inl e) = inl e
  all_complete row (inr h) = inr (members_complete row h)

  open_in_order : AreRows (class_row f.name ∷ [] ++ of_fields ++ of_methods) (Contains (open_rows f))
  open_in_order = record {
    rises = all_rise;
    sound = λ row h. from_has (open_rows f) row (all_sound row (has_from (class_row f.name ∷ of_fields ++ of_methods) row h));
    complete = λ row h. from_has (class_row f.name ∷ of_fields ++ of_methods) row (all_complete row (has_from (open_rows f) row h));
  }

  -- the class provides them where it is public and loads
  pub rows_in_order : (p : Part) → (is_loaded p.load && has f.flags public) ≡ true → AreRows (class_row f.name ∷ [] ++ of_fields ++ of_methods) (Contains (provided_rows f p))
  rows_in_order p e = subst (λ b. AreRows (class_row f.name ∷ [] ++ of_fields ++ of_methods) (Contains (if b then open_rows f else []))) (sym e) open_in_order

-- and else none
pub none_in_order : (f : Facts) (p : Part) → (is_loaded p.load && has f.flags public) ≡ false → AreRows [] (Contains (provided_rows f p))
unfolding IsStrictlySortedBy
none_in_order f p e = subst (λ b. AreRows [] (Contains (if b then open_rows f else []))) (sym e) none
  where
    none : AreRows [] (Contains [])
    none = record { rises = tt; sound = λ row h. h; complete = λ row h. h }
