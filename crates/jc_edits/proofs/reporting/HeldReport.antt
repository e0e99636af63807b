-- What is held of files is their report.
use Rattle.std.proofs.Common.{◌≡◌, ◌∙◌, inl, inr, ⊎_elim, Bool, true, false, cond, List, [], ◌∷◌, map, Option, Some, refl, ap, sym, subst}
use Rattle.std.specs.FinMap as fin
use Rattle.std.specs.List.{Contains, filter, flat_map}
use Rattle.std.specs.List.Sorted.{IsStrictlySortedBy}
use Rattle.std.proofs.lemmas.Bool.{cases_Bool}
use Rattle.jc_base.specs.Bytes.{bytes_cmp, same_bytes}
use Rattle.jc_base.proofs.Membership.{Has, has_from, from_has, has-flat_map, has-from_flat_map, has-from_map, has-map}
use Rattle.jc_base.proofs.maps.FiniteMaps.{entry_from_get, get_from_entry, get-insert, keys_rise, same_bytes_decides}
use Rattle.jc_classes.specs.Facts.{Facts}
use Rattle.jc_classes.specs.Names.{Name, name_cmp}
use Rattle.jc_classes.specs.Parts.{IsPart, Part}
use Rattle.jc_classes.specs.Worlds.{World}
use Rattle.jc_linkage.specs.Linkages.{AreHeldClasses, IsHeldClass, Linkage, world_held}
use Rattle.jc_link.specs.Prefixes.{is_covered}
use Rattle.jc_link.specs.Tables.{class_at, or_built_in, stands_by}
use Rattle.jc_report.specs.ClassRows.{provided_rows, required_rows}
use Rattle.jc_report.specs.Files.{Files}
use Rattle.jc_report.specs.FileRows.{rows}
use Rattle.jc_report.specs.Reports.{Class, GivesRow, IsClassOf, IsReport, Report, facts_at, name_of, world_of}
use Rattle.jc_report.specs.RowKeys.{row_key}
use Rattle.jc_report.specs.Rows.{AreRows, Row}
use Rattle.jc_report.proofs.row_keys.KeyOrder.{row_of}
use Rattle.jc_report.proofs.row_keys.RowsOfKeys.{rows_of_keys}
use Rattle.jc_report.proofs.rows.RowsAreOne.{are_rows_one}

-- ---- each set of keys has a list that rises

key_set : List Name → fin.FinMap bytes_cmp (Unit {0})
key_set [] = fin.empty
key_set (k ∷ ks) = fin.insert (key_set ks) k tt

in_set : (ks : List Name) (k : Name) → Has ks k → fin.get (key_set ks) k ≡ Some tt
unfolding key_set
in_set [] k h = absurd h
in_set (x ∷ ks) k (inl e) = get-insert (key_set ks) x tt k ∙ ap (λ b. cond b (Some tt) (fin.get (key_set ks) k)) ((same_bytes_decides k x).1 (sym e))
in_set (x ∷ ks) k (inr h) = get-insert (key_set ks) x tt k ∙ by (same_bytes k x) (in_set ks k h)
  where
    by : (b : Bool) {o : Option (Unit {0})} → o ≡ Some tt → cond b (Some tt) o ≡ Some tt
    by true e = refl
    by false e = e

not_in : {A : Type 0} (k : Name) → fin.get (fin.empty {X = Unit {0}} {R = bytes_cmp}) k ≡ Some tt → A
not_in k h = absurd (let e = sym (fin.get-empty bytes_cmp k) ∙ h in cc)

from_set : (ks : List Name) (k : Name) → fin.get (key_set ks) k ≡ Some tt → Has ks k
unfolding key_set
from_set [] k h = not_in k h
from_set (x ∷ ks) k h =
    ⊎_elim
    (λ same. inl (sym ((same_bytes_decides k x).0 same)))
    (λ other. inr (from_set ks k (sym (get-insert (key_set ks) x tt k ∙ ap (λ b. cond b (Some tt) (fin.get (key_set ks) k)) other) ∙ h)))
    (cases_Bool (same_bytes k x))

key_list : List Name → List Name
key_list ks = fin.keys (key_set ks)

listed : (ks : List Name) (k : Name) → Has ks k → Contains (key_list ks) k
unfolding key_list
listed ks k h = from_has (fin.keys (key_set ks)) k (has-map (λ (e : Name × Unit {0}). e.0) (fin.entries (key_set ks)) (k, tt) (has_from (fin.entries (key_set ks)) (k, tt) (entry_from_get (key_set ks) k tt (in_set ks k h))))

unlisted : (ks : List Name) (k : Name) → Contains (key_list ks) k → Has ks k
unfolding key_list
unlisted ks k h =
    let found = has-from_map (λ (e : Name × Unit {0}). e.0) (fin.entries (key_set ks)) k (has_from (fin.keys (key_set ks)) k h) in
    subst (Has ks) found.2 (from_set ks found.0.0 (get_from_entry (key_set ks) found.0.0 found.0.1 (from_has (fin.entries (key_set ks)) found.0 found.1)))

key_list_rises : (ks : List Name) → IsStrictlySortedBy name_cmp (key_list ks)
unfolding key_list
key_list_rises ks = keys_rise (key_set ks)

-- ---- the rows of classes, in order

module _ (rows_by : Facts → Part → List Row) (classes : List Class) where
  class_gives : Class → List Row
  class_gives c = rows_by c.facts c.part

  keys_given : List Name
  keys_given = map row_key (flat_map class_gives classes)

  giving : (row : Row) → GivesRow rows_by classes row → Has (flat_map class_gives classes) row
  unfolding class_gives
  giving row g = has-flat_map class_gives classes g.class row (has_from classes g.class g.among) (has_from (class_gives g.class) row g.gives)

  given : (row : Row) → Has (flat_map class_gives classes) row → GivesRow rows_by classes row
  unfolding class_gives
  given row h =
      let found = has-from_flat_map class_gives classes row h in
      record { class = found.0; among = from_has classes found.0 found.1; gives = from_has (class_gives found.0) row found.2 }

  -- there is a list of them
  pub rows_there : (put : List Row) × AreRows put (GivesRow rows_by classes)
  unfolding keys_given
  rows_there = (
    map row_of (key_list keys_given),
    rows_of_keys (key_list keys_given) (GivesRow rows_by classes) (key_list_rises keys_given)
        (λ key h.
        let found = has-from_map row_key (flat_map class_gives classes) key (unlisted keys_given key h) in
        (found.0, given found.0 found.1, sym found.2))
        (λ row g. listed keys_given (row_key row) (has-map row_key (flat_map class_gives classes) row (giving row g))),
  )

-- ---- a linkage whose classes are those of files

module _ (f : Files) (a : Linkage) (meets : (name : Name) → class_at a.classes name ≡ facts_at f name) where
  pub worlds : world_held a ≡ world_of f a.prefixes
  worlds = λ i name. stands_by (or_built_in (meets name i) name) (is_covered a.prefixes name)

  class_of : (c : Class) → IsHeldClass a c → IsClassOf f a.prefixes c
  class_of c h = record {
    facts = sym (meets (name_of c)) ∙ h.facts;
    part = subst (λ (m : World). IsPart m (name_of c) c.part) worlds h.part;
  }

  held_class : (c : Class) → IsClassOf f a.prefixes c → IsHeldClass a c
  held_class c h = record {
    facts = meets (name_of c) ∙ h.facts;
    part = subst (λ (m : World). IsPart m (name_of c) c.part) (sym worlds) h.part;
  }

  -- the classes of a report are held
  pub held_classes : (r : Report) → IsReport f a.prefixes r → AreHeldClasses a r.classes
  held_classes r is = record {
    rises = is.rises;
    sound = λ k d lt. held_class _ (is.sound k d lt);
    complete = λ name c h. is.complete name c (sym (meets name) ∙ h);
  }

  -- there is a report with the classes that are held
  pub report_held : (classes : List Class) → AreHeldClasses a classes → (r : Report) × IsReport f a.prefixes r × (classes ≡ r.classes)
  report_held classes held =
      let provided = rows_there provided_rows classes in
      let required = rows_there required_rows classes in (
        record { files = rows f; classes = classes; circular = map name_of (filter (λ c. c.part.circular) classes); provided = provided.0; required = required.0 },
        record {
          files = refl;
          rises = held.rises;
          sound = λ k d lt. class_of _ (held.sound k d lt);
          complete = λ name c h. held.complete name c (meets name ∙ h);
          circular = refl;
          provided = provided.1;
          required = required.1;
        },
        refl,
      )

  -- rows that are those of the classes held are those of the report
  pub provided_held : (put : List Row) → ((classes : List Class) → AreHeldClasses a classes → AreRows put (GivesRow provided_rows classes)) → (r : Report) → IsReport f a.prefixes r → put ≡ r.provided
  provided_held put are r is = are_rows_one (GivesRow provided_rows r.classes) put r.provided (are r.classes (held_classes r is)) is.provided

  pub required_held : (put : List Row) → ((classes : List Class) → AreHeldClasses a classes → AreRows put (GivesRow required_rows classes)) → (r : Report) → IsReport f a.prefixes r → put ≡ r.required
  required_held put are r is = are_rows_one (GivesRow required_rows r.classes) put r.required (are r.classes (held_classes r is)) is.required
