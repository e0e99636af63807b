-- The rows that the held classes give, from the keys that are kept.
use Rattle.std.proofs.Common.{◌≡◌, ◌∙◌, true, List, Some, map, sym, ap, subst}
use Rattle.std.proofs.lemmas.List.Elements.{All-contains}
use Rattle.std.specs.FinMap as fin
use Rattle.std.specs.List.{Contains}
use Rattle.std.specs.List.Sorted.{IsStrictlySortedBy}
use Rattle.jc_base.proofs.Membership.{Has, from_has, has_from, has-from_map, has-map}
use Rattle.jc_classes.specs.Facts.{Facts}
use Rattle.jc_classes.specs.NameLists.{has}
use Rattle.jc_classes.specs.Names.{Name, name_cmp}
use Rattle.jc_classes.specs.Parts.{IsPart, Part}
use Rattle.jc_classes.proofs.numbering.Rising.{contains_of, has_of}
use Rattle.jc_classes.proofs.worlds.Parts.{part_one}
use Rattle.jc_link.specs.Closures.{facts_standing}
use Rattle.jc_link.specs.Tables.{class_at}
use Rattle.jc_report.specs.Reports.{Class, GivesRow, name_of}
use Rattle.jc_report.specs.RowKeys.{row_key}
use Rattle.jc_report.specs.Rows.{AreRows, Row}
use Rattle.jc_report.proofs.row_keys.KeyOrder.{row_of}
use Rattle.jc_report.proofs.row_keys.RowsOfKeys.{rows_of_keys}
use Rattle.jc_linkage.specs.Linkages.{AreHeldClasses, IsHeldClass, Linkage, given, world_held}
use Rattle.jc_linkage.specs.declared.class_entry.ClassEntry.{ClassEntry}
use Rattle.jc_linkage.specs.inside.Kept.{AreKeys, IsKept, IsKeptOf, KeptMap}
use Rattle.jc_linkage.proofs.held.Places.{facts_of, kept_of, record_given, some_one}

-- a class that is held, by its name
pub class_of : (a : Linkage) (classes : List Class) → AreHeldClasses a classes → (d : Name) (f : Facts) (p : Part) → class_at a.classes d ≡ Some f → IsPart (world_held a) d p
    → (c : Class) × Contains classes c × (name_of c ≡ d) × (c.facts ≡ f) × (c.part ≡ p)
class_of a classes h d f p e part =
    let found = has-from_map name_of classes d (has_from (map name_of classes) d (h.complete d f e)) in
    let c = found.0 in
    let there = from_has classes c found.1 in
    let is = All-contains (IsHeldClass a) classes c h.sound there in (
      c,
      there,
      found.2,
      some_one (sym is.facts ∙ ap (class_at a.classes) found.2 ∙ e),
      part_one (world_held a) d c.part p (subst (λ (n : Name). IsPart (world_held a) n c.part) found.2 is.part) part,
    )

module _ (a : Linkage) (kept : KeptMap) (held : IsKept (given a) (world_held a) kept)
    (rows : Facts → Part → List Row) (keys : ClassEntry → List Name)
    (are : (d : Name) (f : Facts) (k : ClassEntry) → IsKeptOf (world_held a) d k → facts_standing (world_held a d) ≡ Some f → AreKeys (keys k) (rows f k.part)) where
  -- a key that is kept of a class is that of a row that the class gives
  row_kept : (d : Name) (k : ClassEntry) → fin.get kept d ≡ Some k → (key : Name) → has (keys k) key ≡ true
      → (f : Facts) × (class_at a.classes d ≡ Some f) × ((row : Row) × Has (rows f k.part) row × (row_key row ≡ key))
  row_kept d k e key there =
      let f = facts_of a kept held d k e in
      let ks = are d f.0 k (held.sound d k e) (record_given a d f.0 f.1) in
      let all = map row_key (rows f.0 k.part) in
      (f.0, f.1, has-from_map row_key (rows f.0 k.part) key (has_from all key (contains_of all key (sym (ks key) ∙ there))))

  module _ (classes : List Class) (h : AreHeldClasses a classes) where
    -- a key that is kept with a name is that of a row that the class of the name gives
    pub class_given : (d : Name) (k : ClassEntry) → fin.get kept d ≡ Some k → (key : Name) → has (keys k) key ≡ true
        → (c : Class) × (row : Row) × Contains classes c × (name_of c ≡ d) × Contains (rows c.facts c.part) row × (row_key row ≡ key)
    class_given d k e key there =
        let found = row_kept d k e key there in
        let f = found.0 in
        let row = found.2.0 in
        let c = class_of a classes h d f k.part found.1 (held.sound d k e).part in
        let same : rows f k.part ≡ rows c.0.facts c.0.part = (λ i. rows (sym c.3 i) (sym c.4 i)) in
        (c.0, row, c.1, c.2, subst (λ rs. Contains rs row) same (from_has (rows f k.part) row found.2.1), found.2.2)

    row_given : (d : Name) (k : ClassEntry) → fin.get kept d ≡ Some k → (key : Name) → has (keys k) key ≡ true → (row : Row) × GivesRow rows classes row × (key ≡ row_key row)
    row_given d k e key there =
        let found = class_given d k e key there in
        (found.1, record { class = found.0; among = found.2; gives = found.4 }, sym found.5)

    pub key_given : (row : Row) (g : GivesRow rows classes row) → (k : ClassEntry) × (fin.get kept (name_of g.class) ≡ Some k) × (has (keys k) (row_key row) ≡ true)
    key_given row g =
        let c = g.class in
        let is = All-contains (IsHeldClass a) classes c h.sound g.among in
        let k = kept_of a kept held (name_of c) c.facts is.facts in
        let of = held.sound (name_of c) k.0 k.1 in
        let same = part_one (world_held a) (name_of c) c.part k.0.part is.part of.part in
        let ks = are (name_of c) c.facts k.0 of (record_given a (name_of c) c.facts is.facts) in
        let all = map row_key (rows c.facts k.0.part) in
        let there : Has (rows c.facts k.0.part) row = subst (λ (p : Part). Has (rows c.facts p) row) same (has_from (rows c.facts c.part) row g.gives) in (
          k.0,
          k.1,
          ks (row_key row) ∙ has_of all (row_key row) (from_has all (row_key row) (has-map row_key (rows c.facts k.0.part) row there)),
        )

    pub rows_of_kept : (all : List Name) → IsStrictlySortedBy name_cmp all
        → ((key : Name) → has all key ≡ true → (d : Name) × (k : ClassEntry) × (fin.get kept d ≡ Some k) × (has (keys k) key ≡ true))
        → ((d : Name) (k : ClassEntry) → fin.get kept d ≡ Some k → (key : Name) → has (keys k) key ≡ true → has all key ≡ true)
        → AreRows (map row_of all) (GivesRow rows classes)
    rows_of_kept all rises sound complete = rows_of_keys all (GivesRow rows classes) rises
        (λ key there. let k = sound key (has_of all key there) in row_given k.0 k.1 k.2 key k.3)
        (λ row g. let k = key_given row g in contains_of all (row_key row) (complete (name_of g.class) k.0 k.1 (row_key row) k.2))
