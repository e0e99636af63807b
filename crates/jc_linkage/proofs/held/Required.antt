-- The rows that the held classes require.
use Rattle.std.proofs.Common.{◌≡◌, ◌∙◌, true, List, [], ◌∷◌, Some, None, Option, is_some, map, refl, sym, ap, subst}
use Rattle.std.proofs.lemmas.Bool.{false≢true}
use Rattle.std.specs.Prelude.{unwrap_or}
use Rattle.std.specs.FinMap as fin
use Rattle.jc_classes.specs.Facts.{Facts}
use Rattle.jc_classes.specs.NameLists.{has, Lists}
use Rattle.jc_classes.specs.Names.{Name}
use Rattle.jc_index.specs.Indexes.{HaveUsers, UserLists, is_key, users_of}
use Rattle.jc_link.specs.Closures.{facts_standing}
use Rattle.jc_report.specs.ClassRows.{required_rows}
use Rattle.jc_report.specs.Reports.{Class, GivesRow}
use Rattle.jc_report.proofs.row_keys.KeyOrder.{row_back, row_of}
use Rattle.jc_report.specs.RowKeys.{row_key}
use Rattle.jc_report.specs.Rows.{AreRows, Row}
use Rattle.jc_index.proofs.indexes.Lists.{keys_list}
use Rattle.jc_linkage.specs.Linkages.{AreHeldClasses, Linkage, world_held}
use Rattle.jc_linkage.specs.declared.class_entry.ClassEntry.{ClassEntry}
use Rattle.jc_linkage.specs.declared.dependants.Dependants.{Dependants}
use Rattle.jc_linkage.specs.inside.Holding.{IsHeld}
use Rattle.jc_linkage.specs.inside.Kept.{AreKeys, IsKeptOf, KeptMap, keys_of, names_kept, required_by}
use Rattle.jc_linkage.specs.inside.Kept.Relation.{Requires}
use Rattle.jc_linkage.proofs.held.Places.{kept_by}
use Rattle.jc_linkage.proofs.held.Rows.{rows_of_kept}

rows_back : (rows : List Row) → map row_of (map row_key rows) ≡ rows
rows_back [] = refl
rows_back (row ∷ rows) = (λ i. row_back row i ∷ rows_back rows i)

pub keys_required : (a : Linkage) (d : Name) (f : Facts) (k : ClassEntry) → IsKeptOf (world_held a) d k → facts_standing (world_held a d) ≡ Some f → AreKeys (keys_of k) (required_rows f k.part)
keys_required a d f k of e = subst (λ o. AreKeys (keys_of k) (required_by o k.part)) e of.required

module _ (a : Linkage) (kept : KeptMap) (dependants : Dependants) (held : IsHeld a.classes a.prefixes kept dependants) (classes : List Class) (h : AreHeldClasses a classes) where
  key_used : (lists : UserLists) (key user : Name) → has (users_of lists key) user ≡ true → is_key lists key ≡ true
  key_used lists key user there = by (fin.get lists key) there
    where
      by : (o : Option (List Name)) → has (unwrap_or o []) user ≡ true → is_some o ≡ true
      by (Some users) e = refl
      by None e = absurd (false≢true e)

  pub required_keys : (keys : List Name) → Lists keys (λ name. is_key dependants.required name ≡ true)
      → HaveUsers dependants.required → AreRows (map row_of keys) (GivesRow required_rows classes)
  required_keys keys lists used =
      rows_of_kept a kept held.parts required_rows keys_of (keys_required a) classes h keys lists.rises
      (λ key there.
      let user = used key (lists.sound key there) in
      let found = kept_by Requires (fin.get kept user.0) key (sym (held.linked Requires key user.0) ∙ user.1) in
      (user.0, found.0, found.1, found.2))
      (λ d k e key there. lists.complete key (key_used dependants.required key d (held.linked Requires key d ∙ ap (λ o. has (names_kept Requires o) key) e ∙ there)))

  -- the rows whose keys are those that have users
  pub rows_required : (rows : List Row) → map row_key rows ≡ fin.keys dependants.required → HaveUsers dependants.required → AreRows rows (GivesRow required_rows classes)
  rows_required rows same used =
      subst (λ (all : List Row). AreRows all (GivesRow required_rows classes)) (ap (map row_of) (sym same) ∙ rows_back rows)
      (required_keys (fin.keys dependants.required) (keys_list dependants.required) used)
