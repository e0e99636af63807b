-- The rows that classes give, one class after another.
use Rattle.std.proofs.Common.{◌≡◌, ◌∙◌, ◌+◌, ◌<◌, ◌≤◌, ◌++◌, ◌∷◌, ℕ, List, [], ap, sym, take, get_or, length, subst}
use Rattle.std.specs.List.{Contains, flat_map}
use Rattle.std.proofs.lemmas.List.{flat_map_more, take_more, take_all}
use Rattle.jc_base.proofs.Membership.{from_has, has_from, has-flat_map, has-from_flat_map}
use Rattle.jc_classes.specs.Facts.{Facts}
use Rattle.jc_classes.specs.Parts.{Part}
use Rattle.jc_report.specs.Reports.{Class, GivesRow}
use Rattle.jc_report.specs.Rows.{AreRows, Row}
use Rattle.jc_report.specs.inside.RowSets.{HoldSameRows}
use Rattle.jc_report.proofs.rows.SameRows.{same_rows_more, same_rows_through}

module _ (rows : Facts → Part → List Row) where
  abbrev pub class_gives : Class → List Row
  class_gives c = rows c.facts c.part

  abbrev pub rows_given : List Class → List Row
  rows_given classes = flat_map class_gives classes

  -- one class on
  pub rows_more : (classes : List Class) (n : ℕ) (c given : Class) (old new : List Row) → n < length classes → c ≡ get_or classes n c → given ≡ c
      → HoldSameRows old (rows_given (take n classes)) → HoldSameRows new (old ++ class_gives given) → HoldSameRows new (rows_given (take (n + 1) classes))
  rows_more classes n c given old new lt is same so_far further =
      let more : rows_given (take n classes) ++ class_gives given ≡ rows_given (take (n + 1) classes) =
      flat_map_more class_gives [] (take n classes) given
      ∙ ap rows_given (ap (λ y. take n classes ++ y ∷ []) (same ∙ is) ∙ sym (take_more classes n c lt)) in
      subst (HoldSameRows new) more
      (same_rows_through new (old ++ class_gives given) _ further (same_rows_more old (rows_given (take n classes)) (class_gives given) so_far))

  of_a_class : (classes : List Class) (row : Row) → Contains (rows_given classes) row → GivesRow rows classes row
  of_a_class classes row h =
      let found = has-from_flat_map class_gives classes row (has_from (rows_given classes) row h) in
      record { class = found.0; among = from_has classes found.0 found.1; gives = from_has (class_gives found.0) row found.2 }

  given : (classes : List Class) (row : Row) → GivesRow rows classes row → Contains (rows_given classes) row
  given classes row g = from_has (rows_given classes) row (has-flat_map class_gives classes g.class row (has_from classes g.class g.among) (has_from (class_gives g.class) row g.gives))

  -- the rows of all classes, in order
  pub rows_of_all : (classes : List Class) (n : ℕ) (pushed put : List Row) → length classes ≤ n → HoldSameRows pushed (rows_given (take n classes))
      → AreRows put (Contains pushed) → AreRows put (GivesRow rows classes)
  rows_of_all classes n pushed put le same are =
      let all : HoldSameRows pushed (rows_given classes) = subst (λ (cs : List Class). HoldSameRows pushed (rows_given cs)) (take_all n classes le) same in
      record {
        rises = are.rises;
        sound = λ row h. of_a_class classes row ((all row).0 (are.sound row h));
        complete = λ row g. are.complete row ((all row).1 (given classes row g));
      }
