-- The rows that each class provides in their order, one class behind another, are those that the classes provide.
use Rattle.std.proofs.Common.{◌≡◌, ◌∙◌, ◌⊎◌, inl, inr, List, [], ◌∷◌, ◌++◌, map, refl, sym, ap, subst}
use Rattle.std.specs.declared.cmp.Ordering.{Ordering}
use Rattle.std.specs.declared.cmp.Ordering.TheVariants.{Less, Equal, Greater}
use Rattle.std.specs.Ordering.{ordering_reverse}
use Rattle.std.specs.List.{Contains}
use Rattle.std.specs.List.Sorted.{IsStrictlySortedBy}
use Rattle.jc_base.proofs.Membership.{Has, from_has, has_from, has-cases, has-left, has-map, has-right}
use Rattle.jc_classes.specs.Names.{name_cmp}
use Rattle.jc_report.specs.ClassRows.{provided_rows}
use Rattle.jc_report.specs.Reports.{Class, GivesRow, name_of}
use Rattle.jc_report.specs.Rows.{AreRows, Row, row_cmp}
use Rattle.jc_report.specs.inside.ProvidedInOrder.{in_order, placed_by, provided_in, put}
use Rattle.jc_report.proofs.reports.RowsByClass.{by_class, no_classes}
use Rattle.jc_report.proofs.rows.OwnRows.{own_name}
use Rattle.jc_report.proofs.rows.RisingLists.{all_by, by_all, rises_append}
use Rattle.jc_report.proofs.rows.RowOrder.{row_cmp_total, tied_rows_same}

-- ---- rows in their order

put_sound : (r : Row) (xs : List Row) (y : Row) → Has (put r xs) y → (r ≡ y) ⊎ Has xs y
put_sound r [] y h = h
put_sound r (x ∷ xs) y h = by (row_cmp r x) h (put_sound r xs y)
  where
    by : (o : Ordering) → Has (placed_by o r x xs (put r xs)) y → (Has (put r xs) y → (r ≡ y) ⊎ Has xs y) → (r ≡ y) ⊎ Has (x ∷ xs) y
    by Less there rest = there
    by Equal there rest = inr there
    by Greater (inl e) rest = inr (inl e)
    by Greater (inr there) rest = elim (rest there) [ inl e ↦ inl e | inr k ↦ inr (inr k) ]

put_keeps : (r : Row) (xs : List Row) (y : Row) → Has xs y → Has (put r xs) y
put_keeps r [] y h = absurd h
put_keeps r (x ∷ xs) y h = by (row_cmp r x) h (put_keeps r xs y)
  where
    by : (o : Ordering) → Has (x ∷ xs) y → (Has xs y → Has (put r xs) y) → Has (placed_by o r x xs (put r xs)) y
    by Less there rest = inr there
    by Equal there rest = there
    by Greater (inl e) rest = inl e
    by Greater (inr there) rest = inr (rest there)

put_there : (r : Row) (xs : List Row) → Has (put r xs) r
put_there r [] = inl refl
put_there r (x ∷ xs) = by (row_cmp r x) refl (put_there r xs)
  where
    by : (o : Ordering) → row_cmp r x ≡ o → Has (put r xs) r → Has (placed_by o r x xs (put r xs)) r
    by Less e rest = inl refl
    by Equal e rest = inl (sym (tied_rows_same r x e))
    by Greater e rest = inr rest

turned : (r x : Row) → row_cmp r x ≡ Greater → row_cmp x r ≡ Less
turned r x e = row_cmp_total.antisymm x r ∙ ap ordering_reverse e

put_rises : (r : Row) (xs : List Row) → IsStrictlySortedBy row_cmp xs → IsStrictlySortedBy row_cmp (put r xs)
unfolding IsStrictlySortedBy
put_rises r [] h = (tt, tt)
put_rises r (x ∷ xs) h = by (row_cmp r x) refl (put_rises r xs h.1)
  where
    further : row_cmp r x ≡ Greater → (y : Row) → (r ≡ y) ⊎ Has xs y → row_cmp x y ≡ Less
    further e y (inl is) = ap (row_cmp x) (sym is) ∙ turned r x e
    further e y (inr there) = by_all (λ z. row_cmp x z ≡ Less) xs h.0 y there

    before : row_cmp r x ≡ Less → (y : Row) → Has (x ∷ xs) y → row_cmp r y ≡ Less
    before e y (inl is) = ap (row_cmp r) (sym is) ∙ e
    before e y (inr there) = row_cmp_total.trans r x y e (by_all (λ z. row_cmp x z ≡ Less) xs h.0 y there)

    by : (o : Ordering) → row_cmp r x ≡ o → IsStrictlySortedBy row_cmp (put r xs) → IsStrictlySortedBy row_cmp (placed_by o r x xs (put r xs))
    by Less e rest = (all_by (λ y. row_cmp r y ≡ Less) (x ∷ xs) (before e), h)
    by Equal e rest = h
    by Greater e rest = (all_by (λ y. row_cmp x y ≡ Less) (put r xs) (λ y there. further e y (put_sound r xs y there)), rest)

in_order_sound : (rows : List Row) (y : Row) → Has (in_order rows) y → Has rows y
in_order_sound [] y h = h
in_order_sound (r ∷ rows) y h = elim (put_sound r (in_order rows) y h) [ inl e ↦ inl e | inr there ↦ inr (in_order_sound rows y there) ]

in_order_complete : (rows : List Row) (y : Row) → Has rows y → Has (in_order rows) y
in_order_complete [] y h = h
in_order_complete (r ∷ rows) y (inl e) = subst (Has (put r (in_order rows))) e (put_there r (in_order rows))
in_order_complete (r ∷ rows) y (inr h) = put_keeps r (in_order rows) y (in_order_complete rows y h)

in_order_rises : (rows : List Row) → IsStrictlySortedBy row_cmp (in_order rows)
unfolding IsStrictlySortedBy
in_order_rises [] = tt
in_order_rises (r ∷ rows) = put_rises r (in_order rows) (in_order_rises rows)

pub are_in_order : (rows : List Row) → AreRows (in_order rows) (Contains rows)
are_in_order rows = record {
  rises = in_order_rises rows;
  sound = λ row h. from_has rows row (in_order_sound rows row (has_from (in_order rows) row h));
  complete = λ row h. from_has (in_order rows) row (in_order_complete rows row (has_from rows row h));
}

-- ---- one class behind another

own : (c : Class) (row : Row) → Contains (provided_rows c.facts c.part) row → row.class ≡ name_of c
own c row h = own_name c.facts c.part row (has_from (provided_rows c.facts c.part) row h)

module _ (c : Class) (classes : List Class) (above : (d : Class) → Has classes d → name_cmp (name_of c) (name_of d) ≡ Less) (rest : AreRows (provided_in classes) (GivesRow provided_rows classes)) where
  abbrev gives : List Row
  gives = provided_rows c.facts c.part

  abbrev first : List Row
  first = in_order gives

  abbrev others : List Row
  others = provided_in classes

  below : (x y : Row) → Has first x → Has others y → row_cmp x y ≡ Less
  below x y h k =
      let g = rest.sound y (from_has others y k) in
      let mine = own c x (from_has gives x (in_order_sound gives x h)) in
      by_class x y ((λ i. name_cmp (mine i) (own g.class y g.gives i)) ∙ above g.class (has_from classes g.class g.among))

  given : (row : Row) → Has first row ⊎ Has others row → GivesRow provided_rows (c ∷ classes) row
  given row (inl h) = record { class = c; among = from_has (c ∷ classes) c (inl refl); gives = from_has gives row (in_order_sound gives row h) }
  given row (inr k) =
      let g = rest.sound row (from_has others row k) in
      record { class = g.class; among = from_has (c ∷ classes) g.class (inr (has_from classes g.class g.among)); gives = g.gives }

  there : (row : Row) (g : GivesRow provided_rows (c ∷ classes) row) → Has (c ∷ classes) g.class → Has (first ++ others) row
  there row g (inl e) =
      let mine : Contains gives row = subst (λ (d : Class). Contains (provided_rows d.facts d.part) row) (sym e) g.gives in
      has-left first others row (in_order_complete gives row (has_from gives row mine))
  there row g (inr k) =
      has-right first others row (has_from others row (rest.complete row (record { class = g.class; among = from_has classes g.class k; gives = g.gives })))

  one_more : AreRows (first ++ others) (GivesRow provided_rows (c ∷ classes))
  one_more = record {
    rises = rises_append row_cmp first others (in_order_rises gives) rest.rises below;
    sound = λ row h. given row (has-cases first others row (has_from (first ++ others) row h));
    complete = λ row g. from_has (first ++ others) row (there row g (has_from (c ∷ classes) g.class g.among));
  }

pub rows_of_classes : (classes : List Class) → IsStrictlySortedBy name_cmp (map name_of classes) → AreRows (provided_in classes) (GivesRow provided_rows classes)
unfolding IsStrictlySortedBy
rows_of_classes [] rises = no_classes provided_rows own
rows_of_classes (c ∷ classes) rises =
    one_more c classes
    (λ d h. by_all (λ n. name_cmp (name_of c) n ≡ Less) (map name_of classes) rises.0 (name_of d) (has-map name_of classes d h))
    (rows_of_classes classes rises.1)
