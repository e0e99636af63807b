-- The one member that has a name.
use Rattle.std.proofs.Common.{◌≡◌, ◌⊎◌, inl, inr, ℕ, zero, suc, ◌+◌, ◌<◌, ◌≤◌, Bool, true, false, cond, List, [], ◌∷◌, length, Option, Some, None, slice_index, refl, sym, ap, subst, ◌∙◌, arith, ⊎_elim}
use Rattle.std.specs.Prelude.{◌==◌, option_and_then}
use Rattle.std.proofs.lemmas.Bool.{cases_Bool, cases_lt, cond-false, cond-true, false≢true}
use Rattle.std.proofs.lemmas.Bool.Decides.{nat_tests}
use Rattle.std.proofs.lemmas.Cmp.{alike_right}
use Rattle.std.specs.declared.cmp.Ordering.{Ordering}
use Rattle.std.specs.declared.cmp.Ordering.TheVariants.{Less, Equal, Greater}
use Rattle.std.specs.Ordering.{is_eq, is_gt, is_lt, ordering_then}
use Rattle.jc_base.proofs.maps.FiniteMaps.{bytes_cmp_total}
use Rattle.jc_classes.specs.Facts.{Member}
use Rattle.jc_classes.specs.Names.{Name, name_cmp, same_name}
use Rattle.jc_classes.specs.MemberOrder.{IsOrder}
use Rattle.jc_classes.specs.MethodLookup.{count_named, first_named, sole_named}
use Rattle.jc_classes.specs.inside.Ordered.{IsPlace, if_named, key_there, named_there}
use Rattle.jc_classes.proofs.members.Found.{at, eq_of, greater_of, place_of, places_apart, there_at, there_past}
use Rattle.jc_classes.proofs.members.Searching.{key_no_greater, number_within}

-- the first of two, where there is no second
abbrev pub alone : Option Member → Option Member → Option Member
alone None y = None
alone (Some x) None = Some x
alone (Some x) (Some y) = None

-- ---- how many have a name

not_one : (n : ℕ) → 2 ≤ n → (n == 1) ≡ false
not_one n h = grind (arith, nat_tests)

added : (b : Bool) (n : ℕ) → b ≡ true → cond b 1 0 + n ≡ suc n
added true n e = omega arith
added false n e = absurd (false≢true e)

not_added : (b : Bool) (n : ℕ) → b ≡ false → cond b 1 0 + n ≡ n
not_added true n e = absurd (false≢true (sym e))
not_added false n e = omega arith

count_none : (members : List Member) (name : Name) → ((number : ℕ) → number < length members → same_name (at members number).name name ≡ false) → count_named members name ≡ 0
count_none [] name h = refl
count_none (x ∷ members) name h = not_added (same_name x.name name) (count_named members name) (h 0 (omega arith)) ∙ count_none members name (λ number l. h (suc number) (omega (arith, l)))

-- the only one of a name is the first
count_one : (members : List Member) (name : Name) (number : ℕ) → number < length members → same_name (at members number).name name ≡ true
    → ((other : ℕ) → other < length members → (other ≡ number → ⊥) → same_name (at members other).name name ≡ false) → (count_named members name ≡ 1) × (first_named members name ≡ Some (at members number))
count_one [] name number l e h = absurd (omega (arith, l))
count_one (x ∷ members) name zero l e h = (
  added (same_name x.name name) (count_named members name) e ∙ ap suc (count_none members name (λ other m. h (suc other) (omega (arith, m)) (λ f. omega (arith, f)))),
  cond-true (same_name x.name name) (Some x) (first_named members name) e,
)
count_one (x ∷ members) name (suc number) l e h =
    let first : same_name x.name name ≡ false = h 0 (omega arith) (λ f. omega (arith, f)) in
    let rest = count_one members name number (omega (arith, l)) e (λ other m f. h (suc other) (omega (arith, m)) (λ g. f (omega (arith, g)))) in (
      not_added (same_name x.name name) (count_named members name) first ∙ rest.0,
      cond-false (same_name x.name name) (Some x) (first_named members name) first ∙ rest.1,
    )

count_some : (members : List Member) (name : Name) (number : ℕ) → number < length members → same_name (at members number).name name ≡ true → 1 ≤ count_named members name
count_some [] name number l e = absurd (omega (arith, l))
count_some (x ∷ members) name zero l e = omega (arith, added (same_name x.name name) (count_named members name) e)
count_some (x ∷ members) name (suc number) l e = omega (arith, count_some members name number (omega (arith, l)) e)

count_two : (members : List Member) (name : Name) (a b : ℕ) → a < b → b < length members → same_name (at members a).name name ≡ true → same_name (at members b).name name ≡ true → 2 ≤ count_named members name
count_two [] name a b m l e f = absurd (omega (arith, l))
count_two (x ∷ members) name a zero m l e f = absurd (omega (arith, m))
count_two (x ∷ members) name zero (suc b) m l e f = omega (arith, added (same_name x.name name) (count_named members name) e, count_some members name b (omega (arith, l)) f)
count_two (x ∷ members) name (suc a) (suc b) m l e f = omega (arith, count_two members name a b (omega (arith, m)) (omega (arith, l)) e f)

-- ---- those of a name stand together

name_no_greater : (o p : Ordering) → is_gt (ordering_then o p) ≡ false → is_gt o ≡ false
name_no_greater Less p e = refl
name_no_greater Equal p e = refl
name_no_greater Greater p e = e

name_less : (o : Ordering) (d : Name) → ordering_then o (name_cmp d []) ≡ Less → o ≡ Less
name_less Less d e = refl
name_less Equal [] e = absurd cc
name_less Equal (x ∷ d) e = absurd cc
name_less Greater d e = absurd cc

name_not_less : (o : Ordering) (d : Name) → is_lt (ordering_then o (name_cmp d [])) ≡ false → is_lt o ≡ false
name_not_less Less d e = e
name_not_less Equal d e = refl
name_not_less Greater d e = refl

module _ (members : List Member) (order : List ℕ) (h : IsOrder members order) (name : Name) (place : ℕ) (p : IsPlace members order (record { name = name; descriptor = [] }) place) where
  named : ℕ → Bool
  named i = same_name (at members (slice_index order i)).name name

  before_unnamed : (i : ℕ) → i < place → named i ≡ false
  unfolding named
  before_unnamed i l = ap is_eq (name_less _ (key_there members order i).descriptor (p.below i l))

  behind_unnamed : (i j : ℕ) → place ≤ i → i ≤ j → j < length order → named i ≡ false → named j ≡ false
  unfolding named
  behind_unnamed i j l m q none = ⊎_elim
      (λ less. ⊎_elim
      (λ t.
      let tied : name_cmp (key_there members order j).name name ≡ Equal = eq_of _ t in
      let here : name_cmp (key_there members order i).name (key_there members order j).name ≡ name_cmp (key_there members order i).name name = alike_right bytes_cmp_total (key_there members order j).name name (key_there members order i).name tied in
      let greater = greater_of (name_cmp (key_there members order i).name name) (name_not_less _ (key_there members order i).descriptor (p.above i l (omega (arith, less, q)))) none in
      absurd (false≢true (sym (name_no_greater _ _ (key_no_greater members order h i j less q)) ∙ ap is_gt here ∙ greater)))
      (λ f. f)
      (cases_Bool (named j)))
      (λ no_less. let one : j ≡ i = omega (arith, no_less, m) in ap (λ n. same_name (at members (slice_index order n)).name name) one ∙ none)
      (cases_lt i j)

  number : ℕ
  number = slice_index order place

  none_named : ((i : ℕ) → i < length order → named i ≡ false) → sole_named members name ≡ None
  unfolding named
  none_named g = ap (λ n. cond (n == 1) (first_named members name) None) (count_none members name (λ other l.
      let c = place_of members order h other l in subst (λ n. same_name (at members n).name name ≡ false) c.2 (g c.0 c.1)))

  one_named : place < length order → named place ≡ true → ((i : ℕ) → i < length order → place < i → named i ≡ false) → sole_named members name ≡ Some (at members number)
  unfolding named number
  one_named l e g =
      let one = count_one members name number (number_within members order h place l) e (λ other m differs.
      let c = place_of members order h other m in
      subst (λ n. same_name (at members n).name name ≡ false) c.2 (⊎_elim
      (λ less. before_unnamed c.0 less)
      (λ more. ⊎_elim (λ further. g c.0 c.1 further) (λ none. let same : place ≡ c.0 = omega (arith, more, none) in absurd (differs (sym c.2 ∙ ap (slice_index order) (sym same)))) (cases_lt place c.0))
      (cases_lt c.0 place))) in
      ap (λ n. cond (n == 1) (first_named members name) None) one.0 ∙ one.1

  two_named : place + 1 < length order → named place ≡ true → named (place + 1) ≡ true → sole_named members name ≡ None
  unfolding named
  two_named l e f =
      let next = slice_index order (place + 1) in
      let first_in = number_within members order h place (omega (arith, l)) in
      let next_in = number_within members order h (place + 1) l in
      let many : 2 ≤ count_named members name = ⊎_elim
      (λ less. count_two members name (slice_index order place) next less next_in e f)
      (λ more. ⊎_elim
      (λ less. count_two members name next (slice_index order place) less first_in f e)
      (λ none. absurd (places_apart members order h place (place + 1) (omega arith) l (omega (arith, more, none))))
      (cases_lt next (slice_index order place)))
      (cases_lt (slice_index order place) next) in
      cond-false (count_named members name == 1) (first_named members name) None (not_one (count_named members name) many)

  there_named : (i : ℕ) → i < length order → named_there members order i name ≡ cond (named i) (Some (at members (slice_index order i))) None
  unfolding named
  there_named i l = ap (option_and_then (if_named name)) (there_at members order h i l)

  none_there : (i : ℕ) → length order ≤ i → named_there members order i name ≡ None
  none_there i l = ap (option_and_then (if_named name)) (there_past members order i l)

  at_place : (b : Bool) → named place ≡ b → place < length order → sole_named members name ≡ alone (cond b (Some (at members number)) None) (named_there members order (place + 1) name)
  at_place false e l = none_named (λ i m. ⊎_elim (λ less. before_unnamed i less) (λ more. behind_unnamed place i (omega arith) more m e) (cases_lt i place))
  at_place true e l = by (cases_lt (place + 1) (length order))
    where
      with_next : place + 1 < length order → (b : Bool) → named (place + 1) ≡ b → sole_named members name ≡ alone (Some (at members number)) (cond b (Some (at members (slice_index order (place + 1)))) None)
      with_next m true f = two_named m e f
      with_next m false f = one_named l e (λ i q r. behind_unnamed (place + 1) i (omega arith) (omega (arith, r)) q f)

      by : (place + 1 < length order) ⊎ (length order ≤ place + 1) → sole_named members name ≡ alone (Some (at members number)) (named_there members order (place + 1) name)
      by (inl m) = with_next m (named (place + 1)) refl ∙ ap (alone (Some (at members number))) (sym (there_named (place + 1) m))
      by (inr m) = one_named l e (λ i q r. absurd (omega (arith, m, q, r))) ∙ ap (alone (Some (at members number))) (sym (none_there (place + 1) m))

  pub sole_found : sole_named members name ≡ alone (named_there members order place name) (named_there members order (place + 1) name)
  unfolding number
  sole_found = by (cases_lt place (length order))
    where
      by : (place < length order) ⊎ (length order ≤ place) → sole_named members name ≡ alone (named_there members order place name) (named_there members order (place + 1) name)
      by (inl l) = at_place (named place) refl l ∙ ap (λ x. alone x (named_there members order (place + 1) name)) (sym (there_named place l))
      by (inr l) = none_named (λ i m. before_unnamed i (omega (arith, l, m))) ∙ ap (λ x. alone x (named_there members order (place + 1) name)) (sym (none_there place l))
