-- Exact counts keep the bounds.
use Rattle.std.proofs.Common.{◌≡◌, ◌∙◌, ◌+◌, ◌-◌, ◌^◌, ◌||◌, Bool, true, false, List, [], ◌∷◌, ◌++◌, length, length-append, arith, refl, sym, ap, subst}
use Rattle.std.proofs.Math.Nat.{min-le_left}
use Rattle.std.proofs.lemmas.Bool.{false≢true}
use Rattle.std.proofs.lemmas.List.Folds.{list_any-append}
use Rattle.std.proofs.lemmas.Map.Made.{length-le_from_is_member}
use Rattle.std.specs.Cmp.{eq_by_cmp_equiv}
use Rattle.std.specs.List.{IsDistinct, AllByRecursion}
use Rattle.jc_base.proofs.maps.FiniteMaps.{bytes_cmp_total}
use Rattle.jc_classes.specs.NameLists.{has}
use Rattle.jc_classes.specs.Names.{Name, same_name}
use Rattle.jc_classes.specs.Parts.{Reach}
use Rattle.jc_classes.specs.Worlds.{World}
use Rattle.jc_classes.proofs.numbering.Rising.{has_of}
use Rattle.jc_classes.proofs.worlds.NameTests.{same_is}
use Rattle.jc_linkage.specs.Affected.{AreReaches, CountsAreBounded, NoRepeat, sum_of_lengths}
use Rattle.jc_linkage.proofs.equations.Booleans.{or_left, or_right}

all_reaches : List (List Name) → List Name
all_reaches [] = []
all_reaches (r ∷ rs) = r ++ all_reaches rs

reaches_length : (rs : List (List Name)) → length (all_reaches rs) ≡ sum_of_lengths rs
unfolding all_reaches
reaches_length [] = refl
reaches_length (r ∷ rs) = length-append r (all_reaches rs) ∙ ap (λ n. length r + n) (reaches_length rs)

reached_in : (m : World) (ds : List Name) (rs : List (List Name)) (d n : Name) → AreReaches m ds rs → has ds d ≡ true → Reach m d n → has (all_reaches rs) n ≡ true
unfolding all_reaches
reached_in m [] rs d n all h r = absurd (false≢true h)
reached_in m (x ∷ ds) [] d n all h r = absurd all
reached_in m (x ∷ ds) (y ∷ rs) d n all h r = by (same_name d x) refl h (λ e. reached_in m ds rs d n all.1 e r)
  where
    by : (b : Bool) → same_name d x ≡ b → (b || has ds d) ≡ true → (has ds d ≡ true → has (all_reaches rs) n ≡ true) → has (y ++ all_reaches rs) n ≡ true
    by true s e rest =
        list_any-append (same_name n) y (all_reaches rs)
        ∙ or_left (has y n) (has (all_reaches rs) n) (all.0.complete n (subst (λ k. Reach m k n) (same_is d x s) r))
    by false s e rest =
        list_any-append (same_name n) y (all_reaches rs)
        ∙ or_right (has y n) (has (all_reaches rs) n) (rest e)

no_one : (x : Name) (xs : List Name) → has xs x ≡ false → AllByRecursion (λ y. same_name x y ≡ false) xs
no_one x [] e = tt
no_one x (y ∷ ys) e = by (same_name x y) refl e (λ f. no_one x ys f)
  where
    by : (b : Bool) → same_name x y ≡ b → (b || has ys x) ≡ false → (has ys x ≡ false → AllByRecursion (λ z. same_name x z ≡ false) ys)
        → AllByRecursion (λ z. same_name x z ≡ false) (y ∷ ys)
    by true s f rest = absurd (false≢true (sym f))
    by false s f rest = (s, rest f)

distinct : (xs : List Name) → NoRepeat xs → IsDistinct same_name xs
unfolding IsDistinct
distinct [] once = tt
distinct (x ∷ xs) once = (no_one x xs once.0, distinct xs once.1)

pub counts_are_bounded : CountsAreBounded
counts_are_bounded given m touched old new k = record {
  affected = k.affected;
  reaches = k.reaches;
  are_affected = k.are_affected;
  are_reaches = k.are_reaches;
  made_few =
      let most = min-le_left (old.made + length k.affected) (2 ^ 64 - 1) in
      omega (arith, most, k.made);
  asked_few =
      let less = length-le_from_is_member (eq_by_cmp_equiv bytes_cmp_total) k.reached (all_reaches k.reaches) (distinct k.reached k.are_reached.once)
      (λ q e. let r = k.are_reached.sound q e in reached_in m k.affected k.reaches r.0 q k.are_reaches (has_of k.affected r.0 r.1) r.2) in
      let most = min-le_left (old.asks + length k.reached) (2 ^ 64 - 1) in
      omega (arith, most, less, reaches_length k.reaches, k.asks);
}
