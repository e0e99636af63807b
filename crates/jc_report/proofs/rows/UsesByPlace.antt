-- The instruction at an offset of a method, where instructions are in ascending order of both.
use Rattle.std.proofs.Common.{◌≡◌, ◌<◌, ◌≤◌, ◌==◌, ◌&&◌, ℕ, true, List, length, get_or, Some, None, Err, arith}
use Rattle.std.specs.List.Sorted.{IsBinarySearchResult}
use Rattle.std.specs.Ordering.{nat_cmp, ordering_index, ordering_then}
use Rattle.std.specs.declared.cmp.Ordering.{Ordering}
use Rattle.std.specs.declared.cmp.Ordering.TheVariants.{Less, Equal}
use Rattle.std.proofs.lemmas.Bool.Decides.{nat_tests}
use Rattle.jc_code.specs.declared.method_use.MethodUse.{MethodUse}
use Rattle.jc_classes.specs.FactsOrder.{AreByPlace, use_cmp}
use Rattle.jc_report.specs.ErrorsText.{is_at, use_at}
use Rattle.jc_report.proofs.rows.Searches.{found_there, found_nowhere}

-- ---- pairs of numbers

equal : (a b p q : ℕ) → (a == b && p == q) ≡ true → ordering_then (nat_cmp a b) (nat_cmp p q) ≡ Equal
equal a b p q e = grind (arith, nat_tests)

same : (a b p q : ℕ) → ordering_then (nat_cmp a b) (nat_cmp p q) ≡ Equal → (a == b && p == q) ≡ true
same a b p q e = grind (arith, nat_tests)

less : (a b c p q r : ℕ) → ordering_then (nat_cmp a b) (nat_cmp p q) ≡ Less → ordering_then (nat_cmp b c) (nat_cmp q r) ≡ Equal → ordering_then (nat_cmp a c) (nat_cmp p r) ≡ Less
less a b c p q r l e = grind (arith, nat_tests)

rises : (a b c p q r : ℕ) → ordering_then (nat_cmp a b) (nat_cmp p q) ≡ Less → ordering_index (ordering_then (nat_cmp a c) (nat_cmp p r)) ≤ ordering_index (ordering_then (nat_cmp b c) (nat_cmp q r))
rises a b c p q r l = grind (arith, nat_tests)

-- ---- instructions

module _ (method place : ℕ) where
  abbrev pub place_cmp : MethodUse → Ordering
  place_cmp u = ordering_then (nat_cmp u.method method) (nat_cmp u.place place)

  is_equal : (u : MethodUse) → is_at method place u ≡ true → place_cmp u ≡ Equal
  is_equal u = equal u.method method u.place place

  equal_is : (u : MethodUse) → place_cmp u ≡ Equal → is_at method place u ≡ true
  equal_is u = same u.method method u.place place

  front_less : (u v : MethodUse) → use_cmp u v ≡ Less → place_cmp v ≡ Equal → place_cmp u ≡ Less
  front_less u v = less u.method v.method method u.place v.place place

  front_rises : (u v : MethodUse) → use_cmp u v ≡ Less → ordering_index (place_cmp u) ≤ ordering_index (place_cmp v)
  front_rises u v = rises u.method v.method method u.place v.place place

  pub found_by_place : (uses : List MethodUse) (i : ℕ) (d : MethodUse) → AreByPlace uses → i < length uses → place_cmp (get_or uses i d) ≡ Equal → Some (get_or uses i d) ≡ use_at uses method place
  found_by_place uses i d = found_there use_cmp place_cmp (is_at method place) is_equal equal_is front_less front_rises uses i d

  pub missing_by_place : (uses : List MethodUse) (i : ℕ) → AreByPlace uses → IsBinarySearchResult place_cmp uses (Err i) → None ≡ use_at uses method place
  missing_by_place uses i = found_nowhere use_cmp place_cmp (is_at method place) is_equal equal_is front_less front_rises uses i
