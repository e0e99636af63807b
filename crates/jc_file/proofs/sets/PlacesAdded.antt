-- The places of each rule, while the things of a table are looked at one after the other.
use Rattle.std.proofs.Common.{◌≡◌, ◌∙◌, ℕ, zero, suc, ◌+◌, ◌-◌, ◌≤◌, Bool, cond, List, [], ◌∷◌, ◌++◌, filter, map, refl, ap, sym, arith, add-one, append-nil, append_assoc}
use Rattle.std.specs.List.{range_with_len}
use Rattle.std.proofs.lemmas.List.{map-append}
use Rattle.std.proofs.lemmas.List.Elements.{filter-append}
use Rattle.jc_file.specs.declared.fault.FormatRule.{FormatRule}
use Rattle.jc_file.specs.Faults.{passing, those_with}
use Rattle.jc_file.specs.inside.RuleTables.{numbered}
use Rattle.jc_file.proofs.orders.NumberedItems.{those_with-numbered}
use Rattle.jc_file.specs.declared.broken.Broken.{Broken}
use Rattle.jc_file.specs.inside.Broken.{places_in}
use Rattle.jc_file.specs.inside.RuleSets.{has}

-- ---- numbers from 1 on

range_more : (a n : ℕ) → range_with_len a (n + 1) ≡ range_with_len a n ++ (a + n) ∷ []
range_more a zero = grind arith
range_more a (suc n) =
    let e : a + 1 + n ≡ a + suc n = omega arith in
    rw add-one (ap (λ r. a ∷ r) (ap (range_with_len (a + 1)) (sym (add-one n)) ∙ range_more (a + 1) n ∙ ap (λ k. range_with_len (a + 1) n ++ k ∷ []) e))

passing_more : (test : ℕ → Bool) (next : ℕ) → 1 ≤ next → passing test 1 (next + 1 - 1) ≡ passing test 1 (next - 1) ++ cond (test next) (next ∷ []) []
passing_more test next h =
    let e : next + 1 - 1 ≡ next - 1 + 1 = omega arith in
    let k : 1 + (next - 1) ≡ next = omega arith in
    rw e (ap (filter test) (range_more 1 (next - 1)) ∙ filter-append test (range_with_len 1 (next - 1)) ((1 + (next - 1)) ∷ []) ∙ rw k refl)

-- one number more
pub number_more : (test : ℕ → Bool) (next : ℕ) (is_broken : Bool) (old before after : List ℕ) → 1 ≤ next → is_broken ≡ test next
    → after ≡ before ++ cond is_broken (next ∷ []) [] → before ≡ old ++ passing test 1 (next - 1) → after ≡ old ++ passing test 1 (next + 1 - 1)
number_more test next is_broken old before after h decides added so_far =
    added
    ∙ ap (λ v. v ++ cond is_broken (next ∷ []) []) so_far
    ∙ append_assoc old (passing test 1 (next - 1)) (cond is_broken (next ∷ []) [])
    ∙ ap (λ b. old ++ (passing test 1 (next - 1) ++ cond b (next ∷ []) [])) decides
    ∙ ap (λ v. old ++ v) (sym (passing_more test next h))

-- ---- the items of a list

module _ {X : Type 0} (test : X → Bool) where
  -- at the start
  pub items_begin : (n : ℕ) (left xs : List X) (before : List ℕ) → n ≡ 0 → left ≡ xs → before ++ numbered test n left ≡ before ++ those_with test xs
  items_begin n left xs before none is_left =
      ap (λ r. before ++ r) (ap (λ k. numbered test k left) none ∙ ap (numbered test 0) is_left ∙ sym (those_with-numbered test xs))

  -- one item more
  pub item_more : (n next place : ℕ) (is_broken : Bool) (x : X) (xs left : List X) (before after all : List ℕ) → left ≡ x ∷ xs → place ≡ n → next ≡ n + 1 → is_broken ≡ test x
      → after ≡ before ++ cond is_broken (place ∷ []) [] → before ++ numbered test n left ≡ all → after ++ numbered test next xs ≡ all
  item_more n next place is_broken x xs left before after all is_left at goes decides adds so_far =
      let added : after ≡ before ++ cond (test x) (n ∷ []) [] = adds ∙ ap (λ b. before ++ cond b (place ∷ []) []) decides ∙ ap (λ k. before ++ cond (test x) (k ∷ []) []) at in
      ap (λ k. after ++ numbered test k xs) goes
      ∙ ap (λ r. r ++ numbered test (n + 1) xs) added
      ∙ append_assoc before (cond (test x) (n ∷ []) []) (numbered test (n + 1) xs)
      ∙ ap (λ ys. before ++ numbered test n ys) (sym is_left)
      ∙ so_far

  -- at the end
  pub items_end : (n : ℕ) (left : List X) (before all : List ℕ) → left ≡ [] → before ++ numbered test n left ≡ all → before ≡ all
  items_end n left before all none so_far = sym (append-nil before) ∙ ap (λ ys. before ++ numbered test n ys) (sym none) ∙ so_far

-- ---- two lists of broken rules

pub in_both : (rule : FormatRule) (xs ys : List Broken) → places_in rule (xs ++ ys) ≡ places_in rule xs ++ places_in rule ys
in_both rule xs ys =
    ap (map (λ b. b.place)) (filter-append (λ b. has b.rules rule) xs ys)
    ∙ map-append (λ b. b.place) (filter (λ b. has b.rules rule) xs) (filter (λ b. has b.rules rule) ys)
