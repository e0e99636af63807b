-- Faults at the numbers of the items of a list that pass, one item after the other.
use Rattle.std.proofs.Common.{◌≡◌, ◌∙◌, ℕ, suc, ◌+◌, Bool, true, false, cond, List, [], ◌∷◌, ◌++◌, length, map, Option, Some, refl, ap, sym, append_assoc, arith, add-zero, zero-add}
use Rattle.std.specs.Prelude.{slice_get}
use Rattle.std.specs.Option.{option_map_or}
use Rattle.std.proofs.lemmas.List.{map-append}
use Rattle.jc_base.proofs.Common.{map_if}
use Rattle.jc_file.specs.declared.fault.Fault.{Fault}
use Rattle.jc_file.specs.declared.fault.FormatRule.{FormatRule}
use Rattle.jc_file.specs.Faults.{passing, those_with, fault_at}
use Rattle.jc_file.specs.inside.RuleTables.{numbered}

if_first : (b : Bool) (n : ℕ) (ns : List ℕ) → cond b (n ∷ ns) ns ≡ cond b (n ∷ []) [] ++ ns
if_first true n ns = refl
if_first false n ns = refl

-- by a look-up that gives the items from n on
passing_numbered : {X : Type 0} (test : X → Bool) (get : ℕ → Option X) (n : ℕ) (xs : List X) → ((k : ℕ) → get (n + k) ≡ slice_get xs k) → passing (λ k. option_map_or test (get k) false) n (length xs) ≡ numbered test n xs
passing_numbered test get n [] gives = refl
passing_numbered test get n (x ∷ xs) gives =
    let first : get n ≡ Some x = ap get (sym (add-zero n)) ∙ gives 0 in
    let others : (k : ℕ) → get (n + 1 + k) ≡ slice_get xs k = λ k. ap get (let e : n + 1 + k ≡ n + suc k = omega arith in e) ∙ gives (suc k) in
    ap (λ o. cond (option_map_or test o false) (n ∷ passing (λ k. option_map_or test (get k) false) (n + 1) (length xs)) (passing (λ k. option_map_or test (get k) false) (n + 1) (length xs))) first
    ∙ if_first (test x) n (passing (λ k. option_map_or test (get k) false) (n + 1) (length xs))
    ∙ ap (λ r. cond (test x) (n ∷ []) [] ++ r) (passing_numbered test get (n + 1) xs others)

pub those_with-numbered : {X : Type 0} (test : X → Bool) (xs : List X) → those_with test xs ≡ numbered test 0 xs
those_with-numbered test xs = passing_numbered test (slice_get xs) 0 xs (λ k. ap (slice_get xs) (zero-add k))

pub numbered-map : {X Y : Type 0} (test : Y → Bool) (f : X → Y) (n : ℕ) (xs : List X) → numbered test n (map f xs) ≡ numbered (λ x. test (f x)) n xs
numbered-map test f n [] = refl
numbered-map test f n (x ∷ xs) = ap (λ r. cond (test (f x)) (n ∷ []) [] ++ r) (numbered-map test f (n + 1) xs)

-- of what is looked up for each
pub those_with-map : {X Y : Type 0} (test : Y → Bool) (f : X → Y) (xs : List X) → numbered test 0 (map f xs) ≡ those_with (λ x. test (f x)) xs
those_with-map test f xs = numbered-map test f 0 xs ∙ sym (those_with-numbered (λ x. test (f x)) xs)

-- the faults so far and those of what is left, one item on
pub numbered_step : {X : Type 0} (rule : FormatRule) (test : X → Bool) (n : ℕ) (x : X) (xs : List X) (before after all : List Fault) → after ≡ before ++ cond (test x) (fault_at rule n ∷ []) [] → before ++ map (fault_at rule) (numbered test n (x ∷ xs)) ≡ all → after ++ map (fault_at rule) (numbered test (n + 1) xs) ≡ all
numbered_step rule test n x xs before after all e so_far =
    ap (λ r. r ++ map (fault_at rule) (numbered test (n + 1) xs)) e
    ∙ append_assoc before (cond (test x) (fault_at rule n ∷ []) []) (map (fault_at rule) (numbered test (n + 1) xs))
    ∙ ap (λ r. before ++ (r ++ map (fault_at rule) (numbered test (n + 1) xs))) (sym (map_if (fault_at rule) (test x) n))
    ∙ ap (λ r. before ++ r) (sym (map-append (fault_at rule) (cond (test x) (n ∷ []) []) (numbered test (n + 1) xs)))
    ∙ so_far

-- the same where each part is known by an equation, as at a loop over `enumerate`
pub numbered_next : {X : Type 0} (rule : FormatRule) (test : X → Bool) (n next place : ℕ) (is_broken : Bool) (x : X) (xs left : List X) (before after all : List Fault) → left ≡ x ∷ xs → place ≡ n → next ≡ n + 1 → is_broken ≡ test x → after ≡ before ++ cond is_broken (fault_at rule place ∷ []) [] → before ++ map (fault_at rule) (numbered test n left) ≡ all → after ++ map (fault_at rule) (numbered test next xs) ≡ all
numbered_next rule test n next place is_broken x xs left before after all is_left at goes decides adds so_far =
    let added : after ≡ before ++ cond (test x) (fault_at rule n ∷ []) [] = adds ∙ ap (λ b. before ++ cond b (fault_at rule place ∷ []) []) decides ∙ ap (λ k. before ++ cond (test x) (fault_at rule k ∷ []) []) at in
    let known : before ++ map (fault_at rule) (numbered test n (x ∷ xs)) ≡ all = ap (λ ys. before ++ map (fault_at rule) (numbered test n ys)) (sym is_left) ∙ so_far in
    ap (λ k. after ++ map (fault_at rule) (numbered test k xs)) goes ∙ numbered_step rule test n x xs before after all added known

-- at the start, of the items themselves
pub numbered_begins : {X : Type 0} (rule : FormatRule) (test : X → Bool) (n : ℕ) (left xs : List X) (before : List Fault) → n ≡ 0 → left ≡ xs → before ++ map (fault_at rule) (numbered test n left) ≡ before ++ map (fault_at rule) (those_with test xs)
numbered_begins rule test n left xs before none is_left =
    ap (λ r. before ++ map (fault_at rule) r) (ap (λ k. numbered test k left) none ∙ ap (numbered test 0) is_left ∙ sym (those_with-numbered test xs))
