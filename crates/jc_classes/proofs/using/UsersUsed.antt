-- What is used by nothing is not among the constants that are used.
use Rattle.std.proofs.Common.{◌≡◌, ◌∙◌, ℕ, zero, suc, ◌+◌, ◌<◌, ◌≤◌, ◌||◌, ◌==◌, Bool, true, false, cond, List, [], ◌∷◌, ◌++◌, Option, Some, None, refl, ap, sym, subst, arith, ◌⊎◌, inl, inr, ⊎_elim, if◌then◌else◌}
use Rattle.std.specs.List.{flat_map, list_any, position_from, range_with_len}
use Rattle.std.specs.Option.{option_map_or, option_to_list}
use Rattle.std.specs.Prelude.{◌↔◌, option_and_then}
use Rattle.std.proofs.lemmas.Bool.{eq-eqb, true≢false}
use Rattle.std.proofs.lemmas.Iterator.Adapters.{position_from-zero}
use Rattle.std.proofs.lemmas.List.Folds.{list_any-append}
use Rattle.jc_view.specs.declared.constant_pool.ConstantIndex.{ConstantIndex}
use Rattle.jc_view.specs.Attributes.{bootstrap_attributes}
use Rattle.jc_view.specs.ConstantPool.{Constant}
use Rattle.jc_view.specs.ClassFile.{Attribute, ClassFile, all_slots, constant_at}
use Rattle.jc_code.specs.NamedConstants.{named_by_method}
use Rattle.jc_file.proofs.violations.Constants.{usable_within}
use Rattle.jc_view.specs.Lookups.{class_index}
use Rattle.jc_classes.specs.UsedConstants.{by_constants, by_named, classes_that, is_among, is_resolved, named, named_by_handle, named_by_methods, named_by_table, used_constants}
use Rattle.jc_classes.specs.Users.{first_user, is_owner, names_constant, user_by, user_of, uses_constant}
use Rattle.jc_classes.specs.declared.used.User.TheVariants as user
use Rattle.jc_classes.proofs.using.Adding.{named_whole}

or_first : (a b : Bool) → a ≡ true → (a || b) ≡ true
or_first true b e = refl
or_first false b e = absurd cc

or_second : (a b : Bool) → b ≡ true → (a || b) ≡ true
or_second true b e = refl
or_second false b e = e

or_cases : (a b : Bool) → (a || b) ≡ true → (a ≡ true) ⊎ (b ≡ true)
or_cases true b e = inl refl
or_cases false b e = inr e

-- ---- one of a list

module _ {X : Type 0} where
  pub record HasOne (test : X → Bool) (xs : List X) : Type 0 where
    pub one : X
    pub passes : test one ≡ true
    -- what one of the list passes is passed by one of the list
    pub there : (other : X → Bool) → other one ≡ true → list_any other xs ≡ true

  pub has_one : (test : X → Bool) (xs : List X) → list_any test xs ≡ true → HasOne test xs
  has_one test [] e = absurd cc
  has_one test (x ∷ xs) e = ⊎_elim
      (λ here. record { one = x; passes = here; there = λ other p. or_first (other x) (list_any other xs) p })
      (λ later. let h = has_one test xs later in record { one = h.one; passes = h.passes; there = λ other p. or_second (other x) (list_any other xs) (h.there other p) })
      (or_cases (test x) (list_any test xs) e)

any_front : {X : Type 0} (test : X → Bool) (xs ys : List X) → list_any test xs ≡ true → list_any test (xs ++ ys) ≡ true
any_front test xs ys e = list_any-append test xs ys ∙ or_first (list_any test xs) (list_any test ys) e

any_behind : {X : Type 0} (test : X → Bool) (xs ys : List X) → list_any test ys ≡ true → list_any test (xs ++ ys) ≡ true
any_behind test xs ys e = list_any-append test xs ys ∙ or_second (list_any test xs) (list_any test ys) e

-- in what a function gives for one of them
any_in : {X Y : Type 0} (f : X → List Y) (test : Y → Bool) (xs : List X) → list_any (λ x. list_any test (f x)) xs ≡ true → list_any test (flat_map f xs) ≡ true
any_in f test [] e = absurd cc
any_in f test (x ∷ xs) e = ⊎_elim
    (λ here. any_front test (f x) (flat_map f xs) here)
    (λ later. any_behind test (f x) (flat_map f xs) (any_in f test xs later))
    (or_cases (list_any test (f x)) (list_any (λ y. list_any test (f y)) xs) e)

any_number : (test : ℕ → Bool) (first count k : ℕ) → first ≤ k → k < first + count → test k ≡ true → list_any test (range_with_len first count) ≡ true
any_number test first zero k low high e = absurd (omega (arith, low, high))
any_number test first (suc count) k low high e = ⊎_elim
    (λ same. or_first (test first) (list_any test (range_with_len (first + 1) count)) (ap test same ∙ e))
    (λ less. or_second (test first) (list_any test (range_with_len (first + 1) count)) (any_number test (first + 1) count k less (omega (arith, high)) e))
    (cases first k low)
  where
    cases : (u v : ℕ) → u ≤ v → (u ≡ v) ⊎ (u + 1 ≤ v)
    cases u v l = search (arith, l)

-- ---- what code names is named

code_named : (c : ClassFile) (test : ConstantIndex → Bool) → list_any test (named_by_methods c) ≡ true → list_any test (named c) ≡ true
code_named c test e =
    let handles = by_constants named_by_handle c in
    let tables = flat_map (λ (a : Attribute). named_by_table a.bytes) (bootstrap_attributes c) in
    subst (λ names. list_any test names ≡ true) (named_whole c)
    (any_front test (named_by_methods c ++ handles) tables (any_front test (named_by_methods c) handles e))

-- the class of a member that is named
abbrev owner_named : ClassFile → ℕ → List ConstantIndex
owner_named c index = option_to_list (if is_among (named c) index then option_and_then class_index (constant_at c (record { 0 = index })) else None)

owner_there : (i : ℕ) (o : Option ConstantIndex) (b : Bool) → b ≡ true → option_map_or (λ (class : ConstantIndex). class.0 == i) o false ≡ true
    → is_among (option_to_list (if b then o else None)) i ≡ true
owner_there i None b among e = absurd cc
owner_there i (Some class) true among e = or_first (class.0 == i) false e
owner_there i (Some class) false among e = absurd cc

owner_within : (c : ClassFile) (i index : ℕ) (o : Option Constant) → constant_at c (record { 0 = index }) ≡ o → option_map_or (λ (class : ConstantIndex). class.0 == i) (option_and_then class_index o) false ≡ true
    → (1 ≤ index) × (index < 1 + all_slots c.constants)
owner_within c i index None at e = absurd cc
owner_within c i index (Some entry) at e = usable_within c index entry at

owner_used : (c : ClassFile) (i : ℕ) (x : ConstantIndex) → is_among (named c) x.0 ≡ true → is_owner c i x ≡ true → is_among (by_named class_index c) i ≡ true
owner_used c i x among owns =
    let within = owner_within c i x.0 (constant_at c x) refl owns in
    any_in (owner_named c) (λ (index : ConstantIndex). index.0 == i) (range_with_len 1 (all_slots c.constants))
    (any_number (λ index. is_among (owner_named c index) i) 1 (all_slots c.constants) x.0 within.0 within.1
    (owner_there i (option_and_then class_index (constant_at c x)) (is_among (named c) x.0) among owns))

-- ---- what a method uses is used

used_by_name : (c : ClassFile) (i : ℕ) → list_any (names_constant c i) (named_by_methods c) ≡ true → is_among (used_constants c) i ≡ true
unfolding used_constants
used_by_name c i e =
    let h = has_one (names_constant c i) (named c) (code_named c (names_constant c i) e) in
    let owners = by_named class_index c in
    let classes = classes_that (is_resolved c) c in
    any_front (λ (index : ConstantIndex). index.0 == i) (named c ++ owners) classes (⊎_elim
    (λ same. any_front (λ (index : ConstantIndex). index.0 == i) (named c) owners (h.there (λ (index : ConstantIndex). index.0 == i) same))
    (λ owns. any_behind (λ (index : ConstantIndex). index.0 == i) (named c) owners
    (owner_used c i h.one (h.there (λ (index : ConstantIndex). index.0 == h.one.0) (eq-eqb h.one.0 h.one.0 refl)) owns))
    (or_cases (h.one.0 == i) (is_owner c i h.one) h.passes))

used_by_method : (c : ClassFile) (i : ℕ) → list_any (uses_constant c i) c.methods ≡ true → is_among (used_constants c) i ≡ true
used_by_method c i e = used_by_name c i (any_in (named_by_method c) (names_constant c i) c.methods e)

no_position : {X : Type 0} (test : X → Bool) (n : ℕ) (xs : List X) → list_any test xs ≡ false → position_from test n xs ≡ None
no_position test n [] e = refl
no_position test n (x ∷ xs) e = by (λ later. no_position test (n + 1) xs later) (test x) refl
  where
    by : (list_any test xs ≡ false → position_from test (n + 1) xs ≡ None) → (b : Bool) → test x ≡ b → cond (test x) (Some n) (position_from test (n + 1) xs) ≡ None
    by rest true t = absurd (true≢false (sym (or_first (test x) (list_any test xs) t) ∙ e))
    by rest false t = ap (λ b. cond b (Some n) (position_from test (n + 1) xs)) t ∙ rest (sym (ap (λ b. b || list_any test xs) t) ∙ e)

no_user : (c : ClassFile) (i : ℕ) → is_among (used_constants c) i ≡ false → first_user c i ≡ None
no_user c i unused = position_from-zero (uses_constant c i) c.methods ∙ no_position (uses_constant c i) 0 c.methods (by (list_any (uses_constant c i) c.methods) refl)
  where
    by : (b : Bool) → list_any (uses_constant c i) c.methods ≡ b → list_any (uses_constant c i) c.methods ≡ false
    by true e = absurd (true≢false (sym (used_by_method c i e) ∙ unused))
    by false e = e

nothing_unused : (o : Option ℕ) (b : Bool) → user_by o b ≡ user.Nothing → b ≡ false
nothing_unused (Some number) b e = absurd cc
nothing_unused None true e = absurd cc
nothing_unused None false e = refl

pub users_used : (c : ClassFile) (i : ℕ) → (user_of c i ≡ user.Nothing) ↔ (is_among (used_constants c) i ≡ false)
users_used c i = (
  (λ e. nothing_unused (first_user c i) (is_among (used_constants c) i) e),
  (λ unused. ap (λ o. user_by o (is_among (used_constants c) i)) (no_user c i unused) ∙ ap (user_by None) unused),
)
