-- The names of classes in descriptors, as a set, and the Class constants that name them.
use Rattle.std.proofs.Common.{◌≡◌, ◌∙◌, ℕ, zero, suc, ◌+◌, ◌<◌, ◌≤◌, ◌||◌, ◌&&◌, ◌==◌, Bool, true, false, cond, List, [], ◌∷◌, ◌++◌, length, Option, Some, None, is_some, refl, ap, sym, arith, replicate, slice_index_or, slice_set, ◌⊎◌, inl, inr, ⊎_elim, if◌then◌else◌}
use Rattle.std.specs.FinMap as fin
use Rattle.std.specs.List.{flat_map, list_any, range_with_len}
use Rattle.std.specs.Option.{option_map_or, option_to_list}
use Rattle.std.specs.Prelude.{option_and_then}
use Rattle.std.proofs.lemmas.Grind.{flat_map-append}
use Rattle.std.proofs.lemmas.List.{append-nil}
use Rattle.std.proofs.lemmas.List.Folds.{list_any-append}
use Rattle.jc_base.specs.Bytes.{bytes_cmp}
use Rattle.jc_base.proofs.maps.FiniteMaps.{bytes_cmp_total}
use Rattle.jc_view.specs.declared.constant_pool.ConstantIndex.{ConstantIndex}
use Rattle.jc_view.specs.ConstantPool as pool
use Rattle.jc_view.specs.ConstantPool.{Constant}
use Rattle.jc_view.specs.ClassFile.{ClassFile, all_slots, class_text_at, constant_at}
use Rattle.jc_view.specs.Lookups.{utf8_at}
use Rattle.jc_classes.specs.NameLists.{has}
use Rattle.jc_classes.specs.NamedTexts.{named_by}
use Rattle.jc_classes.specs.Names.{Name, same_name}
use Rattle.jc_classes.specs.Parts.{class_of}
use Rattle.jc_classes.specs.ResolvedDescriptors.{class_in_type, classes_in, handle_descriptor, own_descriptor}
use Rattle.jc_classes.specs.UsedConstants.{by_constants, by_named, class_that, classes_that, is_among, named_by_handle, resolved_descriptors}
use Rattle.jc_classes.specs.inside.DescriptorClasses.{Adds, AreKnown, NameSet, descriptor_of_member, names_one}
use Rattle.jc_classes.proofs.texts.ConstantTexts.{range_more, text_within}
use Rattle.jc_classes.proofs.worlds.NameTests.{same_is}

or_none : (b : Bool) → (b || false) ≡ b
or_none true = refl
or_none false = refl

or_all : (b : Bool) → (b || true) ≡ true
or_all true = refl
or_all false = refl

or_assoc : (a b c : Bool) → ((a || b) || c) ≡ (a || (b || c))
or_assoc true b c = refl
or_assoc false b c = refl

-- ---- names in a set

pub in_set : (found : NameSet) (k n : Name) → fin.contains_key (fin.insert found k tt) n ≡ (fin.contains_key found n || same_name n k)
in_set found k n = ap is_some (fin.get-insert bytes_cmp_total found k tt n) ∙ by (same_name n k) (fin.get found n)
  where
    by : (b : Bool) (o : Option (Unit {0})) → is_some (cond b (Some tt) o) ≡ (is_some o || b)
    by true None = refl
    by true (Some x) = refl
    by false None = refl
    by false (Some x) = refl

pub no_name : (n : Name) → fin.contains_key (fin.empty {X = Unit {0}} {R = bytes_cmp}) n ≡ false
no_name n = ap is_some (fin.get-empty bytes_cmp n)

-- a name is put in
pub one_added : (found new : NameSet) (k : Name) → new ≡ fin.insert found k tt → Adds (k ∷ []) found new
one_added found new k is = record {
  each = λ n. ap (λ m. fin.contains_key m n) is ∙ in_set found k n ∙ ap (λ b. fin.contains_key found n || b) (sym (or_none (same_name n k)));
}

-- one that is there already
pub one_there : (found : NameSet) (k : Name) → fin.contains_key found k ≡ true → Adds (k ∷ []) found found
one_there found k e = record { each = λ n. by n (same_name n k) refl }
  where
    by : (n : Name) (b : Bool) → same_name n k ≡ b → fin.contains_key found n ≡ (fin.contains_key found n || (same_name n k || false))
    by n true t =
        let there : fin.contains_key found n ≡ true = ap (fin.contains_key found) (same_is n k t) ∙ e in
        there ∙ sym (ap (λ b. fin.contains_key found n || (b || false)) t ∙ or_all (fin.contains_key found n))
    by n false t = sym (ap (λ b. fin.contains_key found n || (b || false)) t ∙ or_none (fin.contains_key found n))

pub none_added : (found : NameSet) → Adds [] found found
none_added found = record { each = λ n. sym (or_none (fin.contains_key found n)) }

-- some, and then more
pub added_both : (names more : List Name) (old found new : NameSet) → Adds names old found → Adds more found new → Adds (names ++ more) old new
added_both names more old found new first second = record {
  each = λ n. second.each n
      ∙ ap (λ b. b || has more n) (first.each n)
      ∙ or_assoc (fin.contains_key old n) (has names n) (has more n)
      ∙ ap (λ b. fin.contains_key old n || b) (sym (list_any-append (same_name n) names more));
}

-- ---- in a loop

-- with those that are left they are all
pub record Leaves (left all : List Name) (old found : NameSet) : Type 0 where
  pub each : (n : Name) → (fin.contains_key found n || has left n) ≡ (fin.contains_key old n || has all n)

pub all_left : (all : List Name) (old : NameSet) → Leaves all all old old
all_left all old = record { each = λ n. refl }

pub less_left : (names left all : List Name) (old found new : NameSet) → Leaves (names ++ left) all old found → Adds names found new → Leaves left all old new
less_left names left all old found new so_far more = record {
  each = λ n. ap (λ b. b || has left n) (more.each n)
      ∙ or_assoc (fin.contains_key found n) (has names n) (has left n)
      ∙ ap (λ b. fin.contains_key found n || b) (sym (list_any-append (same_name n) names left))
      ∙ so_far.each n;
}

pub none_left : (all : List Name) (old found : NameSet) → Leaves [] all old found → Adds all old found
none_left all old found done = record { each = λ n. sym (or_none (fin.contains_key found n)) ∙ done.each n }

-- ---- of the parameters and the result

pub with_result : (params : List (List ℕ)) (result : List ℕ) → flat_map class_in_type params ++ class_in_type result ≡ flat_map class_in_type (params ++ result ∷ [])
with_result params result =
    ap (λ v. flat_map class_in_type params ++ v) (sym (append-nil (class_in_type result)))
    ∙ sym (flat_map-append class_in_type params (result ∷ []))

-- ---- over all indexes

same_number : (u v : ℕ) → u ≡ v → (v == u) ≡ true
same_number u v e = grind arith

other_number : (u v : ℕ) → (u ≡ v → ⊥) → (v == u) ≡ false
other_number u v n = grind arith

nat_cases : (u v : ℕ) → (u ≡ v) ⊎ (u ≡ v → ⊥)
nat_cases u v = search arith

order_cases : (u v : ℕ) → (u < v) ⊎ (v ≤ u)
order_cases u v = search arith

any_same : {X : Type 0} (f g : X → Bool) (xs : List X) → ((x : X) → f x ≡ g x) → list_any f xs ≡ list_any g xs
any_same f g [] e = refl
any_same f g (x ∷ xs) e = ap (λ b. b || list_any f xs) (e x) ∙ ap (λ b. g x || b) (any_same f g xs e)

any_none : {X : Type 0} (xs : List X) → list_any (λ x. false) xs ≡ false
any_none [] = refl
any_none (x ∷ xs) = any_none xs

or_parts : (a b c d : Bool) → ((a || b) || (c || d)) ≡ ((a || c) || (b || d))
or_parts true b c d = refl
or_parts false true true d = refl
or_parts false true false d = refl
or_parts false false c d = refl

any_either : {X : Type 0} (f g : X → Bool) (xs : List X) → list_any (λ x. f x || g x) xs ≡ (list_any f xs || list_any g xs)
any_either f g [] = refl
any_either f g (x ∷ xs) = ap (λ b. (f x || g x) || b) (any_either f g xs) ∙ or_parts (f x) (g x) (list_any f xs) (list_any g xs)

and_or : (a b c : Bool) → ((a || b) && c) ≡ ((a && c) || (b && c))
and_or true b true = refl
and_or true true false = refl
and_or true false false = refl
and_or false b c = refl

-- an index that is in the range is the one at which the test counts
elsewhere : (f : ℕ → Bool) (k from n : ℕ) → ((i : ℕ) → from ≤ i → i < from + n → i ≡ k → ⊥) → list_any (λ i. (k == i) && f i) (range_with_len from n) ≡ false
elsewhere f k from zero none = refl
elsewhere f k from (suc n) none =
    ap (λ b. (b && f from) || list_any (λ i. (k == i) && f i) (range_with_len (from + 1) n)) (other_number from k (none from (omega arith) (omega arith)))
    ∙ elsewhere f k (from + 1) n (λ i l h e. none i (omega (arith, l)) (omega (arith, h)) e)

at_one : (f : ℕ → Bool) (k from n : ℕ) → from ≤ k → k < from + n → list_any (λ i. (k == i) && f i) (range_with_len from n) ≡ f k
at_one f k from zero l h = absurd (omega (arith, l, h))
at_one f k from (suc n) l h =
    ⊎_elim
    (λ e. ap (λ b. (b && f from) || list_any (λ i. (k == i) && f i) (range_with_len (from + 1) n)) (same_number from k e)
    ∙ ap (λ b. f from || b) (elsewhere f k (from + 1) n (λ i m u is. omega (arith, m, is, e)))
    ∙ or_none (f from) ∙ ap f e)
    (λ no. ap (λ b. (b && f from) || list_any (λ i. (k == i) && f i) (range_with_len (from + 1) n)) (other_number from k no)
    ∙ at_one f k (from + 1) n (omega (arith, l, no)) (omega (arith, h)))
    (nat_cases from k)

-- the marks of names at all indexes, of which those that pass are within the count
pub any_marked : (count : ℕ) (f : ConstantIndex → Bool) (names : List ConstantIndex) → ((x : ConstantIndex) → count ≤ x.0 → f x ≡ false)
    → list_any (λ i. is_among names i && f (record { 0 = i })) (range_with_len 0 count) ≡ list_any f names
any_marked count f [] out = any_none (range_with_len 0 count)
any_marked count f (x ∷ names) out =
    any_same
    (λ (i : ℕ). ((x.0 == i) || is_among names i) && f (record { 0 = i }))
    (λ i. ((x.0 == i) && f (record { 0 = i })) || (is_among names i && f (record { 0 = i })))
    (range_with_len 0 count) (λ i. and_or (x.0 == i) (is_among names i) (f (record { 0 = i })))
    ∙ any_either (λ (i : ℕ). (x.0 == i) && f (record { 0 = i })) (λ i. is_among names i && f (record { 0 = i })) (range_with_len 0 count)
    ∙ ap (λ b. list_any (λ (i : ℕ). (x.0 == i) && f (record { 0 = i })) (range_with_len 0 count) || b) (any_marked count f names out)
    ∙ ap (λ b. b || list_any f names) one
  where
    one : list_any (λ (i : ℕ). (x.0 == i) && f (record { 0 = i })) (range_with_len 0 count) ≡ f x
    one = ⊎_elim
        (λ l. at_one (λ i. f (record { 0 = i })) x.0 0 count (omega arith) (omega (arith, l)))
        (λ le. elsewhere (λ i. f (record { 0 = i })) x.0 0 count (λ i m u is. omega (arith, u, is, le)) ∙ sym (out x le))
        (order_cases x.0 count)

-- one more index
pub any_more : (f : ℕ → Bool) (n : ℕ) → list_any f (range_with_len 0 (n + 1)) ≡ (list_any f (range_with_len 0 n) || f n)
any_more f n =
    let k : n + 1 ≡ suc n = omega arith in
    let e : 0 + n ≡ n = omega arith in
    ap (λ j. list_any f (range_with_len 0 j)) k
    ∙ ap (list_any f) (range_more 0 n ∙ ap (λ x. range_with_len 0 n ++ x ∷ []) e)
    ∙ list_any-append f (range_with_len 0 n) (n ∷ [])
    ∙ ap (λ b. list_any f (range_with_len 0 n) || b) (or_none (f n))

-- no classes are found where no text is
pub none_without_text : (o : Option (List ℕ)) (n : Name) → o ≡ None → has (option_map_or classes_in o []) n ≡ false
none_without_text o n e = ap (λ x. has (option_map_or classes_in x []) n) e

-- no text is past the last constant
pub no_text_past : (c : ClassFile) (index : ConstantIndex) → 1 + all_slots c.constants ≤ index.0 → utf8_at c index ≡ None
no_text_past c index le = by (utf8_at c index) refl
  where
    by : (o : Option (List ℕ)) → utf8_at c index ≡ o → o ≡ None
    by None e = refl
    by (Some text) e = absurd (omega (arith, text_within c index text e, le))

-- a found class, where a mark is
pub if_marked : (b : Bool) (names : List Name) (n : Name) → has (if b then names else []) n ≡ (b && has names n)
if_marked true names n = refl
if_marked false names n = refl

-- ---- what is known of texts

none_there : (n i : ℕ) (names : Bool) → slice_index_or (replicate n None) i None ≡ Some names → ⊥
none_there zero i names e = absurd cc
none_there (suc n) zero names e = absurd cc
none_there (suc n) (suc i) names e = none_there n i names e

-- what is read after a write was written there, or read before
read_back : (known : List (Option Bool)) (j i : ℕ) (written read : Bool) → slice_index_or (slice_set known j (Some written)) i None ≡ Some read
    → ((j ≡ i) × (written ≡ read)) ⊎ (slice_index_or known i None ≡ Some read)
read_back [] j i written read e = inr e
read_back (x ∷ known) zero zero written read e = inl (refl, cc)
read_back (x ∷ known) zero (suc i) written read e = inr e
read_back (x ∷ known) (suc j) zero written read e = inr e
read_back (x ∷ known) (suc j) (suc i) written read e = elim (read_back known j i written read e) [
  | inl same ↦ inl (ap suc same.0, same.1)
  | inr before ↦ inr before
]

module _ (test : Name → Bool) (c : ClassFile) (known : List (Option Bool)) where
  pub nothing_known : (n : ℕ) → known ≡ replicate n None → AreKnown test c known
  nothing_known n none i names e = absurd (none_there n i names (sym (ap (λ k. slice_index_or k i None) none) ∙ e))

  pub one_known : (index : ConstantIndex) (names : Bool) → AreKnown test c known → names ≡ names_one test (utf8_at c index)
      → AreKnown test c (slice_set known index.0 (Some names))
  one_known index names right is i read e = elim (read_back known index.0 i names read e) [
    | inl same ↦ sym same.1 ∙ is ∙ ap (λ k. names_one test (utf8_at c (record { 0 = k }))) same.0
    | inr before ↦ right i read before
  ]

flat_same : {X A : Type 0} (f g : X → List A) (xs : List X) → ((x : X) → f x ≡ g x) → flat_map f xs ≡ flat_map g xs
flat_same f g [] e = refl
flat_same f g (x ∷ xs) e = ap (λ v. v ++ flat_map f xs) (e x) ∙ ap (λ v. g x ++ v) (flat_same f g xs e)

flat_none : {X A : Type 0} (xs : List X) → flat_map {X = X} {A = A} (λ x. []) xs ≡ []
flat_none [] = refl
flat_none (x ∷ xs) = flat_none xs

test_same : (test other : Name → Bool) (o : Option Name) → ((n : Name) → test n ≡ other n) → option_map_or test o false ≡ option_map_or other o false
test_same test other None e = refl
test_same test other (Some n) e = e n

if_class : Bool → ℕ → List ConstantIndex
if_class b index = option_to_list (if b then Some (record { 0 = index }) else None)

pub same_classes : (test other : Name → Bool) (c : ClassFile) → ((n : Name) → test n ≡ other n) → classes_that test c ≡ classes_that other c
unfolding if_class
same_classes test other c e =
    flat_same
    (λ index. option_to_list (class_that test c index))
    (λ index. option_to_list (class_that other c index))
    (range_with_len 1 (all_slots c.constants))
    (λ index. ap (λ b. if_class b index) (test_same test other (option_and_then (λ text. class_of (named_by text)) (class_text_at c (record { 0 = index }))) e))

pub empty_list : {X : Type 0} (xs : List X) → (length xs == 0) ≡ true → xs ≡ []
empty_list [] e = refl
empty_list (x ∷ xs) e = absurd (grind (arith, e))

none_passes : (o : Option Name) → option_map_or (λ n. false) o false ≡ false
none_passes None = refl
none_passes (Some n) = refl

pub no_classes : (c : ClassFile) → classes_that (λ n. false) c ≡ []
unfolding if_class
no_classes c =
    flat_same
    (λ index. option_to_list (class_that (λ n. false) c index))
    (λ index. [])
    (range_with_len 1 (all_slots c.constants))
    (λ index. ap (λ b. if_class b index) (none_passes (option_and_then (λ text. class_of (named_by text)) (class_text_at c (record { 0 = index })))))
    ∙ flat_none (range_with_len 1 (all_slots c.constants))

-- ---- the whole

flat_flat : {X A B : Type 0} (f : X → List A) (g : A → List B) (xs : List X) → flat_map g (flat_map f xs) ≡ flat_map (λ x. flat_map g (f x)) xs
flat_flat f g [] = refl
flat_flat f g (x ∷ xs) = flat_map-append g (f x) (flat_map f xs) ∙ ap (λ v. flat_map g (f x) ++ v) (flat_flat f g xs)

-- the descriptors of the members that method handles refer to
by_handles : (c : ClassFile) → flat_map (descriptor_of_member c) (by_constants named_by_handle c) ≡ by_constants (handle_descriptor c) c
by_handles c =
    flat_flat (λ index. option_to_list (option_and_then named_by_handle (constant_at c (record { 0 = index })))) (descriptor_of_member c) (range_with_len 1 (all_slots c.constants))
    ∙ flat_same
    (λ index. flat_map (descriptor_of_member c) (option_to_list (option_and_then named_by_handle (constant_at c (record { 0 = index })))))
    (λ index. option_to_list (option_and_then (handle_descriptor c) (constant_at c (record { 0 = index }))))
    (range_with_len 1 (all_slots c.constants))
    (λ index. of_one (constant_at c (record { 0 = index })))
  where
    of_one : (o : Option Constant) → flat_map (descriptor_of_member c) (option_to_list (option_and_then named_by_handle o)) ≡ option_to_list (option_and_then (handle_descriptor c) o)
    of_one None = refl
    of_one (Some (pool.MethodHandle kind reference)) = append-nil (descriptor_of_member c reference)
    of_one (Some (pool.Utf8 text)) = refl
    of_one (Some (pool.Integer bits)) = refl
    of_one (Some (pool.Float bits)) = refl
    of_one (Some (pool.Long bits)) = refl
    of_one (Some (pool.Double bits)) = refl
    of_one (Some (pool.Class name)) = refl
    of_one (Some (pool.String text)) = refl
    of_one (Some (pool.Fieldref class entry)) = refl
    of_one (Some (pool.Methodref class entry)) = refl
    of_one (Some (pool.InterfaceMethodref class entry)) = refl
    of_one (Some (pool.NameAndType name descriptor)) = refl
    of_one (Some (pool.MethodType descriptor)) = refl
    of_one (Some (pool.InvokeDynamic bootstrap entry)) = refl

pub descriptors_whole : (c : ClassFile) → by_named (own_descriptor c) c ++ flat_map (descriptor_of_member c) (by_constants named_by_handle c) ≡ resolved_descriptors c
unfolding resolved_descriptors
descriptors_whole c = ap (λ v. by_named (own_descriptor c) c ++ v) (by_handles c)
