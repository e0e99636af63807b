-- The first method whose code uses each constant, while methods are added in file order.
use Rattle.std.proofs.Common.{◌≡◌, ◌∙◌, ℕ, ◌+◌, ◌<◌, ◌≤◌, ◌-◌, ◌++◌, drop, ◌||◌, ◌==◌, Bool, true, false, cond, List, [], ◌∷◌, length, take, Option, Some, None, refl, ap, sym, subst, arith, ◌⊎◌, inl, inr, ⊎_elim}
use Rattle.std.specs.List.{list_any, position_from}
use Rattle.std.specs.Option.{option_map_or, option_or}
use Rattle.std.specs.Prelude.{IsSome, option_and_then}
use Rattle.std.proofs.Math.ListN.{get_or}
use Rattle.std.proofs.Math.Seq.{drop-append_seam}
use Rattle.std.proofs.lemmas.List.Folds.{list_any_more}
use Rattle.std.proofs.lemmas.Iterator.Adapters.{position_from-zero}
use Rattle.std.proofs.lemmas.List.{get_or-replicate, get_or_past, length-append, length-replicate, take_all}
use Rattle.jc_view.specs.declared.constant_pool.ConstantIndex.{ConstantIndex}
use Rattle.jc_view.specs.ClassFile.{ClassFile, Member, all_slots, constant_at}
use Rattle.jc_view.specs.Lookups.{class_index}
use Rattle.jc_classes.specs.Users.{first_user, names_constant, uses_constant}
use Rattle.jc_classes.specs.declared.first_users.FirstUsers.{FirstUsers}
use Rattle.jc_classes.specs.inside.FirstUsers.{AddsFirst, AreFirst, AreSeen, IsEmpty, SetsFirst, first_at, method_if}
use Rattle.jc_classes.specs.inside.Using.{Marks, are_marks, mark_at}
use Rattle.jc_classes.proofs.using.Marking.{all_marks, marked_none, or_false}

-- ---- a number or another

or_nothing : (o : Option ℕ) → option_or o None ≡ o
or_nothing None = refl
or_nothing (Some n) = refl

or_there : (o : Option ℕ) (p : Option ℕ) → IsSome o → option_or o p ≡ o
or_there None p e = absurd cc
or_there (Some n) p e = refl

or_both : (o : Option ℕ) (a b : Bool) (m : ℕ) → option_or (option_or o (method_if a m)) (method_if b m) ≡ option_or o (method_if (a || b) m)
or_both (Some n) a b m = refl
or_both None true b m = refl
or_both None false b m = refl

or_next : (o : Option ℕ) (b : Bool) (m : ℕ) (p : Option ℕ) → option_or (option_or o (method_if b m)) p ≡ option_or o (cond b (Some m) p)
or_next (Some n) b m p = refl
or_next None true m p = refl
or_next None false m p = refl

some_stays : (o p : Option ℕ) → IsSome o → IsSome (option_or o p)
some_stays None p e = absurd cc
some_stays (Some n) p e = refl

some_added : (o : Option ℕ) (b : Bool) (m : ℕ) → b ≡ true → IsSome (option_or o (method_if b m))
some_added (Some n) b m e = refl
some_added None true m e = refl
some_added None false m e = absurd cc

or_cases : (a b : Bool) → (a || b) ≡ true → (a ≡ true) ⊎ (b ≡ true)
or_cases true b e = inl refl
or_cases false b e = inr e

number_is : (u v : ℕ) → (v == u) ≡ true → u ≡ v
number_is u v e = grind arith

-- ---- numbers by index

-- some, and then more
pub sets_both : (test more : ℕ → Bool) (m : ℕ) (old found new : List (Option ℕ)) → SetsFirst test m old found → SetsFirst more m found new → SetsFirst (λ i. test i || more i) m old new
sets_both test more m old found new first second = record {
  size = second.size ∙ first.size;
  sets = λ i within. second.sets i (rw first.size within)
      ∙ ap (λ o. option_or o (method_if (more i) m)) (first.sets i within)
      ∙ or_both (first_at old i) (test i) (more i) m;
}

-- by a test that is the same
pub sets_equal : (test other : ℕ → Bool) (m : ℕ) (old new : List (Option ℕ)) → ((i : ℕ) → test i ≡ other i) → SetsFirst test m old new → SetsFirst other m old new
sets_equal test other m old new same sets = record {
  size = sets.size;
  sets = λ i within. sets.sets i within ∙ ap (λ b. option_or (first_at old i) (method_if b m)) (same i);
}

pub sets_nothing : (m : ℕ) (numbers : List (Option ℕ)) → SetsFirst (λ i. false) m numbers numbers
sets_nothing m numbers = record { size = refl; sets = λ i within. sym (or_nothing (first_at numbers i)) }

-- by the names so far and one more
pub sets_more : (c : ClassFile) (m n : ℕ) (names : List ConstantIndex) (x : ConstantIndex) (old found new : List (Option ℕ)) → n < length names → x ≡ get_or names n x
    → SetsFirst (λ i. list_any (names_constant c i) (take n names)) m old found → SetsFirst (λ i. names_constant c i x) m found new → SetsFirst (λ i. list_any (names_constant c i) (take (n + 1) names)) m old new
sets_more c m n names x old found new l is first second =
    sets_equal (λ i. list_any (names_constant c i) (take n names) || names_constant c i x) (λ i. list_any (names_constant c i) (take (n + 1) names)) m old new
    (λ i. ap (λ y. list_any (names_constant c i) (take n names) || names_constant c i y) is ∙ sym (list_any_more (names_constant c i) names n x l))
    (sets_both (λ i. list_any (names_constant c i) (take n names)) (λ i. names_constant c i x) m old found new first second)

-- by the constant, and by the class of the member that it names
pub owner_test : (c : ClassFile) (index : ConstantIndex) (o : Option ConstantIndex) → o ≡ option_and_then class_index (constant_at c index)
    → (i : ℕ) → ((index.0 == i) || option_map_or (λ (class : ConstantIndex). class.0 == i) o false) ≡ names_constant c i index
owner_test c index o e i = ap (λ p. (index.0 == i) || option_map_or (λ (class : ConstantIndex). class.0 == i) p false) e

pub sets_alone : (c : ClassFile) (index : ConstantIndex) (m : ℕ) (old new : List (Option ℕ)) → None ≡ option_and_then class_index (constant_at c index)
    → SetsFirst (λ i. index.0 == i) m old new → SetsFirst (λ i. names_constant c i index) m old new
sets_alone c index m old new none sets =
    sets_equal (λ i. index.0 == i) (λ i. names_constant c i index) m old new (λ i. sym (or_false (index.0 == i)) ∙ owner_test c index None none i) sets

pub sets_owner : (c : ClassFile) (index class : ConstantIndex) (m : ℕ) (old found new : List (Option ℕ)) → Some class ≡ option_and_then class_index (constant_at c index)
    → SetsFirst (λ i. index.0 == i) m old found → SetsFirst (λ i. class.0 == i) m found new → SetsFirst (λ i. names_constant c i index) m old new
sets_owner c index class m old found new some first second =
    sets_equal (λ i. (index.0 == i) || (class.0 == i)) (λ i. names_constant c i index) m old new (owner_test c index (Some class) some)
    (sets_both (λ i. index.0 == i) (λ i. class.0 == i) m old found new first second)

-- ---- constants that were seen

-- what one that was seen uses has numbers
pub sets_seen : (c : ClassFile) (index : ConstantIndex) (m : ℕ) (first : FirstUsers) → AreSeen c first → mark_at first.seen.items index.0 ≡ true
    → AddsFirst (λ i. names_constant c i index) m first first
sets_seen c index m first are marked = record {
  size = refl;
  sets = λ i within. by i (rw (← are.size) within) (names_constant c i index) refl;
}
  where
    by : (i : ℕ) → i < 1 + all_slots c.constants → (b : Bool) → names_constant c i index ≡ b
        → first_at first.numbers.items i ≡ option_or (first_at first.numbers.items i) (method_if (names_constant c i index) m)
    by i within true e = sym (or_there (first_at first.numbers.items i) (method_if (names_constant c i index) m) (are.seen index i marked e within))
    by i within false e = sym (ap (λ b. option_or (first_at first.numbers.items i) (method_if b m)) e ∙ or_nothing (first_at first.numbers.items i))

marked_within : (marks : List Bool) (i : ℕ) → mark_at marks i ≡ true → i < length marks
marked_within marks i e = ⊎_elim (λ l. l) (λ le. absurd (clash (sym e ∙ get_or_past marks i false le))) (cases i (length marks))
  where
    clash : true ≡ false → ⊥
    clash h = absurd cc

    cases : (u v : ℕ) → (u < v) ⊎ (v ≤ u)
    cases u v = search arith

-- one more constant
pub one_seen : (c : ClassFile) (index : ConstantIndex) (m : ℕ) (old new : FirstUsers) → AreSeen c old → Marks (λ i. index.0 == i) old.seen.items new.seen.items
    → AddsFirst (λ i. names_constant c i index) m old new → AreSeen c new
one_seen c index m old new are marks sets = record {
  size = sets.size ∙ are.size;
  marks = marks.size ∙ are.marks;
  seen = λ x i marked names within.
      let at : x.0 < length old.seen.items = subst (λ n. x.0 < n) marks.size (marked_within new.seen.items x.0 marked) in
      let there : i < length old.numbers.items = subst (λ n. i < n) (sym are.size) within in
      subst IsSome (sym (sets.sets i there)) (⊎_elim
      (λ before. some_stays (first_at old.numbers.items i) (method_if (names_constant c i index) m) (are.seen x i before names within))
      (λ now. some_added (first_at old.numbers.items i) (names_constant c i index) m (ap (λ k. names_constant c i (record { 0 = k })) (sym (number_is x.0 index.0 now)) ∙ names))
      (or_cases (mark_at old.seen.items x.0) (index.0 == x.0) (sym (marks.marks x.0 at) ∙ marked)));
}

-- none at all
pub none_seen : (c : ClassFile) (first : FirstUsers) → IsEmpty c first → AreSeen c first
none_seen c first empty = record {
  size = ap length empty.numbers ∙ length-replicate (1 + all_slots c.constants) None;
  marks = ap length empty.seen ∙ length-replicate (1 + all_slots c.constants) false;
  seen = λ x i marked names within. absurd (no_mark x.0 marked);
}
  where
    count : ℕ
    count = 1 + all_slots c.constants

    no_mark : (v : ℕ) → mark_at first.seen.items v ≡ true → ⊥
    no_mark v marked =
        let at : v < count = subst (λ n. v < n) (ap length empty.seen ∙ length-replicate (1 + all_slots c.constants) false) (marked_within first.seen.items v marked) in
        let unmarked : mark_at first.seen.items v ≡ false = ap (λ ms. mark_at ms v) empty.seen ∙ get_or-replicate (1 + all_slots c.constants) v false false at in
        clash (sym marked ∙ unmarked)
      where
        clash : true ≡ false → ⊥
        clash h = absurd cc

pub none_marked : (c : ClassFile) (first : FirstUsers) → IsEmpty c first → first.seen.items ≡ are_marks c []
none_marked c first empty = all_marks c [] first.seen.items (marked_none (1 + all_slots c.constants) first.seen.items empty.seen)

-- ---- what the code of one method names

-- what was added is what stands from the old end on
pub added_last : (old mine all : List ConstantIndex) (n : ℕ) → all ≡ old ++ mine → n ≡ length old → take (length all - n) (drop n all) ≡ mine
added_last old mine all n is len =
    let last : drop n all ≡ mine = ap (λ k. drop k all) len ∙ ap (drop (length old)) is ∙ drop-append_seam old mine in
    ap (take (length all - n)) last ∙ take_all (length all - n) mine (omega (arith, len, ap length is, length-append old mine))

-- ---- methods in file order

-- with the first among those that are left
abbrev pub AreFound : ClassFile → ℕ → List Member → List (Option ℕ) → Type 0
AreFound c number left numbers =
    (i : ℕ) → i < 1 + all_slots c.constants → option_or (first_at numbers i) (position_from (uses_constant c i) number left) ≡ first_user c i

pub found_none : (c : ClassFile) (first : FirstUsers) (number : ℕ) (left : List Member) → IsEmpty c first → number ≡ 0 → left ≡ c.methods → AreFound c number left first.numbers.items
found_none c first number left empty at all = λ i within.
    let none : first_at first.numbers.items i ≡ None = ap (λ ns. first_at ns i) empty.numbers ∙ get_or-replicate (1 + all_slots c.constants) i None None within in
    ap (λ o. option_or o (position_from (uses_constant c i) number left)) none
    ∙ ap (λ n. position_from (uses_constant c i) n left) at
    ∙ ap (position_from (uses_constant c i) 0) all
    ∙ sym (position_from-zero (uses_constant c i) c.methods)

pub found_next : (c : ClassFile) (number next m : ℕ) (left rest : List Member) (x : Member) (old new : List (Option ℕ)) → length old ≡ 1 + all_slots c.constants → left ≡ x ∷ rest → m ≡ number → next ≡ number + 1
    → SetsFirst (λ i. uses_constant c i x) m old new → AreFound c number left old → AreFound c next rest new
found_next c number next m left rest x old new size is same after sets found = λ i within.
    ap (λ o. option_or o (position_from (uses_constant c i) next rest)) (sets.sets i (rw size within))
    ∙ or_next (first_at old i) (uses_constant c i x) m (position_from (uses_constant c i) next rest)
    ∙ ap (λ n. option_or (first_at old i) (cond (uses_constant c i x) (Some n) (position_from (uses_constant c i) next rest))) same
    ∙ ap (λ n. option_or (first_at old i) (cond (uses_constant c i x) (Some number) (position_from (uses_constant c i) n rest))) after
    ∙ ap (λ ms. option_or (first_at old i) (position_from (uses_constant c i) number ms)) (sym is)
    ∙ found i within

pub found_all : (c : ClassFile) (number : ℕ) (left : List Member) (numbers : List (Option ℕ)) → left ≡ [] → AreFound c number left numbers → AreFirst c numbers
found_all c number left numbers is found = λ i within.
    sym (or_nothing (first_at numbers i))
    ∙ ap (λ ms. option_or (first_at numbers i) (position_from (uses_constant c i) number ms)) (sym is)
    ∙ found i within
