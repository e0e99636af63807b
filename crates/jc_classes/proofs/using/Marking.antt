-- Marks by index.
use Rattle.std.proofs.Common.{◌≡◌, ◌∙◌, ℕ, ◌+◌, ◌<◌, ◌≤◌, ◌||◌, ◌==◌, ◌++◌, Bool, true, false, List, [], length, length-set, replicate, set, take, refl, ap, sym, arith, ◌⊎◌, ⊎_elim}
use Rattle.std.proofs.Math.ListN.{get_or}
use Rattle.std.proofs.lemmas.List.{ext_get_or, get_or-replicate, get_or-set_other, get_or-set_same, length-replicate}
use Rattle.std.proofs.lemmas.List.Folds.{list_any-append, list_any_more}
use Rattle.std.proofs.lemmas.List.FromFn.{get_or-map-range_with_len, length-map-range_with_len}
use Rattle.jc_view.specs.declared.constant_pool.ConstantIndex.{ConstantIndex}
use Rattle.jc_view.specs.ClassFile.{ClassFile, all_slots}
use Rattle.jc_classes.specs.UsedConstants.{is_among}
use Rattle.jc_classes.specs.inside.Using.{Marks, are_marks, mark_at}

pub nat_cases : (u v : ℕ) → (u ≡ v) ⊎ (u ≡ v → ⊥)
nat_cases u v = search arith

pub same_number : (u v : ℕ) → u ≡ v → (v == u) ≡ true
same_number u v e = grind arith

pub other_number : (u v : ℕ) → (u ≡ v → ⊥) → (v == u) ≡ false
other_number u v n = grind arith

or_true : (b : Bool) → b || true ≡ true
or_true true = refl
or_true false = refl

pub or_false : (b : Bool) → b || false ≡ b
or_false true = refl
or_false false = refl

-- one that is there is marked
pub marks_one : (marks : List Bool) (v : ℕ) → v < length marks → Marks (λ i. v == i) marks (set marks v true)
marks_one marks v l = record {
  size = length-set marks v true;
  marks = λ i within. ⊎_elim
      (λ e. ap (mark_at (set marks v true)) e ∙ get_or-set_same marks v true false l ∙ sym (ap (λ b. mark_at marks i || b) (same_number i v e) ∙ or_true (mark_at marks i)))
      (λ n. get_or-set_other marks v i true false n ∙ sym (ap (λ b. mark_at marks i || b) (other_number i v n) ∙ or_false (mark_at marks i)))
      (nat_cases i v);
}

beyond : (marks : List Bool) (v i : ℕ) → length marks ≤ v → i < length marks → i ≡ v → ⊥
beyond marks v i le l e = omega arith

-- one that is not is none
pub marks_none : (marks : List Bool) (v : ℕ) → length marks ≤ v → Marks (λ i. v == i) marks marks
marks_none marks v le = record {
  size = refl;
  marks = λ i within. sym (ap (λ b. mark_at marks i || b) (other_number i v (beyond marks v i le within)) ∙ or_false (mark_at marks i));
}

-- one that is marked already
pub marks_kept : (marks : List Bool) (v : ℕ) → mark_at marks v ≡ true → Marks (λ i. v == i) marks marks
marks_kept marks v marked = record {
  size = refl;
  marks = λ i within. ⊎_elim
      (λ e. ap (mark_at marks) e ∙ marked ∙ sym (ap (λ b. mark_at marks i || b) (same_number i v e) ∙ or_true (mark_at marks i)))
      (λ n. sym (ap (λ b. mark_at marks i || b) (other_number i v n) ∙ or_false (mark_at marks i)))
      (nat_cases i v);
}

-- ---- marks of several

pub marks_nothing : (marks : List Bool) → Marks (is_among []) marks marks
marks_nothing marks = record { size = refl; marks = λ i within. sym (or_false (mark_at marks i)) }

or_assoc : (a b c : Bool) → (a || b) || c ≡ a || (b || c)
or_assoc true b c = refl
or_assoc false b c = refl

-- by the names so far and one more
pub marks_more : (names : List ConstantIndex) (n : ℕ) (x : ConstantIndex) (old found new : List Bool) → n < length names → x ≡ get_or names n x
    → Marks (is_among (take n names)) old found → Marks (λ i. x.0 == i) found new → Marks (is_among (take (n + 1) names)) old new
marks_more names n x old found new l is first second = record {
  size = second.size ∙ first.size;
  marks = λ i within.
      second.marks i (rw first.size within)
      ∙ ap (λ b. b || (x.0 == i)) (first.marks i within)
      ∙ or_assoc (mark_at old i) (is_among (take n names) i) (x.0 == i)
      ∙ ap (λ b. mark_at old i || b)
      (ap (λ (y : ConstantIndex). is_among (take n names) i || (y.0 == i)) is ∙ sym (list_any_more (λ (y : ConstantIndex). y.0 == i) names n x l));
}

-- ---- marks of a list

pub record AreMarked (count : ℕ) (names : List ConstantIndex) (marks : List Bool) : Type 0 where
  pub size : length marks ≡ count
  pub each : (i : ℕ) → i < count → mark_at marks i ≡ is_among names i

pub marked_none : (count : ℕ) (marks : List Bool) → marks ≡ replicate count false → AreMarked count [] marks
marked_none count marks e = record {
  size = ap length e ∙ length-replicate count false;
  each = λ i l. ap (λ ms. mark_at ms i) e ∙ get_or-replicate count i false false l;
}

-- one more name
pub marked_more : (count : ℕ) (names : List ConstantIndex) (n : ℕ) (x : ConstantIndex) (old new : List Bool) → n < length names → x ≡ get_or names n x
    → AreMarked count (take n names) old → Marks (λ i. x.0 == i) old new → AreMarked count (take (n + 1) names) new
marked_more count names n x old new l is m step = record {
  size = step.size ∙ m.size;
  each = λ i within.
      step.marks i (rw m.size within)
      ∙ ap (λ b. b || (x.0 == i)) (m.each i within)
      ∙ ap (λ (y : ConstantIndex). is_among (take n names) i || (y.0 == i)) is
      ∙ sym (list_any_more (λ (y : ConstantIndex). y.0 == i) names n x l);
}

-- a mark for each index
pub all_marks : (c : ClassFile) (names : List ConstantIndex) (marks : List Bool) → AreMarked (1 + all_slots c.constants) names marks → marks ≡ are_marks c names
all_marks c names marks m =
    let count = 1 + all_slots c.constants in
    ext_get_or false marks (are_marks c names)
    (m.size ∙ sym (length-map-range_with_len (is_among names) 0 count))
    (λ i l. m.each i (rw (sym m.size) l) ∙ sym (get_or-map-range_with_len (is_among names) 0 count i i false (rw (sym m.size) l) (omega arith)))

pub mark_there : (c : ClassFile) (names : List ConstantIndex) (marks : List Bool) (i : ℕ) → marks ≡ are_marks c names → i < 1 + all_slots c.constants → mark_at marks i ≡ is_among names i
mark_there c names marks i e l = ap (λ ms. mark_at ms i) e ∙ get_or-map-range_with_len (is_among names) 0 (1 + all_slots c.constants) i i false l (omega arith)

pub length_marks : (c : ClassFile) (names : List ConstantIndex) → length (are_marks c names) ≡ 1 + all_slots c.constants
length_marks c names = length-map-range_with_len (is_among names) 0 (1 + all_slots c.constants)

-- and of more besides
pub marks_added : (c : ClassFile) (names more : List ConstantIndex) (old new : List Bool) → old ≡ are_marks c names → Marks (is_among more) old new → new ≡ are_marks c (names ++ more)
marks_added c names more old new e step = all_marks c (names ++ more) new (record {
  size = step.size ∙ size;
  each = λ i within.
      step.marks i (rw size within) ∙ ap (λ b. b || is_among more i) (mark_there c names old i e within) ∙ sym (list_any-append (λ (y : ConstantIndex). y.0 == i) names more);
})
  where
    size : length old ≡ 1 + all_slots c.constants
    size = ap length e ∙ length_marks c names
