-- The references of a class file have the indexes of their constants, in ascending order.
use Rattle.std.proofs.Common.{◌≡◌, ℕ, zero, suc, ◌+◌, ◌<◌, ◌≤◌, List, [], ◌++◌, map, Option, Some, None, refl, subst, sym, arith}
use Rattle.std.specs.declared.cmp.Ordering.TheVariants.{Less}
use Rattle.std.specs.Cmp.{nat_cmp_is}
use Rattle.std.specs.List.Sorted.{IsStrictlySortedBy}
use Rattle.std.specs.Ordering.{nat_cmp}
use Rattle.std.specs.List.{All, AllByRecursion, flat_map, range_with_len}
use Rattle.std.specs.Option.{option_to_list}
use Rattle.std.specs.Prelude.{option_and_then}
use Rattle.std.proofs.lemmas.List.Elements.{All-cons, All-nil}
use Rattle.std.proofs.lemmas.Option.{same_Some}
use Rattle.jc_view.specs.declared.constant_pool.ConstantIndex.{ConstantIndex}
use Rattle.jc_view.specs.ConstantPool as pool
use Rattle.jc_view.specs.ClassFile.{ClassFile, all_slots, class_text_at, constant_at}
use Rattle.jc_view.specs.Lookups.{member_descriptor_at, member_name_at, utf8_at}
use Rattle.jc_classes.specs.declared.reference.ReferenceKind.{ReferenceKind}
use Rattle.jc_classes.specs.Facts.{Reference}
use Rattle.jc_classes.specs.FactsOf.{member_reference, reference_at, reference_of, references_in}
use Rattle.jc_classes.specs.FactsOrder.{AreByIndex, AreByPlace}
use Rattle.jc_classes.specs.declared.facts.ReferenceEntry.{ReferenceEntry}
use Rattle.jc_classes.specs.inside.FactsShown.{reference_shown}
use Rattle.jc_code.specs.declared.method_use.MethodUse.{MethodUse}

-- ---- references that consecutive numbers give, each with its number as index

module _ (f : ℕ → Option Reference) (tells : (k : ℕ) (r : Reference) → f k ≡ Some r → r.index ≡ k) where
  abbrev indexes_of : List Reference → List ℕ
  indexes_of rs = map (λ (r : Reference). r.index) rs

  abbrev those_of : List ℕ → List Reference
  those_of ks = flat_map (λ k. option_to_list (f k)) ks

  abbrev Above : ℕ → List Reference → Type 0
  Above n rs = AllByRecursion (λ y. nat_cmp n y ≡ Less) (indexes_of rs)

  above : (n first count : ℕ) → n < first → Above n (those_of (range_with_len first count))
  above n first zero less = tt
  above n first (suc count) less = by (f first) refl (above n (first + 1) count (omega (arith, less)))
    where
      rest : List Reference
      rest = those_of (range_with_len (first + 1) count)

      by : (o : Option Reference) → f first ≡ o → Above n rest → Above n (option_to_list o ++ rest)
      by None e all = all
      by (Some r) e all = (sym (nat_cmp_is n r.index Less (subst (λ k. n < k) (sym (tells first r e)) less)), all)

  pub rise_by_number : (first count : ℕ) → IsStrictlySortedBy nat_cmp (indexes_of (those_of (range_with_len first count)))
  unfolding IsStrictlySortedBy
  rise_by_number first zero = tt
  rise_by_number first (suc count) = by (f first) refl (above first (first + 1) count (omega arith)) (rise_by_number (first + 1) count)
    where
      rest : List Reference
      rest = those_of (range_with_len (first + 1) count)

      by : (o : Option Reference) → f first ≡ o → Above first rest → IsStrictlySortedBy nat_cmp (indexes_of rest) → IsStrictlySortedBy nat_cmp (indexes_of (option_to_list o ++ rest))
      by None e all rises = rises
      by (Some r) e all rises = (subst (λ n. Above n rest) (sym (tells first r e)) all, rises)

-- ---- the reference of a constant has its index

-- what holds of each result of a function holds of its result for a value that may be missing
pub through : {A B : Type 0} (P : B → Type 0) (o : Option A) (g : A → Option B) → ((a : A) (b : B) → g a ≡ Some b → P b) → (b : B) → option_and_then g o ≡ Some b → P b
through P None g holds b e = absurd cc
through P (Some a) g holds b e = holds a b e

pub itself : {B : Type 0} (P : B → Type 0) (x : B) → P x → (b : B) → Some x ≡ Some b → P b
itself P x holds b e = subst P (same_Some x b e) holds

abbrev Tells : ℕ → Reference → Type 0
Tells index r = r.index ≡ index

member_tells : (c : ClassFile) (index : ℕ) (kind : ReferenceKind) (class entry : ConstantIndex) (r : Reference) → member_reference c index kind class entry ≡ Some r → Tells index r
member_tells c index kind class entry =
    through (Tells index) (class_text_at c class) _ (λ text.
    through (Tells index) (member_name_at c entry) _ (λ name.
    through (Tells index) (member_descriptor_at c entry) _ (λ descriptor. itself (Tells index) _ refl)))

constant_tells : (c : ClassFile) (index : ℕ) (constant : pool.Constant) (r : Reference) → reference_of c index constant ≡ Some r → Tells index r
constant_tells c index (pool.Class name) r e = through (Tells index) (utf8_at c name) _ (λ text. itself (Tells index) _ refl) r e
constant_tells c index (pool.Fieldref class entry) r e = member_tells c index _ class entry r e
constant_tells c index (pool.Methodref class entry) r e = member_tells c index _ class entry r e
constant_tells c index (pool.InterfaceMethodref class entry) r e = member_tells c index _ class entry r e
constant_tells c index (pool.Utf8 text) r e = absurd cc
constant_tells c index (pool.Integer bits) r e = absurd cc
constant_tells c index (pool.Float bits) r e = absurd cc
constant_tells c index (pool.Long bits) r e = absurd cc
constant_tells c index (pool.Double bits) r e = absurd cc
constant_tells c index (pool.String text) r e = absurd cc
constant_tells c index (pool.NameAndType name descriptor) r e = absurd cc
constant_tells c index (pool.MethodHandle kind reference) r e = absurd cc
constant_tells c index (pool.MethodType descriptor) r e = absurd cc
constant_tells c index (pool.InvokeDynamic bootstrap entry) r e = absurd cc

pub index_tells : (c : ClassFile) (index : ℕ) (r : Reference) → reference_at c index ≡ Some r → r.index ≡ index
index_tells c index = through (Tells index) (constant_at c (record { 0 = index })) (reference_of c index) (constant_tells c index)

-- ---- they are indexes of constants

abbrev IsBelow : ℕ → Reference → Type 0
IsBelow end r = r.index < end

below_from : (c : ClassFile) (end first count : ℕ) → first + count ≤ end → All (IsBelow end) (flat_map (λ index. option_to_list (reference_at c index)) (range_with_len first count))
below_from c end first zero le = All-nil (IsBelow end)
below_from c end first (suc count) le = by (reference_at c first) refl (below_from c end (first + 1) count (omega (arith, le)))
  where
    rest : List Reference
    rest = flat_map (λ index. option_to_list (reference_at c index)) (range_with_len (first + 1) count)

    by : (o : Option Reference) → reference_at c first ≡ o → All (IsBelow end) rest → All (IsBelow end) (option_to_list o ++ rest)
    by None e more = more
    by (Some r) e more = All-cons (IsBelow end) r rest (subst (λ k. k < end) (sym (index_tells c first r e)) (omega (arith, le))) more

pub references_below : (c : ClassFile) → All (IsBelow (1 + all_slots c.constants)) (references_in c)
unfolding references_in
references_below c = below_from c (1 + all_slots c.constants) 1 (all_slots c.constants) (omega arith)

-- ---- in order

pub references_rise : (c : ClassFile) → AreByIndex (references_in c)
unfolding references_in
references_rise c = rise_by_number (reference_at c) (index_tells c) 1 (all_slots c.constants)

none_by_index : AreByIndex []
unfolding IsStrictlySortedBy
none_by_index = tt

none_by_place : AreByPlace []
unfolding IsStrictlySortedBy
none_by_place = tt

pub no_references : (texts : List (List ℕ)) (entries : List ReferenceEntry) → entries ≡ [] → AreByIndex (map (reference_shown texts) entries)
no_references texts entries e = subst (λ es. AreByIndex (map (reference_shown texts) es)) (sym e) none_by_index

pub no_uses : (uses : List MethodUse) → uses ≡ [] → AreByPlace uses
no_uses uses e = subst AreByPlace (sym e) none_by_place
