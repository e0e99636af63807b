-- Going through the entries of a table, one at each step.
use Rattle.std.proofs.Common.{◌≡◌, ℕ, zero, suc, ◌+◌, ◌-◌, ◌≤◌, List, [], ◌∷◌, ◌++◌, length, take, drop, Option, Some, None, IsSome, refl, sym, ap, subst, ◌∙◌, arith, length-append}
use Rattle.std.specs.List.{flat_map}
use Rattle.std.proofs.lemmas.List.{length-drop, length-take}
use Rattle.jc_base.proofs.Common.{left_of}
use Rattle.jc_base.specs.Cursor.{Reading}
use Rattle.jc_base.specs.Endian.{big_bytes, big_number}
use Rattle.jc_view.specs.declared.attribute_kind.Holder.{Holder}
use Rattle.jc_view.specs.declared.entries.Entries.{Entries}
use Rattle.jc_view.specs.ConstantPool.{index_bytes}
use Rattle.jc_view.specs.ClassFile.{Attribute, Member, counted, attribute_bytes, member_bytes}
use Rattle.jc_view.specs.Places.{PlacedAttribute, PlacedMember, attributes_from, members_from}
use Rattle.jc_view.specs.Reading.{after, after_sized, sized_value, after_each, each_value, after_table, table_value, after_attribute, attribute_value, after_member, member_value}
use Rattle.jc_view.specs.Moves.{KeepsEnd}
use Rattle.jc_view.specs.inside.Tables.{LendsTable}
use Rattle.jc_view.proofs.reading.BigEndian.{after_some, then_some, length-big_bytes}

is_there : {A : Type 0} (o : Option A) (x : A) → o ≡ Some x → IsSome o
is_there o x e = rw e refl

-- ---- one step

-- the first entry, and those behind it
pub record IsStep {X : Type 0} (one : List ℕ → Option (List ℕ)) (value : List ℕ → X) (left n : ℕ) (xs rest : List ℕ) : Type 0 where
  pub entries : each_value one value left xs ≡ value xs ∷ each_value one value n rest
  pub whole : IsSome (after_each one n rest)

module _ {X : Type 0} (one : List ℕ → Option (List ℕ)) (value : List ℕ → X) where
  pub none_left : (left : ℕ) (xs : List ℕ) → (1 ≤ left → ⊥) → each_value one value left xs ≡ []
  unfolding each_value
  none_left zero xs h = refl
  none_left (suc n) xs h = absurd (h (omega arith))

  pub one_is_there : (left : ℕ) (xs : List ℕ) → 1 ≤ left → IsSome (after_each one left xs) → one xs ≡ None → ⊥
  unfolding after_each
  one_is_there zero xs le whole e = absurd (omega arith)
  one_is_there (suc n) xs le whole e = let none : after_each one (suc n) xs ≡ None = rw e refl in cc

  pub step : (left n : ℕ) (xs rest : List ℕ) → 1 ≤ left → n ≡ left - 1 → IsSome (after_each one left xs) → one xs ≡ Some rest → IsStep one value left n xs rest
  unfolding after_each each_value
  step zero n xs rest le is_n whole e = absurd (omega arith)
  step (suc k) n xs rest le is_n whole e =
      let same : k ≡ n = omega arith in
      let here : left_of (one xs) ≡ rest = ap left_of e in
      let others : after_each one (suc k) xs ≡ after_each one n rest = rw (e, same) refl in
      record {
        entries = ap (λ (ys : List ℕ). value xs ∷ each_value one value k ys) here ∙ ap (λ (m : ℕ). value xs ∷ each_value one value m rest) same;
        whole = subst (λ (o : Option (List ℕ)). IsSome o) others whole;
      }

-- ---- lengths

-- an entry has the length of its bytes
abbrev pub HasLength : {X : Type 0} → (List ℕ → Option (List ℕ)) → (List ℕ → X) → (X → List ℕ) → Type 0
HasLength one value bytes = (xs rest : List ℕ) → one xs ≡ Some rest → length xs ≡ length (bytes (value xs)) + length rest

pub after_length : (n : ℕ) (xs rest : List ℕ) → after n xs ≡ Some rest → length xs ≡ n + length rest
after_length n xs rest e =
    let f = after_some n xs rest e in omega (arith, f.long, ap length f.left, length-drop n xs)

sized_length : (n : ℕ) (xs rest : List ℕ) → after_sized n xs ≡ Some rest → length xs ≡ n + length (sized_value n xs) + length rest
sized_length n xs rest e =
    let b = then_some (after n xs) (after (big_number n xs)) rest e in
    let f = after_some n xs b.0 b.1 in
    let first = after_length n xs b.0 b.1 in
    let second = after_length (big_number n xs) b.0 rest b.2 in
    let size : length (take (big_number n xs) b.0) ≡ big_number n xs = omega (arith, second, length-take (big_number n xs) b.0) in
    let here : length (sized_value n xs) ≡ big_number n xs = ap (λ (ys : List ℕ). length (take (big_number n xs) ys)) f.left ∙ size in
    omega (arith, first, second, here)

module _ {X : Type 0} (one : List ℕ → Option (List ℕ)) (value : List ℕ → X) (bytes : X → List ℕ) where
  each_length : HasLength one value bytes → (n : ℕ) (xs rest : List ℕ) → after_each one n xs ≡ Some rest
      → length xs ≡ length (flat_map bytes (each_value one value n xs)) + length rest
  unfolding after_each each_value
  each_length h zero xs rest e = let same : xs ≡ rest = cc in omega (arith, ap length same)
  each_length h (suc n) xs rest e =
      let b = then_some (one xs) (after_each one n) rest e in
      let here : left_of (one xs) ≡ b.0 = ap left_of b.1 in
      let behind : length (flat_map bytes (each_value one value n (left_of (one xs)))) ≡ length (flat_map bytes (each_value one value n b.0)) = ap (λ (ys : List ℕ). length (flat_map bytes (each_value one value n ys))) here in
      omega (arith, h xs b.0 b.1, each_length h n b.0 rest b.2, behind, length-append (bytes (value xs)) (flat_map bytes (each_value one value n (left_of (one xs)))))

  pub table_length : HasLength one value bytes → (xs rest : List ℕ) → after_table one xs ≡ Some rest → length xs ≡ length (counted bytes (table_value one value xs)) + length rest
  table_length h xs rest e =
      let n = big_number 2 xs in
      let b = then_some (after 2 xs) (after_each one n) rest e in
      let f = after_some 2 xs b.0 b.1 in
      let behind : length (flat_map bytes (each_value one value n (drop 2 xs))) ≡ length (flat_map bytes (each_value one value n b.0)) = ap (λ (ys : List ℕ). length (flat_map bytes (each_value one value n ys))) f.left in
      omega (arith, after_length 2 xs b.0 b.1, each_length h n b.0 rest b.2, behind, length-append (big_bytes 2 (length (table_value one value xs))) (flat_map bytes (table_value one value xs)), length-big_bytes 2 (length (table_value one value xs)))

pub attribute_length : HasLength after_attribute attribute_value attribute_bytes
unfolding after_attribute
attribute_length xs rest e =
    let a = attribute_value xs in
    let b = then_some (after 2 xs) (after_sized 4) rest e in
    let f = after_some 2 xs b.0 b.1 in
    let body : length (sized_value 4 (drop 2 xs)) ≡ length (sized_value 4 b.0) = ap (λ (ys : List ℕ). length (sized_value 4 ys)) f.left in
    omega (arith, after_length 2 xs b.0 b.1, sized_length 4 b.0 rest b.2, body, length-append (index_bytes a.name ++ big_bytes 4 (length a.bytes)) a.bytes, length-append (index_bytes a.name) (big_bytes 4 (length a.bytes)), length-big_bytes 2 a.name.0, length-big_bytes 4 (length a.bytes))

pub member_length : HasLength after_member member_value member_bytes
unfolding after_member
member_length xs rest e =
    let m = member_value xs in
    let b = then_some (after 6 xs) (after_table after_attribute) rest e in
    let f = after_some 6 xs b.0 b.1 in
    let table = counted attribute_bytes (table_value after_attribute attribute_value (drop 6 xs)) in
    let same : length table ≡ length (counted attribute_bytes (table_value after_attribute attribute_value b.0)) = ap (λ (ys : List ℕ). length (counted attribute_bytes (table_value after_attribute attribute_value ys))) f.left in
    let flags = big_bytes 2 m.flags in
    let name = index_bytes m.name in
    let descriptor = index_bytes m.descriptor in
    omega (arith, after_length 6 xs b.0 b.1, table_length after_attribute attribute_value attribute_bytes attribute_length b.0 rest b.2, same, length-append (flags ++ name ++ descriptor) table, length-append (flags ++ name) descriptor, length-append flags name, length-big_bytes 2 m.flags, length-big_bytes 2 m.name.0, length-big_bytes 2 m.descriptor.0)

-- ---- the places of what is left

pub attributes_step : (holder : Holder) (left n : ℕ) (old new : Reading) → IsStep after_attribute attribute_value left n old.rest new.rest → after_attribute old.rest ≡ Some new.rest → KeepsEnd old new
    → attributes_from holder old.place (each_value after_attribute attribute_value left old.rest)
    ≡ record { holder = holder; place = old.place; attribute = attribute_value old.rest } ∷ attributes_from holder new.place (each_value after_attribute attribute_value n new.rest)
unfolding attributes_from
attributes_step holder left n old new s e keeps =
    let place : old.place + length (attribute_bytes (attribute_value old.rest)) ≡ new.place = omega (arith, attribute_length old.rest new.rest e, keeps) in
    ap (attributes_from holder old.place) s.entries
    ∙ ap (λ (p : ℕ). record { holder = holder; place = old.place; attribute = attribute_value old.rest } ∷ attributes_from holder p (each_value after_attribute attribute_value n new.rest)) place

pub members_step : (holder : Holder) (left n : ℕ) (old new : Reading) → IsStep after_member member_value left n old.rest new.rest → after_member old.rest ≡ Some new.rest → KeepsEnd old new
    → members_from holder old.place (each_value after_member member_value left old.rest)
    ≡ record { holder = holder; place = old.place; member = member_value old.rest } ∷ members_from holder new.place (each_value after_member member_value n new.rest)
unfolding members_from
members_step holder left n old new s e keeps =
    let place : old.place + length (member_bytes (member_value old.rest)) ≡ new.place = omega (arith, member_length old.rest new.rest e, keeps) in
    ap (members_from holder old.place) s.entries
    ∙ ap (λ (p : ℕ). record { holder = holder; place = old.place; member = member_value old.rest } ∷ members_from holder p (each_value after_member member_value n new.rest)) place

pub no_attributes : (holder : Holder) (place : ℕ) (attributes : List Attribute) → attributes ≡ [] → attributes_from holder place attributes ≡ []
unfolding attributes_from
no_attributes holder place attributes e = ap (attributes_from holder place) e

pub no_members : (holder : Holder) (place : ℕ) (members : List Member) → members ≡ [] → members_from holder place members ≡ []
unfolding members_from
no_members holder place members e = ap (members_from holder place) e

-- ---- a table that is gone over at once

pub lends_same : (f g : List ℕ → Option (List ℕ)) → ((xs : List ℕ) → f xs ≡ g xs) → (old : Reading) (result : Option Entries) (new : Reading) → LendsTable f old result new → LendsTable g old result new
lends_same f g same old None new h = sym (same old.rest) ∙ h
lends_same f g same old (Some t) new h = (sym (same old.rest) ∙ h.0, h.1, h.2, h.3)

-- ---- what was read, with its place

pub placed_first : (holder : Holder) {place p : ℕ} {a b : Attribute} → place ≡ p → a ≡ b
    → ◌≡◌ {A = PlacedAttribute} (record { holder = holder; place = place; attribute = a }) (record { holder = holder; place = p; attribute = b })
placed_first holder e f i = record { holder = holder; place = e i; attribute = f i }

pub placed_first_member : (holder : Holder) {place p : ℕ} {a b : Member} → place ≡ p → a ≡ b
    → ◌≡◌ {A = PlacedMember} (record { holder = holder; place = place; member = a }) (record { holder = holder; place = p; member = b })
placed_first_member holder e f i = record { holder = holder; place = e i; member = f i }
