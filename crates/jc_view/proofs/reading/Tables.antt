-- A table, an attribute or a member that is read is the one that was spelled, and what was spelled is read again.
use Rattle.std.proofs.Common.{◌≡◌, ℕ, zero, suc, ◌+◌, ◌*◌, ◌^◌, ◌<◌, List, [], ◌∷◌, ◌++◌, length, drop, Option, Some, None, option_and_then, refl, sym, ap, subst, ◌∙◌, append_assoc, arith, inl, inr}
use Rattle.std.specs.List.{flat_map, AllByRecursion}
use Rattle.std.proofs.lemmas.Bool.{cases_lt, lt-ltb}
use Rattle.std.proofs.lemmas.List.{drop_at, length-drop, drop-drop}
use Rattle.std.proofs.lemmas.Option.{same_Some}
use Rattle.jc_base.proofs.Common.{left_of}
use Rattle.jc_base.specs.Endian.{big_bytes, big_number}
use Rattle.jc_view.specs.ConstantPool.{index_bytes, IsIndex, index_value}
use Rattle.jc_view.specs.ClassFile.{Attribute, Member, counted, attribute_bytes, member_bytes, FitsTable, FitsAttribute, FitsMember}
use Rattle.jc_view.specs.Reading.{after, after_sized, sized_value, after_each, each_value, after_table, table_value, after_attribute, attribute_value, after_member, member_value, after_indexes}
use Rattle.jc_view.proofs.reading.BigEndian.{IsBytes, width2, width4, Takes, Takes-then, takes_number, again_number, after_some, after_front, then_some, number_again, takes_sized, again_sized, sized_bytes, after_text, length-big_bytes, takes_three, again_three, three_bytes}

-- what the reader of a part and the bytes of that part have to do with one another
pub record Reads {X : Type 0} (bytes : X → List ℕ) (Fits : X → Type 0) (after_one : List ℕ → Option (List ℕ)) (value : List ℕ → X) : Type 0 where
  pub takes : (xs rest : List ℕ) → IsBytes xs → after_one xs ≡ Some rest → Takes xs (bytes (value xs)) rest × Fits (value xs)
  pub again : (x : X) (rest : List ℕ) → Fits x → (after_one (bytes x ++ rest) ≡ Some rest) × (value (bytes x ++ rest) ≡ x)

pub reads_index : Reads index_bytes IsIndex (after 2) index_value
reads_index = record {
  takes = λ xs rest fits e. takes_number 2 width2 xs rest fits e;
  again = λ x rest fits. let a = again_number 2 x.0 rest fits in (a.0, ap (λ (n : ℕ). record { 0 = n }) a.1);
}

pair_is : {a x : ℕ} {b y : List ℕ} → a ≡ x → b ≡ y → ◌≡◌ {A = ℕ × List ℕ} (a, b) (x, y)
pair_is e f = cc

four_is : {a b c x y z : ℕ} {d w : List Attribute} → a ≡ x → b ≡ y → c ≡ z → d ≡ w
    → ◌≡◌ {A = Member} (record { flags = a; name = record { 0 = b }; descriptor = record { 0 = c }; attributes = d }) (record { flags = x; name = record { 0 = y }; descriptor = record { 0 = z }; attributes = w })
four_is e f g h i = record { flags = e i; name = record { 0 = f i }; descriptor = record { 0 = g i }; attributes = h i }

module _ {X : Type 0} {bytes : X → List ℕ} {Fits : X → Type 0} {after_one : List ℕ → Option (List ℕ)} {value : List ℕ → X} where
  pub each_takes : Reads bytes Fits after_one value → (n : ℕ) (xs rest : List ℕ) → IsBytes xs → after_each after_one n xs ≡ Some rest
      → Takes xs (flat_map bytes (each_value after_one value n xs)) rest × AllByRecursion Fits (each_value after_one value n xs) × (length (each_value after_one value n xs) ≡ n)
  unfolding after_each each_value
  each_takes reads zero xs rest fits e =
      (record { parts = same_Some xs rest e; rest_fits = subst (λ (ys : List ℕ). IsBytes ys) (same_Some xs rest e) fits }, tt, refl)
  each_takes reads (suc n) xs rest fits e =
      let b = then_some (after_one xs) (after_each after_one n) rest e in
      let first = reads.takes xs b.0 fits b.1 in
      let others = each_takes reads n b.0 rest first.0.rest_fits b.2 in
      let left : left_of (after_one xs) ≡ b.0 = ap left_of b.1 in
      let text : Takes xs (bytes (value xs) ++ flat_map bytes (each_value after_one value n b.0)) rest = Takes-then xs (bytes (value xs)) b.0 (flat_map bytes (each_value after_one value n b.0)) rest first.0 others.0 in (
        subst (λ (ys : List ℕ). Takes xs (bytes (value xs) ++ flat_map bytes (each_value after_one value n ys)) rest) (sym left) text,
        (first.1, subst (λ (ys : List ℕ). AllByRecursion Fits (each_value after_one value n ys)) (sym left) others.1),
        ap suc (subst (λ (ys : List ℕ). length (each_value after_one value n ys) ≡ n) (sym left) others.2),
      )

  pub each_again : Reads bytes Fits after_one value → (table : List X) (rest : List ℕ) → AllByRecursion Fits table
      → (after_each after_one (length table) (flat_map bytes table ++ rest) ≡ Some rest) × (each_value after_one value (length table) (flat_map bytes table ++ rest) ≡ table)
  unfolding after_each each_value
  each_again reads [] rest fits = (refl, refl)
  each_again reads (x ∷ table) rest fits =
      let behind = flat_map bytes table ++ rest in
      let regrouped : bytes x ++ flat_map bytes table ++ rest ≡ bytes x ++ behind = append_assoc (bytes x) (flat_map bytes table) rest in
      let first = reads.again x behind fits.0 in
      let others = each_again reads table rest fits.1 in
      let here : after_one (bytes x ++ flat_map bytes table ++ rest) ≡ Some behind = ap after_one regrouped ∙ first.0 in
      let value_is : value (bytes x ++ flat_map bytes table ++ rest) ≡ x = ap value regrouped ∙ first.1 in (
        ap (option_and_then (after_each after_one (length table))) here ∙ others.0,
        let left : left_of (after_one (bytes x ++ flat_map bytes table ++ rest)) ≡ behind = ap left_of here in
            ap (λ (ys : List ℕ). value (bytes x ++ flat_map bytes table ++ rest) ∷ each_value after_one value (length table) ys) left
            ∙ ap (λ (y : X). y ∷ each_value after_one value (length table) behind) value_is ∙ ap (λ (ys : List X). x ∷ ys) others.1,
      )

  table_takes : Reads bytes Fits after_one value → (xs rest : List ℕ) → IsBytes xs → after_table after_one xs ≡ Some rest
      → Takes xs (counted bytes (table_value after_one value xs)) rest × FitsTable Fits (table_value after_one value xs)
  table_takes reads xs rest fits e =
      let n = big_number 2 xs in
      let b = then_some (after 2 xs) (after_each after_one n) rest e in
      let here : drop 2 xs ≡ b.0 = (after_some 2 xs b.0 b.1).left in
      let size = takes_number 2 width2 xs b.0 fits b.1 in
      let all = each_takes reads n b.0 rest size.0.rest_fits b.2 in
      let table = each_value after_one value n b.0 in
      let text : Takes xs (big_bytes 2 n ++ flat_map bytes table) rest = Takes-then xs (big_bytes 2 n) b.0 (flat_map bytes table) rest size.0 all.0 in
      let whole : Takes xs (counted bytes table) rest = subst (λ (k : ℕ). Takes xs (big_bytes 2 k ++ flat_map bytes table) rest) (sym all.2) text in
      subst (λ (ys : List ℕ). Takes xs (counted bytes (each_value after_one value n ys)) rest × FitsTable Fits (each_value after_one value n ys)) (sym here)
      (whole, (subst (λ (k : ℕ). k < 2 ^ 16) (sym all.2) size.1, all.1))

  table_again : Reads bytes Fits after_one value → (table : List X) (rest : List ℕ) → FitsTable Fits table
      → (after_table after_one (counted bytes table ++ rest) ≡ Some rest) × (table_value after_one value (counted bytes table ++ rest) ≡ table)
  table_again reads table rest fits =
      let n = length table in
      let behind = flat_map bytes table ++ rest in
      let regrouped : counted bytes table ++ rest ≡ big_bytes 2 n ++ behind = append_assoc (big_bytes 2 n) (flat_map bytes table) rest in
      let size : big_number 2 (counted bytes table ++ rest) ≡ n = ap (big_number 2) regrouped ∙ number_again 2 n behind fits.0 in
      let head : after 2 (counted bytes table ++ rest) ≡ Some behind = ap (after 2) regrouped ∙ after_text (big_bytes 2 n) behind 2 (length-big_bytes 2 n) in
      let body : drop 2 (counted bytes table ++ rest) ≡ behind = ap (drop 2) regrouped ∙ drop_at (big_bytes 2 n) behind 2 (length-big_bytes 2 n) in
      let all = each_again reads table rest fits.1 in (
        ap (λ (k : ℕ). option_and_then (after_each after_one k) (after 2 (counted bytes table ++ rest))) size
            ∙ ap (option_and_then (after_each after_one n)) head ∙ all.0,
        ap (λ (k : ℕ). each_value after_one value k (drop 2 (counted bytes table ++ rest))) size
            ∙ ap (each_value after_one value n) body ∙ all.1,
      )

  pub reads_table : Reads bytes Fits after_one value → Reads (counted bytes) (FitsTable Fits) (after_table after_one) (table_value after_one value)
  reads_table reads = record { takes = table_takes reads; again = table_again reads }

-- ---- attributes and members

attribute_takes : (xs rest : List ℕ) → IsBytes xs → after_attribute xs ≡ Some rest → Takes xs (attribute_bytes (attribute_value xs)) rest × FitsAttribute (attribute_value xs)
unfolding after_attribute
attribute_takes xs rest fits e =
    let b = then_some (after 2 xs) (after_sized 4) rest e in
    let here : drop 2 xs ≡ b.0 = (after_some 2 xs b.0 b.1).left in
    let name = takes_number 2 width2 xs b.0 fits b.1 in
    let text = takes_sized 4 width4 b.0 rest name.0.rest_fits b.2 in
    let body = sized_value 4 b.0 in
    let whole : Takes xs (big_bytes 2 (big_number 2 xs) ++ sized_bytes 4 body) rest = Takes-then xs (big_bytes 2 (big_number 2 xs)) b.0 (sized_bytes 4 body) rest name.0 text.0 in
    let grouped : big_bytes 2 (big_number 2 xs) ++ sized_bytes 4 body ≡ big_bytes 2 (big_number 2 xs) ++ big_bytes 4 (length body) ++ body = sym (append_assoc (big_bytes 2 (big_number 2 xs)) (big_bytes 4 (length body)) body) in
    let regrouped : Takes xs (big_bytes 2 (big_number 2 xs) ++ big_bytes 4 (length body) ++ body) rest = subst (λ (t : List ℕ). Takes xs t rest) grouped whole in (
      subst (λ (ys : List ℕ). Takes xs (big_bytes 2 (big_number 2 xs) ++ big_bytes 4 (length (sized_value 4 ys)) ++ sized_value 4 ys) rest) (sym here) regrouped,
      record { name = name.1; bytes = subst (λ (ys : List ℕ). length (sized_value 4 ys) < 2 ^ 32) (sym here) text.1 },
    )

attribute_again : (a : Attribute) (rest : List ℕ) → FitsAttribute a → (after_attribute (attribute_bytes a ++ rest) ≡ Some rest) × (attribute_value (attribute_bytes a ++ rest) ≡ a)
unfolding after_attribute
attribute_again a rest fits =
    let n = a.name.0 in
    let behind = sized_bytes 4 a.bytes ++ rest in
    let regrouped : attribute_bytes a ++ rest ≡ big_bytes 2 n ++ behind = simp append_assoc in
    let text = again_sized 4 a.bytes rest fits.bytes in
    let head : after 2 (attribute_bytes a ++ rest) ≡ Some behind = ap (after 2) regrouped ∙ after_text (big_bytes 2 n) behind 2 (length-big_bytes 2 n) in
    let name : big_number 2 (attribute_bytes a ++ rest) ≡ n = ap (big_number 2) regrouped ∙ number_again 2 n behind fits.name in
    let body : sized_value 4 (drop 2 (attribute_bytes a ++ rest)) ≡ a.bytes = ap (λ (t : List ℕ). sized_value 4 (drop 2 t)) regrouped ∙ ap (sized_value 4) (drop_at (big_bytes 2 n) behind 2 (length-big_bytes 2 n)) ∙ text.1 in (
      ap (option_and_then (after_sized 4)) head ∙ text.0,
      ap (λ (p : ℕ × List ℕ). record { name = record { 0 = p.0 }; bytes = p.1 }) (pair_is name body),
    )

pub reads_attribute : Reads attribute_bytes FitsAttribute after_attribute attribute_value
reads_attribute = record { takes = attribute_takes; again = attribute_again }

member_takes : (xs rest : List ℕ) → IsBytes xs → after_member xs ≡ Some rest → Takes xs (member_bytes (member_value xs)) rest × FitsMember (member_value xs)
unfolding after_member
member_takes xs rest fits e =
    let b = then_some (after 6 xs) (after_table after_attribute) rest e in
    let here : drop 6 xs ≡ b.0 = (after_some 6 xs b.0 b.1).left in
    let head = takes_three xs b.0 fits b.1 in
    let table = (reads_table reads_attribute).takes b.0 rest head.0.rest_fits b.2 in
    let first = three_bytes (big_number 2 xs) (big_number 2 (drop 2 xs)) (big_number 2 (drop 4 xs)) in
    let whole : Takes xs (first ++ counted attribute_bytes (table_value after_attribute attribute_value b.0)) rest =
    Takes-then xs first b.0 (counted attribute_bytes (table_value after_attribute attribute_value b.0)) rest head.0 table.0 in (
      subst (λ (ys : List ℕ). Takes xs (first ++ counted attribute_bytes (table_value after_attribute attribute_value ys)) rest) (sym here) whole,
      record { flags = head.1; name = head.2; descriptor = head.3; attributes = subst (λ (ys : List ℕ). FitsTable FitsAttribute (table_value after_attribute attribute_value ys)) (sym here) table.1 },
    )

member_again : (m : Member) (rest : List ℕ) → FitsMember m → (after_member (member_bytes m ++ rest) ≡ Some rest) × (member_value (member_bytes m ++ rest) ≡ m)
unfolding after_member
member_again m rest fits =
    let table = counted attribute_bytes m.attributes in
    let behind = table ++ rest in
    let regrouped : member_bytes m ++ rest ≡ three_bytes m.flags m.name.0 m.descriptor.0 ++ behind = append_assoc (three_bytes m.flags m.name.0 m.descriptor.0) table rest in
    let head = again_three m.flags m.name.0 m.descriptor.0 behind fits.flags fits.name fits.descriptor in
    let all = (reads_table reads_attribute).again m.attributes rest fits.attributes in
    let left : option_and_then (after_table after_attribute) (after 6 (three_bytes m.flags m.name.0 m.descriptor.0 ++ behind)) ≡ Some rest = ap (option_and_then (after_table after_attribute)) head.left ∙ all.0 in
    let same : member_value (three_bytes m.flags m.name.0 m.descriptor.0 ++ behind) ≡ m = four_is head.first head.second head.third (ap (table_value after_attribute attribute_value) head.behind ∙ all.1) in
    (ap (λ (t : List ℕ). option_and_then (after_table after_attribute) (after 6 t)) regrouped ∙ left, ap member_value regrouped ∙ same)

pub reads_member : Reads member_bytes FitsMember after_member member_value
reads_member = record { takes = member_takes; again = member_again }

-- ---- a table of indexes

pub after_short : (n : ℕ) (xs : List ℕ) → length xs < n → after n xs ≡ None
after_short n xs lt = rw (lt-ltb _ _ lt) refl

after_sum : (m n : ℕ) (xs : List ℕ) → after (m + n) xs ≡ option_and_then (after n) (after m xs)
after_sum m n xs =
    elim (cases_lt (length xs) m) [
      | inl lt ↦ after_short (m + n) xs (omega arith) ∙ sym (ap (option_and_then (after n)) (after_short m xs lt))
      | inr le ↦
          let rhs : option_and_then (after n) (after m xs) ≡ after n (drop m xs) = ap (option_and_then (after n)) (after_front m xs le) in
          elim (cases_lt (length xs) (m + n)) [
            | inl lt ↦ after_short (m + n) xs lt ∙ sym (rhs ∙ after_short n (drop m xs) (omega (arith, length-drop m xs)))
            | inr ge ↦ after_front (m + n) xs ge ∙ sym (rhs ∙ after_front n (drop m xs) (omega (arith, length-drop m xs)) ∙ ap (λ (ys : List ℕ). Some ys) (drop-drop n m xs))
          ]
    ]

then_same : {A B : Type 0} (f g : A → Option B) → ((x : A) → f x ≡ g x) → (o : Option A) → option_and_then f o ≡ option_and_then g o
then_same f g h None = refl
then_same f g h (Some x) = h x

pub each_size : (k n : ℕ) (xs : List ℕ) → after_each (after k) n xs ≡ after (k * n) xs
unfolding after_each
each_size k zero xs = sym (ap (λ (m : ℕ). after m xs) (omega arith) ∙ after_front 0 xs (omega arith))
each_size k (suc n) xs =
    let size : k + k * n ≡ k * suc n = omega arith in
    then_same (after_each (after k) n) (after (k * n)) (each_size k n) (after k xs) ∙ sym (after_sum k (k * n) xs) ∙ ap (λ (m : ℕ). after m xs) size

-- a table of entries of one size, gone over at once
abbrev pub after_all : ℕ → List ℕ → Option (List ℕ)
after_all k xs = option_and_then (after (k * big_number 2 xs)) (after 2 xs)

pub table_of_size : (k : ℕ) (xs : List ℕ) → after_table (after k) xs ≡ after_all k xs
table_of_size k xs = then_same (after_each (after k) (big_number 2 xs)) (after (k * big_number 2 xs)) (each_size k (big_number 2 xs)) (after 2 xs)

pub indexes_are : (xs : List ℕ) → after_indexes xs ≡ after_table (after 2) xs
indexes_are xs = sym (table_of_size 2 xs)

pub reads_indexes : Reads (counted index_bytes) (FitsTable IsIndex) after_indexes (table_value (after 2) index_value)
reads_indexes =
    let table = reads_table reads_index in
    record {
      takes = λ xs rest fits e. table.takes xs rest fits (sym (indexes_are xs) ∙ e);
      again = λ x rest fits. let a = table.again x rest fits in (indexes_are (counted index_bytes x ++ rest) ∙ a.0, a.1);
    }
