-- What stands behind the constants: what is read is what was spelled, and what was spelled is read again.
use Rattle.std.proofs.Common.{◌≡◌, ℕ, ◌^◌, ◌<◌, ◌+◌, List, ◌++◌, length, drop, Option, Some, option_and_then, sym, ap, subst, ◌∙◌, append_assoc, arith}
use Rattle.jc_base.proofs.Common.{left_of}
use Rattle.jc_base.specs.Cursor.{Reading}
use Rattle.jc_base.specs.Endian.{big_number}
use Rattle.jc_view.specs.declared.layout_reader.ClassTables.{ClassTables}
use Rattle.jc_view.specs.declared.entries.Entries.{Entries}
use Rattle.jc_view.specs.declared.constant_pool.ConstantIndex.{ConstantIndex}
use Rattle.jc_view.specs.ConstantPool.{index_bytes, IsIndex, index_value}
use Rattle.jc_view.specs.ClassFile.{ClassFile, Attribute, Member, counted, attribute_bytes, member_bytes, tail_bytes, FitsTable, FitsAttribute, FitsMember}
use Rattle.jc_view.specs.Reading.{after, table_value, after_table, after_attribute, attribute_value, after_member, member_value, after_indexes, after_members, after_tail, fields_at, methods_at, attributes_at, class_with}
use Rattle.jc_view.specs.Moves.{KeepsEnd}
use Rattle.jc_view.specs.inside.Tables.{LendsTable, StandsAt, HasTables}
use Rattle.jc_view.proofs.reading.BigEndian.{IsBytes, Takes, Takes-then, after_some, then_some, takes_three, again_three, three_bytes}
use Rattle.jc_view.proofs.reading.Tables.{reads_table, reads_attribute, reads_member, reads_indexes}

abbrev pub interfaces_in : List ℕ → List ConstantIndex
interfaces_in xs = table_value (after 2) index_value xs

abbrev pub members_in : List ℕ → List Member
members_in xs = table_value after_member member_value xs

abbrev pub attributes_in : List ℕ → List Attribute
attributes_in xs = table_value after_attribute attribute_value xs

-- the numbers at the front, and the tables at four places
pub record Taken (xs interfaces fields methods attributes rest : List ℕ) : Type 0 where
  pub text : Takes xs (three_bytes (big_number 2 xs) (big_number 2 (drop 2 xs)) (big_number 2 (drop 4 xs)) ++ counted index_bytes (interfaces_in interfaces)
      ++ counted member_bytes (members_in fields) ++ counted member_bytes (members_in methods) ++ counted attribute_bytes (attributes_in attributes)) rest
  pub flags : big_number 2 xs < 2 ^ 16
  pub this_class : big_number 2 (drop 2 xs) < 2 ^ 16
  pub super_class : big_number 2 (drop 4 xs) < 2 ^ 16
  pub fits_interfaces : FitsTable IsIndex (interfaces_in interfaces)
  pub fits_fields : FitsTable FitsMember (members_in fields)
  pub fits_methods : FitsTable FitsMember (members_in methods)
  pub fits_attributes : FitsTable FitsAttribute (attributes_in attributes)

taken_at : (xs a b c d rest : List ℕ) → IsBytes xs → after 6 xs ≡ Some a → after_indexes a ≡ Some b → after_members b ≡ Some c → after_members c ≡ Some d → after_table after_attribute d ≡ Some rest
    → Taken xs a b c d rest
taken_at xs a b c d rest fits e f g h i =
    let head = takes_three xs a fits e in
    let interfaces = reads_indexes.takes a b head.0.rest_fits f in
    let fields = (reads_table reads_member).takes b c interfaces.0.rest_fits g in
    let methods = (reads_table reads_member).takes c d fields.0.rest_fits h in
    let attributes = (reads_table reads_attribute).takes d rest methods.0.rest_fits i in
    let first = three_bytes (big_number 2 xs) (big_number 2 (drop 2 xs)) (big_number 2 (drop 4 xs)) in
    let second = first ++ counted index_bytes (interfaces_in a) in
    let third = second ++ counted member_bytes (members_in b) in
    let fourth = third ++ counted member_bytes (members_in c) in
    let up_to_b = Takes-then xs first a (counted index_bytes (interfaces_in a)) b head.0 interfaces.0 in
    let up_to_c = Takes-then xs second b (counted member_bytes (members_in b)) c up_to_b fields.0 in
    let up_to_d = Takes-then xs third c (counted member_bytes (members_in c)) d up_to_c methods.0 in
    record {
      text = Takes-then xs fourth d (counted attribute_bytes (attributes_in d)) rest up_to_d attributes.0;
      flags = head.1;
      this_class = head.2;
      super_class = head.3;
      fits_interfaces = interfaces.1;
      fits_fields = fields.1;
      fits_methods = methods.1;
      fits_attributes = attributes.1;
    }

abbrev pub TakesTail : List ℕ → List ℕ → Type 0
TakesTail xs rest = Taken xs (drop 6 xs) (fields_at xs) (methods_at xs) (attributes_at xs) rest

pub tail_takes : (xs rest : List ℕ) → IsBytes xs → after_tail xs ≡ Some rest → TakesTail xs rest
unfolding after_tail
tail_takes xs rest fits e =
    let d = then_some (option_and_then after_members (option_and_then after_members (option_and_then after_indexes (after 6 xs)))) (after_table after_attribute) rest e in
    let c = then_some (option_and_then after_members (option_and_then after_indexes (after 6 xs))) after_members d.0 d.1 in
    let b = then_some (option_and_then after_indexes (after 6 xs)) after_members c.0 c.1 in
    let a = then_some (after 6 xs) after_indexes b.0 b.1 in
    let is_a : drop 6 xs ≡ a.0 = (after_some 6 xs a.0 a.1).left in
    let is_b : fields_at xs ≡ b.0 = ap (λ (ys : List ℕ). left_of (after_indexes ys)) is_a ∙ ap left_of a.2 in
    let is_c : methods_at xs ≡ c.0 = ap (λ (ys : List ℕ). left_of (after_members ys)) is_b ∙ ap left_of b.2 in
    let is_d : attributes_at xs ≡ d.0 = ap (λ (ys : List ℕ). left_of (after_members ys)) is_c ∙ ap left_of c.2 in
    let here = taken_at xs a.0 b.0 c.0 d.0 rest fits a.1 a.2 b.2 c.2 d.2 in
    subst (λ (ys : List ℕ). Taken xs ys (fields_at xs) (methods_at xs) (attributes_at xs) rest) (sym is_a)
    (subst (λ (ys : List ℕ). Taken xs a.0 ys (methods_at xs) (attributes_at xs) rest) (sym is_b)
    (subst (λ (ys : List ℕ). Taken xs a.0 b.0 ys (attributes_at xs) rest) (sym is_c)
    (subst (λ (ys : List ℕ). Taken xs a.0 b.0 c.0 ys rest) (sym is_d) here)))

-- the tables, each behind the one before it
pub record HasTail (xs rest : List ℕ) : Type 0 where
  pub interfaces : after_indexes (drop 6 xs) ≡ Some (fields_at xs)
  pub fields : after_members (fields_at xs) ≡ Some (methods_at xs)
  pub methods : after_members (methods_at xs) ≡ Some (attributes_at xs)
  pub attributes : after_table after_attribute (attributes_at xs) ≡ Some rest

pub has_tail : (xs rest : List ℕ) → after_tail xs ≡ Some rest → HasTail xs rest
unfolding after_tail
has_tail xs rest e =
    let d = then_some (option_and_then after_members (option_and_then after_members (option_and_then after_indexes (after 6 xs)))) (after_table after_attribute) rest e in
    let c = then_some (option_and_then after_members (option_and_then after_indexes (after 6 xs))) after_members d.0 d.1 in
    let b = then_some (option_and_then after_indexes (after 6 xs)) after_members c.0 c.1 in
    let a = then_some (after 6 xs) after_indexes b.0 b.1 in
    let to_b : after_indexes (drop 6 xs) ≡ Some b.0 = ap after_indexes (after_some 6 xs a.0 a.1).left ∙ a.2 in
    let is_b : fields_at xs ≡ b.0 = ap left_of to_b in
    let to_c : after_members (fields_at xs) ≡ Some c.0 = ap after_members is_b ∙ b.2 in
    let is_c : methods_at xs ≡ c.0 = ap left_of to_c in
    let to_d : after_members (methods_at xs) ≡ Some d.0 = ap after_members is_c ∙ c.2 in
    let is_d : attributes_at xs ≡ d.0 = ap left_of to_d in
    record {
      interfaces = to_b ∙ ap (λ (ys : List ℕ). Some ys) (sym is_b);
      fields = to_c ∙ ap (λ (ys : List ℕ). Some ys) (sym is_c);
      methods = to_d ∙ ap (λ (ys : List ℕ). Some ys) (sym is_d);
      attributes = ap (after_table after_attribute) is_d ∙ d.2;
    }

-- the bytes behind the constants are read again
pub record IsTailAgain (c : ClassFile) (rest : List ℕ) : Type 0 where
  pub left : after_tail (tail_bytes c ++ rest) ≡ Some rest
  pub same : class_with c.minor c.major c.constants (tail_bytes c ++ rest) ≡ c

pub record FitsTail (c : ClassFile) : Type 0 where
  pub flags : c.flags < 2 ^ 16
  pub this_class : IsIndex c.this_class
  pub super_class : IsIndex c.super_class
  pub interfaces : FitsTable IsIndex c.interfaces
  pub fields : FitsTable FitsMember c.fields
  pub methods : FitsTable FitsMember c.methods
  pub attributes : FitsTable FitsAttribute c.attributes

grouped : (a b c d e rest : List ℕ) → ((((a ++ b) ++ c) ++ d) ++ e) ++ rest ≡ a ++ (b ++ (c ++ (d ++ (e ++ rest))))
grouped a b c d e rest = simp append_assoc

same_class : (c : ClassFile) {flags this super : ℕ} {interfaces : List ConstantIndex} {fields methods : List Member} {attributes : List Attribute}
    → flags ≡ c.flags → this ≡ c.this_class.0 → super ≡ c.super_class.0 → interfaces ≡ c.interfaces → fields ≡ c.fields → methods ≡ c.methods → attributes ≡ c.attributes
    → ◌≡◌ {A = ClassFile} (record { minor = c.minor; major = c.major; constants = c.constants; flags = flags; this_class = record { 0 = this }; super_class = record { 0 = super }; interfaces = interfaces; fields = fields; methods = methods; attributes = attributes }) c
same_class c f t s i fs ms as_ j = record { minor = c.minor; major = c.major; constants = c.constants; flags = f j; this_class = record { 0 = t j }; super_class = record { 0 = s j }; interfaces = i j; fields = fs j; methods = ms j; attributes = as_ j }

pub tail_again : (c : ClassFile) (rest : List ℕ) → FitsTail c → IsTailAgain c rest
unfolding after_tail
tail_again c rest fits =
    let d = counted attribute_bytes c.attributes ++ rest in
    let m = counted member_bytes c.methods ++ d in
    let f = counted member_bytes c.fields ++ m in
    let i = counted index_bytes c.interfaces ++ f in
    let first = three_bytes c.flags c.this_class.0 c.super_class.0 in
    let regrouped : tail_bytes c ++ rest ≡ first ++ i = grouped first (counted index_bytes c.interfaces) (counted member_bytes c.fields) (counted member_bytes c.methods) (counted attribute_bytes c.attributes) rest in
    let head = again_three c.flags c.this_class.0 c.super_class.0 i fits.flags fits.this_class fits.super_class in
    let interfaces = reads_indexes.again c.interfaces f fits.interfaces in
    let fields = (reads_table reads_member).again c.fields m fits.fields in
    let methods = (reads_table reads_member).again c.methods d fits.methods in
    let attributes = (reads_table reads_attribute).again c.attributes rest fits.attributes in
    let to_f : option_and_then after_indexes (after 6 (first ++ i)) ≡ Some f = ap (option_and_then after_indexes) head.left ∙ interfaces.0 in
    let to_m : option_and_then after_members (option_and_then after_indexes (after 6 (first ++ i))) ≡ Some m = ap (option_and_then after_members) to_f ∙ fields.0 in
    let to_d : option_and_then after_members (option_and_then after_members (option_and_then after_indexes (after 6 (first ++ i)))) ≡ Some d = ap (option_and_then after_members) to_m ∙ methods.0 in
    let is_f : fields_at (first ++ i) ≡ f = ap (λ (ys : List ℕ). left_of (after_indexes ys)) head.behind ∙ ap left_of interfaces.0 in
    let is_m : methods_at (first ++ i) ≡ m = ap (λ (ys : List ℕ). left_of (after_members ys)) is_f ∙ ap left_of fields.0 in
    let is_d : attributes_at (first ++ i) ≡ d = ap (λ (ys : List ℕ). left_of (after_members ys)) is_m ∙ ap left_of methods.0 in
    record {
      left = ap after_tail regrouped ∙ ap (option_and_then (after_table after_attribute)) to_d ∙ attributes.0;
      same = ap (λ (t : List ℕ). class_with c.minor c.major c.constants t) regrouped
          ∙ same_class c head.first head.second head.third (ap interfaces_in head.behind ∙ interfaces.1) (ap members_in is_f ∙ fields.1) (ap members_in is_m ∙ methods.1) (ap attributes_in is_d ∙ attributes.1);
    }

-- ---- where the tables stand

stands : (after_it : List ℕ → Option (List ℕ)) (tail old new : Reading) (xs : List ℕ) (t : Entries) → xs ≡ old.rest → KeepsEnd tail old → LendsTable after_it old (Some t) new → StandsAt xs (tail.place + length tail.rest) t
stands after_it tail old new xs t same keeps h =
    let place : t.cursor.place ≡ old.place + 2 = ap (λ (r : Reading). r.place) h.3 in
    record {
      count = h.2 ∙ ap (big_number 2) (sym same);
      rest = ap (λ (r : Reading). r.rest) h.3 ∙ ap (drop 2) (sym same);
      place = omega (arith, place, keeps, ap length same);
    }

pub has_tables : (tail a b c d new : Reading) (t : ClassTables) → after 6 tail.rest ≡ Some a.rest → KeepsEnd tail a → LendsTable after_indexes a (Some t.interfaces) b → LendsTable after_members b (Some t.fields) c → LendsTable after_members c (Some t.methods) d
    → LendsTable (after_table after_attribute) d (Some t.attributes) new → HasTables tail t
has_tables tail a b c d new t numbers keeps interfaces fields methods attributes =
    let xs = tail.rest in
    let is_a : drop 6 xs ≡ a.rest = (after_some 6 xs a.rest numbers).left in
    let is_b : fields_at xs ≡ b.rest = ap (λ (ys : List ℕ). left_of (after_indexes ys)) is_a ∙ ap left_of interfaces.0 in
    let is_c : methods_at xs ≡ c.rest = ap (λ (ys : List ℕ). left_of (after_members ys)) is_b ∙ ap left_of fields.0 in
    let is_d : attributes_at xs ≡ d.rest = ap (λ (ys : List ℕ). left_of (after_members ys)) is_c ∙ ap left_of methods.0 in
    record {
      interfaces = stands after_indexes tail a b (drop 6 xs) t.interfaces is_a keeps interfaces;
      fields = stands after_members tail b c (fields_at xs) t.fields is_b (interfaces.1 ∙ keeps) fields;
      methods = stands after_members tail c d (methods_at xs) t.methods is_c (fields.1 ∙ interfaces.1 ∙ keeps) methods;
      attributes = stands (after_table after_attribute) tail d new (attributes_at xs) t.attributes is_d (methods.1 ∙ fields.1 ∙ interfaces.1 ∙ keeps) attributes;
    }
