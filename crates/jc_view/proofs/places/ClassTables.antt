-- The tables that were found are those of the class file.
use Rattle.std.proofs.Common.{◌≡◌, ℕ, ◌+◌, List, ◌++◌, length, drop, Option, Some, Ok, refl, sym, ap, subst, ◌∙◌, arith, length-append}
use Rattle.std.specs.List.{flat_map}
use Rattle.jc_base.specs.Cursor.{Reading}
use Rattle.jc_base.specs.Endian.{big_bytes, big_number}
use Rattle.jc_view.specs.declared.attribute_kind.Holder.{Holder}
use Rattle.jc_view.specs.declared.attribute_kind.Holder.TheVariants as holders
use Rattle.jc_view.specs.declared.layout_reader.ClassParts as reader
use Rattle.jc_view.specs.declared.layout_reader.ClassTables.{ClassTables}
use Rattle.jc_view.specs.declared.entries.Entries.{Entries}
use Rattle.jc_view.specs.ConstantPool.{constant_bytes, index_bytes, index_value}
use Rattle.jc_view.specs.ClassFile.{ClassFile, Attribute, Member, counted, attribute_bytes, member_bytes, magic, head_bytes, tail_bytes, layout, all_slots}
use Rattle.jc_view.specs.Places.{fields_place, methods_place, attributes_place, members_from, attributes_from}
use Rattle.jc_view.specs.Reading.{after, after_each, after_table, table_value, after_attribute, attribute_value, after_member, member_value, after_tail, fields_at, methods_at, attributes_at, pool_at, parts_at, class_value}
use Rattle.jc_view.specs.inside.PartsFound.{parts}
use Rattle.jc_view.specs.inside.Tables.{entries, IsWhole, StandsAt, HasTables, TablesAtTail}
use Rattle.jc_view.specs.inside.ClassView.{AreTables}
use Rattle.jc_view.proofs.reading.BigEndian.{IsBytes, after_some, then_some, length-big_bytes}
use Rattle.jc_view.proofs.reading.Tables.{indexes_are}
use Rattle.jc_view.proofs.reading.BehindConstants.{interfaces_in, members_in, attributes_in, HasTail, has_tail}
use Rattle.jc_view.proofs.places.Entries.{table_length, attribute_length, member_length}
use Rattle.jc_view.proofs.reading.FirstConstant.{ok_is}
use Rattle.jc_view.proofs.reading.Heads.{start}
use Rattle.jc_view.proofs.reading.ClassFiles.{whole_takes}
use Rattle.jc_view.proofs.refusals.FirstRefusal.{good_of, gone_over, parts_found}

-- ---- one table

stands_whole : (one : List ℕ → Option (List ℕ)) (xs rest : List ℕ) (end : ℕ) (t : Entries) → after_table one xs ≡ Some rest → StandsAt xs end t → IsWhole one t
stands_whole one xs rest end t e h =
    let b = then_some (after 2 xs) (after_each one (big_number 2 xs)) rest e in
    let here : t.cursor.rest ≡ b.0 = h.rest ∙ (after_some 2 xs b.0 b.1).left in
    let all : after_each one t.left t.cursor.rest ≡ Some rest = ap (λ (n : ℕ). after_each one n t.cursor.rest) h.count ∙ ap (after_each one (big_number 2 xs)) here ∙ b.2 in
    rw all refl

table_of : {X : Type 0} (one : List ℕ → Option (List ℕ)) (value : List ℕ → X) (xs : List ℕ) (end : ℕ) (t : Entries) → StandsAt xs end t → entries one value t ≡ table_value one value xs
table_of one value xs end t h i = entries one value (record { left = h.count i; cursor = record { place = t.cursor.place; rest = h.rest i } })

-- ---- lengths of a class file

pub length-head_bytes : (c : ClassFile) → length (head_bytes c) ≡ 10
length-head_bytes c =
    let first = big_bytes 4 magic in
    let minor = big_bytes 2 c.minor in
    let major = big_bytes 2 c.major in
    let count = big_bytes 2 (1 + all_slots c.constants) in
    omega (
      arith,
      length-append (first ++ minor ++ major) count,
      length-append (first ++ minor) major,
      length-append first minor,
      length-big_bytes 4 magic,
      length-big_bytes 2 c.minor,
      length-big_bytes 2 c.major,
      length-big_bytes 2 (1 + all_slots c.constants),
    )

length-tail_bytes : (c : ClassFile) → length (tail_bytes c) ≡ 6 + length (counted index_bytes c.interfaces) + length (counted member_bytes c.fields) + length (counted member_bytes c.methods) + length (counted attribute_bytes c.attributes)
length-tail_bytes c =
    let flags = big_bytes 2 c.flags in
    let this = index_bytes c.this_class in
    let super = index_bytes c.super_class in
    let interfaces = counted index_bytes c.interfaces in
    let fields = counted member_bytes c.fields in
    let methods = counted member_bytes c.methods in
    let attributes = counted attribute_bytes c.attributes in
    omega (
      arith,
      length-append (flags ++ this ++ super ++ interfaces ++ fields ++ methods) attributes,
      length-append (flags ++ this ++ super ++ interfaces ++ fields) methods,
      length-append (flags ++ this ++ super ++ interfaces) fields,
      length-append (flags ++ this ++ super) interfaces,
      length-append (flags ++ this) super,
      length-append flags this,
      length-big_bytes 2 c.flags,
      length-big_bytes 2 c.this_class.0,
      length-big_bytes 2 c.super_class.0,
    )

length-layout : (c : ClassFile) → length (layout c) ≡ attributes_place c + length (counted attribute_bytes c.attributes)
unfolding layout
length-layout c =
    let constants = flat_map constant_bytes c.constants in
    omega (arith, length-append (head_bytes c ++ constants) (tail_bytes c), length-append (head_bytes c) constants, length-head_bytes c, length-tail_bytes c)

-- ---- all tables

-- the class file whose tables begin at four places
pub record Holds (c : ClassFile) (xs : List ℕ) : Type 0 where
  pub interfaces : c.interfaces ≡ interfaces_in (drop 6 xs)
  pub fields : c.fields ≡ members_in (fields_at xs)
  pub methods : c.methods ≡ members_in (methods_at xs)
  pub attributes : c.attributes ≡ attributes_in (attributes_at xs)

module _ (c : ClassFile) (xs rest : List ℕ) (end : ℕ) (t : ClassTables) (h : Holds c xs) (tail : HasTail xs rest) (none : length rest ≡ 0) (long : end ≡ length (layout c))
    (interfaces : StandsAt (drop 6 xs) end t.interfaces) (fields : StandsAt (fields_at xs) end t.fields) (methods : StandsAt (methods_at xs) end t.methods) (attributes : StandsAt (attributes_at xs) end t.attributes) where
  attributes_long : length (attributes_at xs) ≡ length (counted attribute_bytes c.attributes)
  attributes_long = omega (arith, none, table_length after_attribute attribute_value attribute_bytes attribute_length (attributes_at xs) rest tail.attributes, ap (λ (as_ : List Attribute). length (counted attribute_bytes as_)) h.attributes)

  methods_long : length (methods_at xs) ≡ length (counted member_bytes c.methods) + length (attributes_at xs)
  methods_long = omega (arith, table_length after_member member_value member_bytes member_length (methods_at xs) (attributes_at xs) tail.methods, ap (λ (ms : List Member). length (counted member_bytes ms)) h.methods)

  fields_long : length (fields_at xs) ≡ length (counted member_bytes c.fields) + length (methods_at xs)
  fields_long = omega (arith, table_length after_member member_value member_bytes member_length (fields_at xs) (methods_at xs) tail.fields, ap (λ (ms : List Member). length (counted member_bytes ms)) h.fields)

  attributes_begin : t.attributes.cursor.place ≡ attributes_place c + 2
  attributes_begin = omega (arith, attributes.place, long, length-layout c, attributes_long)

  methods_begin : t.methods.cursor.place ≡ methods_place c + 2
  methods_begin = omega (arith, methods.place, long, length-layout c, attributes_long, methods_long)

  fields_begin : t.fields.cursor.place ≡ fields_place c + 2
  fields_begin = omega (arith, fields.place, long, length-layout c, attributes_long, methods_long, fields_long)

  members_are : (holder : Holder) (place : ℕ) (ys : List ℕ) (table : Entries) (members : List Member) → StandsAt ys end table → table.cursor.place ≡ place → members ≡ members_in ys
      → members_from holder table.cursor.place (entries after_member member_value table) ≡ members_from holder place members
  members_are holder place ys table members s e f =
      ap (λ (n : ℕ). members_from holder n (entries after_member member_value table)) e ∙ ap (members_from holder place) (table_of after_member member_value ys end table s ∙ sym f)

  pub are_tables : AreTables c t
  are_tables = record {
    whole_interfaces = stands_whole (after 2) (drop 6 xs) (fields_at xs) end t.interfaces (sym (indexes_are (drop 6 xs)) ∙ tail.interfaces) interfaces;
    whole_fields = stands_whole after_member (fields_at xs) (methods_at xs) end t.fields tail.fields fields;
    whole_methods = stands_whole after_member (methods_at xs) (attributes_at xs) end t.methods tail.methods methods;
    whole_attributes = stands_whole after_attribute (attributes_at xs) rest end t.attributes tail.attributes attributes;
    interfaces = table_of (after 2) index_value (drop 6 xs) end t.interfaces interfaces ∙ sym h.interfaces;
    fields = members_are holders.Field (fields_place c + 2) (fields_at xs) t.fields c.fields fields fields_begin h.fields;
    methods = members_are holders.Method (methods_place c + 2) (methods_at xs) t.methods c.methods methods methods_begin h.methods;
    attributes = ap (λ (n : ℕ). attributes_from holders.Class n (entries after_attribute attribute_value t.attributes)) attributes_begin
        ∙ ap (attributes_from holders.Class (attributes_place c + 2)) (table_of after_attribute attribute_value (attributes_at xs) end t.attributes attributes ∙ sym h.attributes);
  }

-- ---- as they were found

holds_value : (b : List ℕ) (places : List (Option ℕ)) (tail : ℕ) → Holds (class_value b places tail) (drop tail b)
unfolding class_value
holds_value b places tail = record { interfaces = refl; fields = refl; methods = refl; attributes = refl }

pub tables_found : (b : List ℕ) (p : reader.ClassParts) (new : Reading) → IsBytes b → parts_at (start b) ≡ Ok (parts p, new) → TablesAtTail (start b) p → AreTables (class_value b p.offsets.items p.tail) p.tables
tables_found b p new fits read at_tail =
    let over = gone_over b (parts p, new) read in
    let found = parts_found b (parts p, new) fits read in
    let good = good_of b at_tail.head at_tail.head_is in
    let same_pool : over.pool ≡ at_tail.pool = ok_is _ _ (sym over.read ∙ ap (λ (x : ℕ × Reading). pool_at x.0 x.1) good.1 ∙ at_tail.pool_is) in
    let stand : HasTables over.pool.1 p.tables = subst (λ (x : List (Option ℕ) × Reading). HasTables x.1 p.tables) (sym same_pool) at_tail.tables in
    let ends = (whole_takes b over.pool over.rest fits over.head over.read over.behind).1 in
    let tail : p.tail ≡ over.pool.1.place = at_tail.tail ∙ ap (λ (x : List (Option ℕ) × Reading). x.1.place) (sym same_pool) in
    let here : over.pool.1.rest ≡ drop p.tail b = ends.rest ∙ ap (λ (n : ℕ). drop n b) (sym tail) in
    let c = class_value b p.offsets.items p.tail in
    let long : over.pool.1.place + length over.pool.1.rest ≡ length (layout c) = omega (arith, ends.end, ap length found.holds.layout) in
    let behind : after_tail (drop p.tail b) ≡ Some over.rest = subst (λ (ys : List ℕ). after_tail ys ≡ Some over.rest) here over.behind in
    let end = over.pool.1.place + length over.pool.1.rest in
    are_tables c (drop p.tail b) over.rest end p.tables (holds_value b p.offsets.items p.tail) (has_tail (drop p.tail b) over.rest behind) over.none long
    (subst (λ (ys : List ℕ). StandsAt (drop 6 ys) end p.tables.interfaces) here stand.interfaces)
    (subst (λ (ys : List ℕ). StandsAt (fields_at ys) end p.tables.fields) here stand.fields)
    (subst (λ (ys : List ℕ). StandsAt (methods_at ys) end p.tables.methods) here stand.methods)
    (subst (λ (ys : List ℕ). StandsAt (attributes_at ys) end p.tables.attributes) here stand.attributes)
