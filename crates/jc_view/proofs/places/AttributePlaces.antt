-- The places of attributes rise.
use Rattle.std.proofs.Common.{◌≡◌, ◌∙◌, ℕ, ◌+◌, ◌*◌, Bool, true, false, List, [], ◌∷◌, ◌++◌, length, Option, Some, None, option_and_then, refl, sym, ap, subst, arith, length-append, drop, ◌==◌, if◌then◌else◌}
use Rattle.std.specs.List.{flat_map}
use Rattle.std.specs.Option.{option_map_or}
use Rattle.std.proofs.lemmas.Bool.{eqb-true}
use Rattle.std.proofs.lemmas.Grind.{flat_map-append}
use Rattle.jc_base.specs.Endian.{big_bytes, big_number}
use Rattle.jc_view.specs.declared.attribute_kind.AttributeKind.TheVariants as kinds
use Rattle.jc_view.specs.declared.attribute_kind.Holder.{Holder}
use Rattle.jc_view.specs.declared.attribute_kind.Holder.TheVariants as holders
use Rattle.jc_view.specs.ConstantPool.{index_bytes}
use Rattle.jc_view.specs.ClassFile.{Attribute, Member, ClassFile, counted, attribute_bytes, member_bytes}
use Rattle.jc_view.specs.Places.{PlacedAttribute, PlacedMember, attributes_from, members_from, member_attributes, fields_in, methods_in, attributes_in, fields_place, methods_place, attributes_place}
use Rattle.jc_view.specs.Reading.{after, after_table, table_value, after_attribute, attribute_value}
use Rattle.jc_view.specs.Attributes.{Code, code_front, code_attributes, is_recognised, handler_bytes}
use Rattle.jc_view.specs.AttributeReading.{code_in, code_of, with_inner, all_attributes, handler_value, after_instructions, after_handlers, after_code, code_attributes_at, code_value}
use Rattle.jc_view.proofs.reading.BigEndian.{then_some, length-big_bytes}
use Rattle.jc_view.proofs.places.Entries.{attribute_length, table_length}
use Rattle.jc_view.proofs.places.CodeEntries.{are_instructions, handlers_left, handler_length, length-code_front}
use Rattle.jc_view.proofs.places.RisingLists.{RisesBy, rises_lower, rises_higher, rises-append}

abbrev pub place_of : PlacedAttribute → ℕ
place_of a = a.place

abbrev all_bytes : List Attribute → ℕ
all_bytes attributes = length (flat_map attribute_bytes attributes)

-- ---- attributes one behind the other

length-attribute_bytes : (a : Attribute) → length (attribute_bytes a) ≡ 6 + length a.bytes
length-attribute_bytes a =
    omega (arith, length-append (index_bytes a.name ++ big_bytes 4 (length a.bytes)) a.bytes, length-append (index_bytes a.name) (big_bytes 4 (length a.bytes)), length-big_bytes 2 a.name.0, length-big_bytes 4 (length a.bytes))

attributes_rise : (holder : Holder) (place : ℕ) (attributes : List Attribute) → RisesBy place_of place (place + all_bytes attributes) (attributes_from holder place attributes)
unfolding attributes_from
attributes_rise holder place [] = omega arith
attributes_rise holder place (a ∷ attributes) =
    let next = place + length (attribute_bytes a) in
    let others = attributes_from holder next attributes in
    let size = length-append (attribute_bytes a) (flat_map attribute_bytes attributes) in (
      omega arith,
      rises_lower place_of (place + 1) next (place + all_bytes (a ∷ attributes)) others (omega (arith, length-attribute_bytes a))
          (rises_higher place_of next (next + all_bytes attributes) (place + all_bytes (a ∷ attributes)) others (omega (arith, size)) (attributes_rise holder next attributes)),
    )

-- ---- inside a Code

code_size : (xs rest : List ℕ) → after_code xs ≡ Some rest → length xs ≡ length (code_front (code_value xs)) + length (counted attribute_bytes (code_value xs).attributes) + length rest
unfolding after_code
code_size xs rest e =
    let b = then_some (option_and_then after_handlers (after_instructions xs)) (after_table after_attribute) rest e in
    let a = then_some (after_instructions xs) after_handlers b.0 b.1 in
    let i = are_instructions xs a.0 a.1 in
    let at_attributes : code_attributes_at xs ≡ b.0 = ap (λ (ys : List ℕ). drop (2 + 8 * big_number 2 ys) ys) i.left ∙ handlers_left a.0 b.0 a.2 in
    let handlers : length (counted handler_bytes (code_value xs).handlers) ≡ length (counted handler_bytes (table_value (after 8) handler_value a.0)) = ap (λ (ys : List ℕ). length (counted handler_bytes (table_value (after 8) handler_value ys))) i.left in
    let attributes : length (counted attribute_bytes (code_value xs).attributes) ≡ length (counted attribute_bytes (table_value after_attribute attribute_value b.0)) = ap (λ (ys : List ℕ). length (counted attribute_bytes (table_value after_attribute attribute_value ys))) at_attributes in
    omega (arith, i.size, i.code, handlers, attributes, table_length (after 8) handler_value handler_bytes handler_length a.0 b.0 a.2, table_length after_attribute attribute_value attribute_bytes attribute_length b.0 rest b.2, length-code_front (code_value xs))

-- an attribute reaches as far as its bytes
abbrev end_of : PlacedAttribute → ℕ
end_of a = a.place + length (attribute_bytes a.attribute)

length-counted : (attributes : List Attribute) → length (counted attribute_bytes attributes) ≡ 2 + all_bytes attributes
length-counted attributes = omega (arith, length-append (big_bytes 2 (length attributes)) (flat_map attribute_bytes attributes), length-big_bytes 2 (length attributes))

-- a text that is all of a part has nothing behind it
if_passes : (b : Bool) (value k : Code) → (if b then Some value else None) ≡ Some k → (b ≡ true) × (value ≡ k)
if_passes true value k e = (refl, cc)
if_passes false value k e = absurd cc

whole_value : (o : Option (List ℕ)) (value k : Code) → option_and_then (λ (rest : List ℕ). if length rest == 0 then Some value else None) o ≡ Some k → (rest : List ℕ) × (o ≡ Some rest) × (length rest ≡ 0) × (value ≡ k)
whole_value None value k e = absurd cc
whole_value (Some rest) value k e =
    let passes = if_passes (length rest == 0) value k e in
    (rest, refl, eqb-true (length rest) 0 passes.0, passes.1)

code_in_size : (b : List ℕ) (k : Code) → code_in b ≡ Some k → length b ≡ length (code_front k) + 2 + all_bytes k.attributes
code_in_size b k e =
    let w = whole_value (after_code b) (code_value b) k e in
    let front : length (code_front (code_value b)) ≡ length (code_front k) = ap (λ v. length (code_front v)) w.3 in
    let table : length (counted attribute_bytes (code_value b).attributes) ≡ length (counted attribute_bytes k.attributes) = ap (λ (v : Code). length (counted attribute_bytes v.attributes)) w.3 in
    omega (arith, code_size b w.0 w.1, w.2, front, table, length-counted k.attributes)

-- the attributes inside, behind the front of one
inner_rise : (a : PlacedAttribute) (o : Option Code) → ((k : Code) → o ≡ Some k → code_in a.attribute.bytes ≡ Some k) → RisesBy place_of (a.place + 1) (end_of a) (option_map_or (code_attributes a) o [])
inner_rise a None is_code = omega (arith, length-attribute_bytes a.attribute)
inner_rise a (Some k) is_code =
    let size = code_in_size a.attribute.bytes k (is_code k refl) in
    let first = a.place + 6 + length (code_front k) + 2 in
    rises_lower place_of (a.place + 1) first (end_of a) (code_attributes a k) (omega arith)
    (rises_higher place_of first (first + all_bytes k.attributes) (end_of a) (code_attributes a k) (omega (arith, size, length-attribute_bytes a.attribute)) (attributes_rise holders.Code first k.attributes))

if_recognised : (b : Bool) (o : Option Code) (k : Code) → (if b then o else None) ≡ Some k → o ≡ Some k
if_recognised true o k e = e
if_recognised false o k e = absurd cc

with_inner_rises : (c : ClassFile) (a : PlacedAttribute) → RisesBy place_of a.place (end_of a) (with_inner c a)
with_inner_rises c a = (omega arith, inner_rise a (code_of c a) (if_recognised (is_recognised c kinds.Code a.holder a.attribute) (code_in a.attribute.bytes)))

-- ---- tables

table_rises : (c : ClassFile) (holder : Holder) (place : ℕ) (attributes : List Attribute) → RisesBy place_of place (place + all_bytes attributes) (flat_map (with_inner c) (attributes_from holder place attributes))
unfolding attributes_from
table_rises c holder place [] = omega arith
table_rises c holder place (a ∷ attributes) =
    let next = place + length (attribute_bytes a) in
    let here = with_inner c (record { holder = holder; place = place; attribute = a }) in
    let others = flat_map (with_inner c) (attributes_from holder next attributes) in
    let size = length-append (attribute_bytes a) (flat_map attribute_bytes attributes) in
    rises-append place_of place next (place + all_bytes (a ∷ attributes)) here others
    (with_inner_rises c (record { holder = holder; place = place; attribute = a }))
    (rises_higher place_of next (next + all_bytes attributes) (place + all_bytes (a ∷ attributes)) others (omega (arith, size)) (table_rises c holder next attributes))

length-member_bytes : (m : Member) → length (member_bytes m) ≡ 8 + all_bytes m.attributes
length-member_bytes m =
    let flags = big_bytes 2 m.flags in
    let name = index_bytes m.name in
    let descriptor = index_bytes m.descriptor in
    omega (arith, length-append (flags ++ name ++ descriptor) (counted attribute_bytes m.attributes), length-append (flags ++ name) descriptor, length-append flags name, length-big_bytes 2 m.flags, length-big_bytes 2 m.name.0, length-big_bytes 2 m.descriptor.0, length-counted m.attributes)

abbrev of_members : ClassFile → List PlacedMember → List PlacedAttribute
of_members c members = flat_map (with_inner c) (flat_map member_attributes members)

members_rise : (c : ClassFile) (holder : Holder) (place : ℕ) (members : List Member) → RisesBy place_of place (place + length (flat_map member_bytes members)) (of_members c (members_from holder place members))
unfolding members_from
members_rise c holder place [] = omega arith
members_rise c holder place (m ∷ members) =
    let next = place + length (member_bytes m) in
    let end = place + length (flat_map member_bytes (m ∷ members)) in
    let placed : PlacedMember = record { holder = holder; place = place; member = m } in
    let here = flat_map (with_inner c) (member_attributes placed) in
    let others = of_members c (members_from holder next members) in
    let size = length-append (member_bytes m) (flat_map member_bytes members) in
    let own : RisesBy place_of place next here =
    rises_lower place_of place (place + 8) next here (omega arith)
    (rises_higher place_of (place + 8) (place + 8 + all_bytes m.attributes) next here (omega (arith, length-member_bytes m)) (table_rises c holder (place + 8) m.attributes)) in
    let behind : RisesBy place_of next end others =
    rises_higher place_of next (next + length (flat_map member_bytes members)) end others (omega (arith, size)) (members_rise c holder next members) in
    let joined = flat_map-append (with_inner c) (member_attributes placed) (flat_map member_attributes (members_from holder next members)) in
    subst (λ (xs : List PlacedAttribute). RisesBy place_of place end xs) (sym joined) (rises-append place_of place next end here others own behind)

length-counted_members : (members : List Member) → length (counted member_bytes members) ≡ 2 + length (flat_map member_bytes members)
length-counted_members members = omega (arith, length-append (big_bytes 2 (length members)) (flat_map member_bytes members), length-big_bytes 2 (length members))

-- ---- all

pub attributes_end : ClassFile → ℕ
attributes_end c = attributes_place c + 2 + all_bytes c.attributes

pub all_rise : (c : ClassFile) → RisesBy place_of 0 (attributes_end c) (all_attributes c)
unfolding attributes_end
all_rise c =
    let fields = of_members c (fields_in c) in
    let methods = of_members c (methods_in c) in
    let own = flat_map (with_inner c) (attributes_in c) in
    let first : RisesBy place_of 0 (methods_place c) fields =
    rises_lower place_of 0 (fields_place c + 2) (methods_place c) fields (omega arith)
    (rises_higher place_of (fields_place c + 2) (fields_place c + 2 + length (flat_map member_bytes c.fields)) (methods_place c) fields (omega (arith, length-counted_members c.fields)) (members_rise c holders.Field (fields_place c + 2) c.fields)) in
    let second : RisesBy place_of (methods_place c) (attributes_place c) methods =
    rises_lower place_of (methods_place c) (methods_place c + 2) (attributes_place c) methods (omega arith)
    (rises_higher place_of (methods_place c + 2) (methods_place c + 2 + length (flat_map member_bytes c.methods)) (attributes_place c) methods (omega (arith, length-counted_members c.methods)) (members_rise c holders.Method (methods_place c + 2) c.methods)) in
    let third : RisesBy place_of (attributes_place c) (attributes_end c) own =
    rises_lower place_of (attributes_place c) (attributes_place c + 2) (attributes_end c) own (omega arith) (table_rises c holders.Class (attributes_place c + 2) c.attributes) in
    rises-append place_of 0 (attributes_place c) (attributes_end c) (fields ++ methods) own (rises-append place_of 0 (methods_place c) (attributes_place c) fields methods first second) third
