-- Where the bytes of attributes lie in the layout.
use Rattle.std.proofs.Common.{◌≡◌, ℕ, zero, suc, ◌+◌, ◌*◌, ◌≤◌, cond, eqb, List, [], ◌∷◌, ◌++◌, length, take, drop, Option, Some, None, option_and_then, refl, sym, ap, subst, ◌∙◌, append_assoc, arith, length-append}
use Rattle.std.specs.List.{flat_map, AllByRecursion, Contains}
use Rattle.std.specs.Option.{option_map_or}
use Rattle.std.proofs.lemmas.List.{take_at, drop_at, drop-drop, take-append-drop, append-nil, length-take, length-take-le, length-drop, drop-append-le, take-append-le}
use Rattle.std.proofs.lemmas.Option.{same_Some}
use Rattle.jc_base.proofs.Common.{left_of}
use Rattle.jc_base.specs.Endian.{big_bytes, big_number}
use Rattle.jc_view.specs.declared.attribute_kind.Holder.{Holder}
use Rattle.jc_view.specs.declared.attribute_kind.Holder.TheVariants as holders
use Rattle.jc_view.specs.declared.attribute_kind.AttributeKind.TheVariants as kinds
use Rattle.jc_view.specs.ConstantPool.{constant_bytes, index_bytes}
use Rattle.jc_view.specs.ClassFile.{ClassFile, Attribute, Member, counted, attribute_bytes, member_bytes, head_bytes, layout, FitsClassFile, FitsAttribute, FitsMember}
use Rattle.jc_view.specs.Places.{PlacedAttribute, PlacedMember, attributes_from, members_from, fields_place, methods_place, attributes_place, fields_in, methods_in, attributes_in, member_attributes, HasBytesAt, HasInstructionsAt}
use Rattle.jc_view.specs.Reading.{after, after_sized, sized_value, after_each, each_value, after_table, table_value, after_attribute, attribute_value}
use Rattle.jc_view.specs.Attributes.{Code, is_recognised, code_front, handler_bytes, code_attributes}
use Rattle.jc_view.specs.AttributeReading.{code_length, after_instructions, after_handlers, after_code, handlers_at, code_attributes_at, handler_value, code_value, code_in, code_of, with_inner, all_attributes}
use Rattle.jc_view.proofs.reading.BigEndian.{after_some, then_some, three_bytes, length-big_bytes}
use Rattle.jc_view.proofs.reading.Tables.{each_again, reads_attribute}
use Rattle.jc_view.proofs.places.Entries.{after_length, table_length}
use Rattle.jc_view.proofs.places.CodeEntries.{are_instructions, handlers_left, handlers_size, handler_length, length-code_front}
use Rattle.jc_view.proofs.reading.Codes.{test_is}
use Rattle.jc_view.proofs.places.ClassTables.{length-head_bytes}

-- ---- lists

module _ {X : Type 0} (P : X → Type 0) where
  pub in_all : (xs : List X) (x : X) → AllByRecursion P xs → Contains xs x → P x
  in_all [] x all (k, lt, e) = absurd (omega arith)
  in_all (y ∷ ys) x all (zero, lt, e) = subst P e all.0
  in_all (y ∷ ys) x all (suc k, lt, e) = in_all ys x all.1 (k, omega arith, e)

  both_all : (xs ys : List X) → AllByRecursion P xs → AllByRecursion P ys → AllByRecursion P (xs ++ ys)
  both_all [] ys first second = second
  both_all (x ∷ xs) ys first second = (first.0, both_all xs ys first.1 second)

flat_all : {X Y : Type 0} (P : X → Type 0) (Q : Y → Type 0) (f : X → List Y) → ((x : X) → P x → AllByRecursion Q (f x)) → (xs : List X) → AllByRecursion P xs → AllByRecursion Q (flat_map f xs)
flat_all P Q f h [] all = tt
flat_all P Q f h (x ∷ xs) all = both_all Q (f x) (flat_map f xs) (h x all.0) (flat_all P Q f h xs all.1)

-- ---- attributes

-- an attribute at the front, cut into its parts
record IsCut (xs rest : List ℕ) : Type 0 where
  front : List ℕ
  long : length front ≡ 6
  parts : xs ≡ front ++ (attribute_value xs).bytes ++ rest

cut : (xs rest : List ℕ) → after_attribute xs ≡ Some rest → IsCut xs rest
unfolding after_attribute
cut xs rest e =
    let b = then_some (after 2 xs) (after_sized 4) rest e in
    let f = after_some 2 xs b.0 b.1 in
    let d = then_some (after 4 b.0) (after (big_number 4 b.0)) rest b.2 in
    let g = after_some 4 b.0 d.0 d.1 in
    let n = big_number 4 b.0 in
    let h = after_some n d.0 rest d.2 in
    let six : drop 6 xs ≡ d.0 = sym (drop-drop 4 2 xs) ∙ ap (drop 4) f.left ∙ g.left in
    let bytes : (attribute_value xs).bytes ≡ take n d.0 = ap (sized_value 4) f.left ∙ ap (take n) g.left in
    let behind : d.0 ≡ (attribute_value xs).bytes ++ rest =
    sym (take-append-drop n d.0) ∙ ap (λ (ys : List ℕ). take n d.0 ++ ys) h.left ∙ ap (λ (ys : List ℕ). ys ++ rest) (sym bytes) in
    record {
      front = take 6 xs;
      long = omega (arith, length-take 6 xs, after_length 2 xs b.0 b.1, after_length 4 b.0 d.0 d.1);
      parts = sym (take-append-drop 6 xs) ∙ ap (λ (ys : List ℕ). take 6 xs ++ ys) (six ∙ behind) ∙ sym (append_assoc (take 6 xs) (attribute_value xs).bytes rest);
    }

length-attribute_bytes : (a : Attribute) → length (attribute_bytes a) ≡ 6 + length a.bytes
length-attribute_bytes a =
    omega (arith, length-append (index_bytes a.name ++ big_bytes 4 (length a.bytes)) a.bytes, length-append (index_bytes a.name) (big_bytes 4 (length a.bytes)), length-big_bytes 2 a.name.0, length-big_bytes 4 (length a.bytes))

-- attributes that are read one behind the other
read_from : (b : List ℕ) (holder : Holder) (n place : ℕ) (xs last rest : List ℕ) → after_each after_attribute n xs ≡ Some last → drop place b ≡ xs ++ rest
    → AllByRecursion (HasBytesAt b) (attributes_from holder place (each_value after_attribute attribute_value n xs))
unfolding after_each each_value attributes_from
read_from b holder zero place xs last rest e here = tt
read_from b holder (suc n) place xs last rest e here =
    let next = then_some (after_attribute xs) (after_each after_attribute n) last e in
    let ys = next.0 in
    let k = cut xs ys next.1 in
    let a = attribute_value xs in
    let grouped : (k.front ++ a.bytes ++ ys) ++ rest ≡ k.front ++ (a.bytes ++ (ys ++ rest)) = simp append_assoc in
    let at_six : drop (place + 6) b ≡ a.bytes ++ (ys ++ rest) =
    sym (drop-drop 6 place b) ∙ ap (drop 6) (here ∙ ap (λ (zs : List ℕ). zs ++ rest) k.parts ∙ grouped) ∙ drop_at k.front (a.bytes ++ (ys ++ rest)) 6 k.long in
    let long : (place + 6) + length a.bytes ≡ place + length (attribute_bytes a) = omega (arith, length-attribute_bytes a) in
    let behind : drop (place + length (attribute_bytes a)) b ≡ ys ++ rest =
    ap (λ (m : ℕ). drop m b) (sym long) ∙ sym (drop-drop (length a.bytes) (place + 6) b) ∙ ap (drop (length a.bytes)) at_six ∙ drop_at a.bytes (ys ++ rest) (length a.bytes) refl in
    let left : left_of (after_attribute xs) ≡ ys = ap left_of next.1 in (
      ap (take (length a.bytes)) at_six ∙ take_at a.bytes (ys ++ rest) (length a.bytes) refl,
      subst (λ (zs : List ℕ). AllByRecursion (HasBytesAt b) (attributes_from holder (place + length (attribute_bytes a)) (each_value after_attribute attribute_value n zs))) (sym left)
          (read_from b holder n (place + length (attribute_bytes a)) ys last rest next.2 behind),
    )

-- attributes that stand one behind the other
attributes_lie : (b : List ℕ) (holder : Holder) (place : ℕ) (attributes : List Attribute) (rest : List ℕ) → AllByRecursion FitsAttribute attributes → drop place b ≡ flat_map attribute_bytes attributes ++ rest
    → AllByRecursion (HasBytesAt b) (attributes_from holder place attributes)
attributes_lie b holder place attributes rest fits here =
    let again = each_again reads_attribute attributes rest fits in
    let text = flat_map attribute_bytes attributes ++ rest in
    subst (λ (as_ : List Attribute). AllByRecursion (HasBytesAt b) (attributes_from holder place as_)) again.1
    (read_from b holder (length attributes) place text rest [] again.0 (here ∙ sym (append-nil text)))

-- ---- members

member_apart : (a n t rest : List ℕ) → (a ++ (n ++ t)) ++ rest ≡ (a ++ n) ++ (t ++ rest)
member_apart a n t rest = simp append_assoc

members_lie : (b : List ℕ) (holder : Holder) (place : ℕ) (members : List Member) (rest : List ℕ) → AllByRecursion FitsMember members → drop place b ≡ flat_map member_bytes members ++ rest
    → AllByRecursion (λ m. AllByRecursion (HasBytesAt b) (member_attributes m)) (members_from holder place members)
unfolding members_from
members_lie b holder place [] rest fits here = tt
members_lie b holder place (m ∷ members) rest fits here =
    let behind = flat_map member_bytes members ++ rest in
    let first = three_bytes m.flags m.name.0 m.descriptor.0 in
    let count = big_bytes 2 (length m.attributes) in
    let table = flat_map attribute_bytes m.attributes in
    let grouped : drop place b ≡ member_bytes m ++ behind = here ∙ append_assoc (member_bytes m) (flat_map member_bytes members) rest in
    let apart : member_bytes m ++ behind ≡ (first ++ count) ++ (table ++ behind) = member_apart first count table behind in
    let long : length (first ++ count) ≡ 8 = omega (
      arith,
      length-append first count,
      length-append (big_bytes 2 m.flags ++ index_bytes m.name) (index_bytes m.descriptor),
      length-append (big_bytes 2 m.flags) (index_bytes m.name),
      length-big_bytes 2 m.flags,
      length-big_bytes 2 m.name.0,
      length-big_bytes 2 m.descriptor.0,
      length-big_bytes 2 (length m.attributes),
    ) in
    let inside : drop (place + 8) b ≡ table ++ behind = sym (drop-drop 8 place b) ∙ ap (drop 8) (grouped ∙ apart) ∙ drop_at (first ++ count) (table ++ behind) 8 long in
    let next : drop (place + length (member_bytes m)) b ≡ behind = sym (drop-drop (length (member_bytes m)) place b) ∙ ap (drop (length (member_bytes m))) grouped ∙ drop_at (member_bytes m) behind (length (member_bytes m)) refl in (
      attributes_lie b holder (place + 8) m.attributes behind fits.0.attributes.1 inside,
      members_lie b holder (place + length (member_bytes m)) members rest fits.1 next,
    )

-- ---- attributes of a code

record IsCodeCut (xs : List ℕ) : Type 0 where
  last : List ℕ
  read : after_each after_attribute (big_number 2 (code_attributes_at xs)) (drop 2 (code_attributes_at xs)) ≡ Some last
  long : length (code_front (code_value xs)) + 2 ≤ length xs
  begin : drop (length (code_front (code_value xs)) + 2) xs ≡ drop 2 (code_attributes_at xs)

code_cut : (xs rest : List ℕ) → after_code xs ≡ Some rest → IsCodeCut xs
unfolding after_code
code_cut xs rest e =
    let at_attributes = then_some (option_and_then after_handlers (after_instructions xs)) (after_table after_attribute) rest e in
    let ys = at_attributes.0 in
    let at_handlers = then_some (after_instructions xs) after_handlers ys at_attributes.1 in
    let hs = at_handlers.0 in
    let instructions = are_instructions xs hs at_handlers.1 in
    let n = 8 * big_number 2 hs in
    let table = handlers_left hs ys at_handlers.2 in
    let is_ys : code_attributes_at xs ≡ ys = ap (λ (zs : List ℕ). drop (2 + 8 * big_number 2 zs) zs) instructions.left ∙ table in
    let entries = then_some (after 2 ys) (after_each after_attribute (big_number 2 ys)) rest at_attributes.2 in
    let two = after_some 2 ys entries.0 entries.1 in
    let two_long = two.long in
    let handlers : length (counted handler_bytes (table_value (after 8) handler_value (handlers_at xs))) ≡ length (counted handler_bytes (table_value (after 8) handler_value hs)) =
    ap (λ (zs : List ℕ). length (counted handler_bytes (table_value (after 8) handler_value zs))) instructions.left in
    let size : length (code_front (code_value xs)) ≡ (8 + code_length xs) + (2 + n) =
    omega (arith, length-code_front (code_value xs), instructions.code, handlers, handlers_size hs ys at_handlers.2, table_length (after 8) handler_value handler_bytes handler_length hs ys at_handlers.2) in
    let whole : drop (length (code_front (code_value xs))) xs ≡ ys = ap (λ (m : ℕ). drop m xs) size ∙ sym (drop-drop (2 + n) (8 + code_length xs) xs) ∙ ap (drop (2 + n)) instructions.left ∙ table in
    record {
      last = rest;
      read = ap (λ (zs : List ℕ). after_each after_attribute (big_number 2 zs) (drop 2 zs)) is_ys ∙ ap (after_each after_attribute (big_number 2 ys)) two.left ∙ entries.2;
      long = omega (arith, size, instructions.size, handlers_size hs ys at_handlers.2, two_long);
      begin = sym (drop-drop 2 (length (code_front (code_value xs))) xs) ∙ ap (drop 2) (whole ∙ sym is_ys);
    }

-- there are as many bytes as its front and its instructions take
code_fits : (xs rest : List ℕ) → after_code xs ≡ Some rest → 8 + code_length xs ≤ length xs
unfolding after_code
code_fits xs rest e =
    let at_attributes = then_some (option_and_then after_handlers (after_instructions xs)) (after_table after_attribute) rest e in
    let at_handlers = then_some (after_instructions xs) after_handlers at_attributes.0 at_attributes.1 in
    let instructions = are_instructions xs at_handlers.0 at_handlers.1 in
    omega (arith, instructions.size)

code_lies : (b : List ℕ) (a : PlacedAttribute) → HasBytesAt b a → (k : Code) → code_in a.attribute.bytes ≡ Some k → AllByRecursion (HasBytesAt b) (code_attributes a k)
code_lies b a here k e =
    let xs = a.attribute.bytes in
    let behind = then_some (after_code xs) (λ rest. cond (eqb (length rest) 0) (Some (code_value xs)) None) k e in
    let is_k : code_value xs ≡ k = same_Some (code_value xs) k (test_is (eqb (length behind.0) 0) (Some (code_value xs)) k behind.2).1 in
    let inside = code_cut xs behind.0 behind.1 in
    let front = length (code_front (code_value xs)) in
    let begin = a.place + 6 in
    let rest = drop (length xs) (drop begin b) in
    let table = drop 2 (code_attributes_at xs) in
    let over : drop begin b ≡ xs ++ rest = sym (take-append-drop (length xs) (drop begin b)) ∙ ap (λ (t : List ℕ). t ++ rest) here in
    let place : begin + front + 2 ≡ begin + (front + 2) = omega arith in
    let stands : drop (begin + front + 2) b ≡ table ++ rest =
    ap (λ (m : ℕ). drop m b) place ∙ sym (drop-drop (front + 2) begin b) ∙ ap (drop (front + 2)) over ∙ drop-append-le (front + 2) xs rest inside.long ∙ ap (λ (t : List ℕ). t ++ rest) inside.begin in
    subst (λ (j : Code). AllByRecursion (HasBytesAt b) (code_attributes a j)) is_k
    (read_from b holders.Code (big_number 2 (code_attributes_at xs)) (begin + front + 2) table inside.last rest inside.read stands)

-- the instructions of a Code
pub instructions_lie : (c : ClassFile) (a : PlacedAttribute) (k : Code) → HasBytesAt (layout c) a → code_of c a ≡ Some k → HasInstructionsAt (layout c) a.place k.code
instructions_lie c a k here e =
    let b = layout c in
    let xs = a.attribute.bytes in
    let n = code_length xs in
    let read = (test_is (is_recognised c kinds.Code a.holder a.attribute) (code_in xs) k e).1 in
    let behind = then_some (after_code xs) (λ rest. cond (eqb (length rest) 0) (Some (code_value xs)) None) k read in
    let is_k : code_value xs ≡ k = same_Some (code_value xs) k (test_is (eqb (length behind.0) 0) (Some (code_value xs)) k behind.2).1 in
    let fits = code_fits xs behind.0 behind.1 in
    let rest = drop (length xs) (drop (a.place + 6) b) in
    let over : drop (a.place + 6) b ≡ xs ++ rest = sym (take-append-drop (length xs) (drop (a.place + 6) b)) ∙ ap (λ (t : List ℕ). t ++ rest) here in
    let place : a.place + 14 ≡ (a.place + 6) + 8 = omega arith in
    let stands : drop (a.place + 14) b ≡ drop 8 xs ++ rest =
    ap (λ (m : ℕ). drop m b) place ∙ sym (drop-drop 8 (a.place + 6) b) ∙ ap (drop 8) over ∙ drop-append-le 8 xs rest (omega (arith, fits)) in
    let room : n ≤ length (drop 8 xs) = omega (arith, fits, length-drop 8 xs) in
    let long : length (take n (drop 8 xs)) ≡ n = length-take-le n (drop 8 xs) room in
    let part : take (length (take n (drop 8 xs))) (drop (a.place + 14) b) ≡ take n (drop 8 xs) =
    ap (λ (m : ℕ). take m (drop (a.place + 14) b)) long ∙ ap (take n) stands ∙ take-append-le n (drop 8 xs) rest room in
    subst (λ (j : Code). HasInstructionsAt b a.place j.code) is_k part

inner_lie : (b : List ℕ) (c : ClassFile) (a : PlacedAttribute) → HasBytesAt b a → (found : Option Code) → code_of c a ≡ found → AllByRecursion (HasBytesAt b) (option_map_or (code_attributes a) found [])
inner_lie b c a here None e = tt
inner_lie b c a here (Some k) e =
    let xs = a.attribute.bytes in
    let read = (test_is (is_recognised c kinds.Code a.holder a.attribute) (code_in xs) k e).1 in
    code_lies b a here k read

with_inner_lie : (b : List ℕ) (c : ClassFile) (a : PlacedAttribute) → HasBytesAt b a → AllByRecursion (HasBytesAt b) (with_inner c a)
with_inner_lie b c a here = (here, inner_lie b c a here (code_of c a) refl)

-- ---- a class file

at_place : (b front rest : List ℕ) (n : ℕ) → b ≡ front ++ rest → length front ≡ n → drop n b ≡ rest
at_place b front rest n e long = ap (drop n) e ∙ drop_at front rest n long

layout_apart : (a n i f m k : List ℕ) → a ++ (n ++ i ++ f ++ m ++ k) ≡ (a ++ (n ++ i)) ++ (f ++ (m ++ k))
layout_apart a n i f m k = simp append_assoc

last_apart : (a f m k : List ℕ) → a ++ (f ++ (m ++ k)) ≡ (a ++ f ++ m) ++ (k ++ [])
last_apart a f m k = simp (append_assoc, append-nil)

count_apart : (a n t rest : List ℕ) → a ++ ((n ++ t) ++ rest) ≡ (a ++ n) ++ (t ++ rest)
count_apart a n t rest = simp append_assoc

module _ (c : ClassFile) where
  abbrev numbers : List ℕ
  numbers = three_bytes c.flags c.this_class.0 c.super_class.0

  abbrev before : List ℕ
  before = head_bytes c ++ flat_map constant_bytes c.constants ++ (numbers ++ counted index_bytes c.interfaces)

  abbrev fields : List ℕ
  fields = counted member_bytes c.fields

  abbrev methods : List ℕ
  methods = counted member_bytes c.methods

  abbrev attributes : List ℕ
  attributes = counted attribute_bytes c.attributes

  apart : layout c ≡ before ++ (fields ++ (methods ++ attributes))
  unfolding layout
  apart = layout_apart (head_bytes c ++ flat_map constant_bytes c.constants) numbers (counted index_bytes c.interfaces) fields methods attributes

  long : length before ≡ fields_place c
  long = omega (
    arith,
    length-append (head_bytes c ++ flat_map constant_bytes c.constants) (numbers ++ counted index_bytes c.interfaces),
    length-append (head_bytes c) (flat_map constant_bytes c.constants),
    length-append numbers (counted index_bytes c.interfaces),
    length-append (big_bytes 2 c.flags ++ index_bytes c.this_class) (index_bytes c.super_class),
    length-append (big_bytes 2 c.flags) (index_bytes c.this_class),
    length-head_bytes c,
    length-big_bytes 2 c.flags,
    length-big_bytes 2 c.this_class.0,
    length-big_bytes 2 c.super_class.0,
  )

  -- a table behind what stands before it
  behind_count : (front count table rest : List ℕ) (place : ℕ) → layout c ≡ front ++ ((count ++ table) ++ rest) → length front ≡ place → length count ≡ 2 → drop (place + 2) (layout c) ≡ table ++ rest
  behind_count front count table rest place e is_long two =
      at_place (layout c) (front ++ count) (table ++ rest) (place + 2) (e ∙ count_apart front count table rest) (omega (arith, is_long, two, length-append front count))

  fields_begin : drop (fields_place c + 2) (layout c) ≡ flat_map member_bytes c.fields ++ (methods ++ attributes)
  fields_begin = behind_count before (big_bytes 2 (length c.fields)) (flat_map member_bytes c.fields) (methods ++ attributes) (fields_place c) apart long (length-big_bytes 2 (length c.fields))

  methods_begin : drop (methods_place c + 2) (layout c) ≡ flat_map member_bytes c.methods ++ attributes
  methods_begin =
      let grouped : before ++ (fields ++ (methods ++ attributes)) ≡ (before ++ fields) ++ (methods ++ attributes) = sym (append_assoc before fields (methods ++ attributes)) in
      behind_count (before ++ fields) (big_bytes 2 (length c.methods)) (flat_map member_bytes c.methods) attributes (methods_place c) (apart ∙ grouped) (omega (arith, long, length-append before fields)) (length-big_bytes 2 (length c.methods))

  attributes_begin : drop (attributes_place c + 2) (layout c) ≡ flat_map attribute_bytes c.attributes ++ []
  attributes_begin =
      let grouped : before ++ (fields ++ (methods ++ attributes)) ≡ (before ++ fields ++ methods) ++ (attributes ++ []) = last_apart before fields methods attributes in
      behind_count (before ++ fields ++ methods) (big_bytes 2 (length c.attributes)) (flat_map attribute_bytes c.attributes) [] (attributes_place c) (apart ∙ grouped)
      (omega (arith, long, length-append before fields, length-append (before ++ fields) methods)) (length-big_bytes 2 (length c.attributes))

  inner_all : (list : List PlacedAttribute) → AllByRecursion (HasBytesAt (layout c)) list → AllByRecursion (HasBytesAt (layout c)) (flat_map (with_inner c) list)
  inner_all list all = flat_all (HasBytesAt (layout c)) (HasBytesAt (layout c)) (with_inner c) (with_inner_lie (layout c) c) list all

  members_all : (members : List PlacedMember) → AllByRecursion (λ m. AllByRecursion (HasBytesAt (layout c)) (member_attributes m)) members → AllByRecursion (HasBytesAt (layout c)) (flat_map (with_inner c) (flat_map member_attributes members))
  members_all members all =
      inner_all (flat_map member_attributes members) (flat_all (λ (m : PlacedMember). AllByRecursion (HasBytesAt (layout c)) (member_attributes m)) (HasBytesAt (layout c)) member_attributes (λ m h. h) members all)

  pub all_lie : FitsClassFile c → AllByRecursion (HasBytesAt (layout c)) (all_attributes c)
  all_lie fits =
      let of_fields = members_all (fields_in c) (members_lie (layout c) holders.Field (fields_place c + 2) c.fields (methods ++ attributes) fits.fields.1 fields_begin) in
      let of_methods = members_all (methods_in c) (members_lie (layout c) holders.Method (methods_place c + 2) c.methods attributes fits.methods.1 methods_begin) in
      let of_class = inner_all (attributes_in c) (attributes_lie (layout c) holders.Class (attributes_place c + 2) c.attributes [] fits.attributes.1 attributes_begin) in
      let list_of_fields = flat_map (with_inner c) (flat_map member_attributes (fields_in c)) in
      let list_of_methods = flat_map (with_inner c) (flat_map member_attributes (methods_in c)) in
      both_all (HasBytesAt (layout c)) (list_of_fields ++ list_of_methods) (flat_map (with_inner c) (attributes_in c)) (both_all (HasBytesAt (layout c)) list_of_fields list_of_methods of_fields of_methods) of_class
