-- What the tests of attributes decide.
use Rattle.std.proofs.Common.{◌≡◌, ◌≢◌, inl, inr, ℕ, ◌+◌, Bool, true, false, ◌||◌, List, [], ◌∷◌, ◌++◌, length, Option, Some, None, refl, sym, ap, subst, ◌∙◌, filter}
use Rattle.std.specs.Bool.{Decides}
use Rattle.std.specs.List.{Contains, list_any, flat_map}
use Rattle.std.specs.Option.{option_map_or}
use Rattle.std.proofs.lemmas.List.Concat.{flat_map-append}
use Rattle.jc_base.proofs.Membership.{Has, has_from, from_has, has-cases, has-flat_map, has-from_flat_map}
use Rattle.jc_file.proofs.violations.Members.{BytesRead}
use Rattle.jc_file.proofs.violations.ByteParts.{class_have, field_have, method_have}
use Rattle.jc_view.proofs.reading.BigEndian.{IsBytes}
use Rattle.jc_view.proofs.reading.Codes.{test_is}
use Rattle.jc_view.specs.declared.attribute_kind.Holder.TheVariants as holders
use Rattle.std.proofs.lemmas.Bool.Decides.{Decides-at}
use Rattle.jc_view.specs.declared.constant_pool.ConstantKind.TheVariants as kinds
use Rattle.jc_view.specs.declared.attribute_kind.AttributeKind.{AttributeKind}
use Rattle.jc_view.specs.declared.attribute_kind.AttributeKind.TheVariants as attributes
use Rattle.jc_view.specs.ConstantPool as pool
use Rattle.jc_view.specs.ClassFile.{Attribute, Member, ClassFile, attribute_bytes, member_bytes, layout}
use Rattle.jc_view.specs.Lookups.{utf8_at}
use Rattle.jc_view.specs.Places.{PlacedAttribute, PlacedMember, attributes_from, members_from, member_attributes, fields_in, methods_in, attributes_in, fields_place, methods_place, attributes_place}
use Rattle.jc_view.specs.Attributes.{Code, is_recognised, of_kind, code_attributes, first_index, second_index}
use Rattle.jc_view.specs.AttributeReading.{all_attributes, with_inner, code_of, code_in}
use Rattle.jc_file.proofs.violations.Decisions.{map_has, has_map, neg, both, either, equal, one_of, kept, keeps, none_found}
use Rattle.jc_file.proofs.violations.Lookups.{entry_decided, text_at, recognised_decided}
use Rattle.jc_view.specs.declared.attribute_kind.Holder.{Holder}
use Rattle.jc_file.specs.Faults.{attributes_with}
use Rattle.jc_file.specs.FormatRules.{breaks_f28, is_sized, is_missized, breaks_f29, breaks_f30}
use Rattle.jc_file.specs.Violations.{IsEntry, IsRecognised, BreaksF28, fixed_lengths, BreaksF29, IsSized, BreaksF30, outer_attributes, IsInside, IsAttributeOf, AtAttribute}

-- ---- the attributes of a class file

placed_in : (holder : Holder) (place : ℕ) (list : List Attribute) (a : PlacedAttribute) → Has (attributes_from holder place list) a → Has list a.attribute
unfolding attributes_from
placed_in holder place [] a h = absurd h
placed_in holder place (x ∷ xs) a (inl e) = inl (ap (λ p. p.attribute) e)
placed_in holder place (x ∷ xs) a (inr h) = inr (placed_in holder (place + length (attribute_bytes x)) xs a h)

member_in : (holder : Holder) (place : ℕ) (list : List Member) (m : PlacedMember) → Has (members_from holder place list) m → Has list m.member
unfolding members_from
member_in holder place [] m h = absurd h
member_in holder place (x ∷ xs) m (inl e) = inl (ap (λ p. p.member) e)
member_in holder place (x ∷ xs) m (inr h) = inr (member_in holder (place + length (member_bytes x)) xs m h)

member_attribute : (holder : Holder) (place : ℕ) (list : List Member) (a : PlacedAttribute) → Has (flat_map member_attributes (members_from holder place list)) a
    → (m : Member) × Contains list m × Contains m.attributes a.attribute
member_attribute holder place list a h =
    let m = has-from_flat_map member_attributes (members_from holder place list) a h in
    (m.0.member, from_has list m.0.member (member_in holder place list m.0 m.1), from_has m.0.member.attributes a.attribute (placed_in m.0.holder (m.0.place + 8) m.0.member.attributes a m.2))

-- the bytes of each are bytes
outer_have : (c : ClassFile) → IsBytes (layout c) → (a : PlacedAttribute) → Has (outer_attributes c) a → IsBytes a.attribute.bytes
outer_have c bytes a h =
    elim (has-cases (flat_map member_attributes (fields_in c) ++ flat_map member_attributes (methods_in c)) (attributes_in c) a h) [
      | inr of_class ↦ class_have c bytes a.attribute (from_has c.attributes a.attribute (placed_in holders.Class (attributes_place c + 2) c.attributes a of_class))
      | inl of_member ↦ elim (has-cases (flat_map member_attributes (fields_in c)) (flat_map member_attributes (methods_in c)) a of_member) [
        | inl of_field ↦ let m = member_attribute holders.Field (fields_place c + 2) c.fields a of_field in field_have c bytes m.0 m.1 a.attribute m.2
        | inr of_method ↦ let m = member_attribute holders.Method (methods_place c + 2) c.methods a of_method in method_have c bytes m.0 m.1 a.attribute m.2
      ]
    ]

all_are : (c : ClassFile) → all_attributes c ≡ flat_map (with_inner c) (outer_attributes c)
all_are c =
    let f = flat_map member_attributes (fields_in c) in
    let m = flat_map member_attributes (methods_in c) in
    ap (λ (l : List PlacedAttribute). l ++ flat_map (with_inner c) (attributes_in c)) (sym (flat_map-append (with_inner c) f m)) ∙ sym (flat_map-append (with_inner c) (f ++ m) (attributes_in c))

module _ (reads : BytesRead) (c : ClassFile) (bytes : IsBytes (layout c)) where
  inner_is : (outer a : PlacedAttribute) → IsBytes outer.attribute.bytes → (o : Option Code) → code_of c outer ≡ o → Has (option_map_or (code_attributes outer) o []) a → IsInside c outer a
  inner_is outer a fits None e h = absurd h
  inner_is outer a fits (Some k) e h =
      let read = test_is (is_recognised c attributes.Code outer.holder outer.attribute) (code_in outer.attribute.bytes) k e in
      ((recognised_decided c attributes.Code outer.holder outer.attribute).0 read.0, k, (reads.code outer.attribute.bytes fits k).0 read.1, from_has (code_attributes outer k) a h)

  inner_from : (outer a : PlacedAttribute) → IsBytes outer.attribute.bytes → IsInside c outer a → Has (option_map_or (code_attributes outer) (code_of c outer) []) a
  inner_from outer a fits h =
      let named = (recognised_decided c attributes.Code outer.holder outer.attribute).1 h.0 in
      let read = (reads.code outer.attribute.bytes fits h.1).1 h.2 in
      let is : code_of c outer ≡ Some h.1 = rw named read in
      subst (λ (o : Option Code). Has (option_map_or (code_attributes outer) o []) a) (sym is) (has_from (code_attributes outer h.1) a h.3)

  pub attribute_is : (a : PlacedAttribute) → Contains (all_attributes c) a → IsAttributeOf c a
  attribute_is a h =
      let found = has-from_flat_map (with_inner c) (outer_attributes c) a (subst (λ (l : List PlacedAttribute). Has l a) (all_are c) (has_from (all_attributes c) a h)) in
      elim found.2 [
        | inl e ↦ inl (from_has (outer_attributes c) a (subst (λ (x : PlacedAttribute). Has (outer_attributes c) x) e found.1))
        | inr inner ↦ inr (found.0, from_has (outer_attributes c) found.0 found.1, inner_is found.0 a (outer_have c bytes found.0 found.1) (code_of c found.0) refl inner)
      ]

  listed : (outer a : PlacedAttribute) → Has (outer_attributes c) outer → Has (with_inner c outer) a → Contains (all_attributes c) a
  listed outer a there h = from_has (all_attributes c) a (subst (λ (l : List PlacedAttribute). Has l a) (sym (all_are c)) (has-flat_map (with_inner c) (outer_attributes c) outer a there h))

  pub attribute_from : (a : PlacedAttribute) → IsAttributeOf c a → Contains (all_attributes c) a
  attribute_from a (inl h) = listed a a (has_from (outer_attributes c) a h) (inl refl)
  attribute_from a (inr h) =
      let there = has_from (outer_attributes c) h.0 h.1 in
      listed h.0 a there (inr (inner_from h.0 a (outer_have c bytes h.0 there) h.2))

  pub attributes_decided : (test : PlacedAttribute → Bool) (Breaks : PlacedAttribute → Type 0) → ((a : PlacedAttribute) → Decides (test a) (Breaks a)) → (place : ℕ)
      → (Contains (attributes_with c test) place → AtAttribute Breaks c place) × (AtAttribute Breaks c place → Contains (attributes_with c test) place)
  attributes_decided test Breaks each place = (
    λ h. let found = map_has (λ a. a.place) (filter test (all_attributes c)) place h in
        let from = kept test (all_attributes c) found.0 found.1 in
        (found.0, attribute_is found.0 from.0, found.2, (each found.0).0 from.1),
    λ h. has_map (λ a. a.place) (filter test (all_attributes c)) h.0 place (keeps test (all_attributes c) h.0 (attribute_from h.0 h.1) ((each h.0).1 h.3)) h.2,
  )

-- ---- rules

pub f28_decided : (c : ClassFile) (a : PlacedAttribute) → Decides (breaks_f28 c a) (BreaksF28 c a)
f28_decided c a = none_found (utf8_at c a.attribute.name) (λ text. IsEntry c a.attribute.name (pool.Utf8 text)) (text_at c a.attribute.name)

missized_decided : (c : ClassFile) (a : PlacedAttribute) (fixed : AttributeKind × ℕ)
    → Decides (is_missized c fixed.0 fixed.1 a) (IsRecognised c fixed.0 a.holder a.attribute × (length a.attribute.bytes ≢ fixed.1))
missized_decided c a fixed = both (recognised_decided c fixed.0 a.holder a.attribute) (neg (equal (length a.attribute.bytes) fixed.1))

six_from_right : (a b c d e f : Bool) → a || b || c || d || e || f ≡ a || (b || (c || (d || (e || (f || false)))))
six_from_right true b c d e f = refl
six_from_right false true c d e f = refl
six_from_right false false true d e f = refl
six_from_right false false false true e f = refl
six_from_right false false false false true f = refl
six_from_right false false false false false true = refl
six_from_right false false false false false false = refl

fixed_listed : (c : ClassFile) (a : PlacedAttribute) → breaks_f29 c a ≡ list_any (λ fixed. is_missized c fixed.0 fixed.1 a) fixed_lengths
fixed_listed c a = six_from_right
    (is_missized c attributes.ConstantValue 2 a) (is_missized c attributes.SourceFile 2 a) (is_missized c attributes.Signature 2 a)
    (is_missized c attributes.EnclosingMethod 4 a) (is_missized c attributes.Synthetic 0 a) (is_missized c attributes.Deprecated 0 a)

pub f29_decided : (c : ClassFile) (a : PlacedAttribute) → Decides (breaks_f29 c a) (BreaksF29 c a)
f29_decided c a = Decides-at (breaks_f29 c a) (list_any (λ fixed. is_missized c fixed.0 fixed.1 a) fixed_lengths) (fixed_listed c a) (one_of (missized_decided c a) fixed_lengths)

sized_decided : (c : ClassFile) (kind : AttributeKind) (len : ℕ) (a : PlacedAttribute) → Decides (is_sized c kind len a) (IsSized c kind len a)
sized_decided c kind len a = both (recognised_decided c kind a.holder a.attribute) (equal (length a.attribute.bytes) len)

pub f30_decided : (c : ClassFile) (a : PlacedAttribute) → Decides (breaks_f30 c a) (BreaksF30 c a)
f30_decided c a = either
    (both (either (sized_decided c attributes.SourceFile 2 a) (sized_decided c attributes.Signature 2 a)) (neg (entry_decided c kinds.Utf8 (first_index a))))
    (both (sized_decided c attributes.EnclosingMethod 4 a) (either
    (neg (entry_decided c kinds.Class (first_index a)))
    (both (neg (equal (second_index a).0 0)) (neg (entry_decided c kinds.NameAndType (second_index a))))))

-- the attributes of a kind
pub of_kind_decided : (c : ClassFile) (kind : AttributeKind) (holder : Holder) (list : List Attribute) (a : Attribute)
    → (Contains (of_kind c kind holder list) a → Contains list a × IsRecognised c kind holder a) × (Contains list a × IsRecognised c kind holder a → Contains (of_kind c kind holder list) a)
of_kind_decided c kind holder list a = (
  λ h. let from = kept (is_recognised c kind holder) list a h in (from.0, (recognised_decided c kind holder a).0 from.1),
  λ h. keeps (is_recognised c kind holder) list a h.0 ((recognised_decided c kind holder a).1 h.1),
)
