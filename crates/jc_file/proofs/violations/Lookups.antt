-- What the look-ups of entries, of texts and of references decide.
use Rattle.std.proofs.Common.{None, Option, refl, subst, ◌≡◌, ℕ, Bool, false, not, List, Some, option_and_then, is_none, sym, ap, ◌∙◌}
use Rattle.std.specs.Bool.{Decides}
use Rattle.std.proofs.lemmas.Bool.{false≢true}
use Rattle.std.proofs.lemmas.Bool.Decides.{Decides-at}
use Rattle.std.proofs.lemmas.Slice.Eq.{bytes_eq-Decides}
use Rattle.jc_base.specs.ModifiedUtf8.{Spells, IsWellSpelled}
use Rattle.jc_base.specs.Names.{IsUnqualifiedName, IsMethodName, IsClassName}
use Rattle.jc_base.specs.Descriptors.{FieldType, MethodType, IsField, IsFieldDescriptor, IsMethod, IsMethodDescriptor}
use Rattle.jc_base.specs.TextTests.{units_of, is_unqualified_text, is_class_text, is_method_name_text}
use Rattle.jc_base.specs.DescriptorTests.{field_type_of, is_field_text, method_type_of, is_method_text}
use Rattle.jc_view.specs.declared.constant_pool.ConstantIndex.{ConstantIndex}
use Rattle.jc_view.specs.declared.constant_pool.ConstantKind.{ConstantKind}
use Rattle.jc_view.specs.ConstantPool as pool
use Rattle.jc_view.specs.ConstantPool.{Constant, kind_of, tag_of, kind_of_tag, utf8_text, class_name_index}
use Rattle.jc_view.specs.ClassFile.{Attribute, ClassFile, constant_at, class_text_at}
use Rattle.jc_view.specs.Lookups.{utf8_at, is_kind, is_entry, name_and_type, name_and_type_index, name_and_type_at, member_name_at, member_descriptor_at, name_of, passes, fails, lacks}
use Rattle.jc_file.specs.FormatRules.{is_array_text}
use Rattle.jc_file.specs.Violations.{IsEntry, NamesKind, HasText, HasClassText, Has, IsRecognised, GivesName, GivesDescriptor, RefersTo, IsArrayDescriptor}
use Rattle.jc_view.proofs.reading.FirstConstant.{kind_of_its_tag}
use Rattle.jc_file.proofs.violations.Decisions.{like, neg, both, flag, equal, below, has, has_by, lacks_is, Finds, some_found, none_found, fits_found, none_fits, fails_is}
use Rattle.jc_view.proofs.reading.BigEndian.{then_some}
use Rattle.jc_base.specs.Bytes.{same_bytes}
use Rattle.jc_file.specs.AccessFlags.{has as has_flag}
use Rattle.jc_view.specs.declared.attribute_kind.AttributeKind.{AttributeKind}
use Rattle.jc_view.specs.declared.attribute_kind.Holder.{Holder}
use Rattle.jc_view.specs.Attributes.{is_recognised, belongs_to, attribute_name}

-- ---- entries

same_kind : (k m : ConstantKind) → tag_of k ≡ tag_of m → k ≡ m
same_kind k m e = let f : Some k ≡ Some m = sym (kind_of_its_tag k) ∙ ap kind_of_tag e ∙ kind_of_its_tag m in cc

pub kind_decided : (kind : ConstantKind) (entry : Constant) → Decides (is_kind kind entry) (kind_of entry ≡ kind)
kind_decided kind entry = like (same_kind (kind_of entry) kind) (ap tag_of) (equal (tag_of (kind_of entry)) (tag_of kind))

pub entry_decided : (c : ClassFile) (kind : ConstantKind) (index : ConstantIndex) → Decides (is_entry c kind index) (NamesKind c kind index)
entry_decided c kind index = has_by (kind_decided kind) (constant_at c index)

-- ---- texts

-- the tests of texts decide what they say
pub record TextsDecided : Type 0 where
  pub units : (b us : List ℕ) → ((units_of b ≡ Some us) → Spells us b) × (Spells us b → (units_of b ≡ Some us))
  pub unqualified : (b : List ℕ) → Decides (is_unqualified_text b) (IsUnqualifiedName b)
  pub method_name : (b : List ℕ) → Decides (is_method_name_text b) (IsMethodName b)
  pub class : (b : List ℕ) → Decides (is_class_text b) (IsClassName b)
  pub field : (b : List ℕ) (t : FieldType) → ((field_type_of b ≡ Some t) → IsField b t) × (IsField b t → (field_type_of b ≡ Some t))
  pub method : (b : List ℕ) (t : MethodType) → ((method_type_of b ≡ Some t) → IsMethod b t) × (IsMethod b t → (method_type_of b ≡ Some t))

text_entry : (constant : Constant) (text : List ℕ) → utf8_text constant ≡ Some text → constant ≡ pool.Utf8 text
text_entry (pool.Utf8 t) text e = ap (λ (x : List ℕ). pool.Utf8 x) cc
text_entry constant text e = absurd cc

class_entry_is : (constant : Constant) (name : ConstantIndex) → class_name_index constant ≡ Some name → constant ≡ pool.Class name
class_entry_is (pool.Class n) name e = ap (λ (x : ConstantIndex). pool.Class x) cc
class_entry_is constant name e = absurd cc

pair_entry : (constant : Constant) (pair : ConstantIndex × ConstantIndex) → name_and_type constant ≡ Some pair → constant ≡ pool.NameAndType pair.0 pair.1
pair_entry (pool.NameAndType n d) pair e = let is : ◌≡◌ {A = ConstantIndex × ConstantIndex} (n, d) pair = cc in ap (λ (p : ConstantIndex × ConstantIndex). pool.NameAndType p.0 p.1) is
pair_entry constant pair e = absurd cc

-- the text that stands at an index
pub text_at : (c : ClassFile) (index : ConstantIndex) → Finds (utf8_at c index) (λ text. IsEntry c index (pool.Utf8 text))
text_at c index text = (
  λ e. let found = then_some (constant_at c index) utf8_text text e in found.1 ∙ ap (λ (x : Constant). Some x) (text_entry found.0 text found.2),
  λ is. ap (option_and_then utf8_text) is,
)

module _ (c : ClassFile) {test : List ℕ → Bool} {Is : List ℕ → Type 0} (each : (text : List ℕ) → Decides (test text) (Is text)) (index : ConstantIndex) where
  pub has_text : Decides (passes test (utf8_at c index)) (HasText c Is index)
  has_text = fits_found (utf8_at c index) (λ text. IsEntry c index (pool.Utf8 text)) (text_at c index) each

  pub no_text : Decides (lacks test (utf8_at c index)) (¬ HasText c Is index)
  no_text = none_fits (utf8_at c index) (λ text. IsEntry c index (pool.Utf8 text)) (text_at c index) each

module _ (c : ClassFile) {test : List ℕ → Bool} {Is : List ℕ → Type 0} (each : (text : List ℕ) → Decides (test text) (Is text)) (index : ConstantIndex) where
  pub other_text : Decides (fails test (utf8_at c index)) (HasText c (λ text. ¬ Is text) index)
  other_text = Decides-at (fails test (utf8_at c index)) (passes (λ text. not (test text)) (utf8_at c index)) (fails_is test (utf8_at c index)) (has_text c (λ text. neg (each text)) index)

module _ (tests : TextsDecided) (text : List ℕ) where
  pub spelled_decided : Decides (is_none (units_of text)) (¬ IsWellSpelled text)
  spelled_decided = like (λ h w. h w.0 w.1) (λ h us is. h (us, is)) (none_found (units_of text) (λ us. Spells us text) (tests.units text))

  pub field_decided : Decides (is_field_text text) (IsFieldDescriptor text)
  field_decided = some_found (field_type_of text) (IsField text) (tests.field text)

  pub method_decided : Decides (is_method_text text) (IsMethodDescriptor text)
  method_decided = some_found (method_type_of text) (IsMethod text) (tests.method text)

  pub array_decided : Decides (is_array_text text) (IsArrayDescriptor text)
  array_decided = fits_found (field_type_of text) (IsField text) (tests.field text) (λ type. below 0 type.dims)

-- ---- references

pair_is : (c : ClassFile) (entry : ConstantIndex) (pair : ConstantIndex × ConstantIndex) → name_and_type_at c entry ≡ Some pair → IsEntry c entry (pool.NameAndType pair.0 pair.1)
pair_is c entry pair e =
    let found = then_some (constant_at c entry) name_and_type pair e in
    found.1 ∙ ap (λ (x : Constant). Some x) (pair_entry found.0 pair found.2)

pair_from : (c : ClassFile) (entry name descriptor : ConstantIndex) → IsEntry c entry (pool.NameAndType name descriptor) → name_and_type_at c entry ≡ Some (name, descriptor)
pair_from c entry name descriptor is = ap (option_and_then name_and_type) is

module _ (c : ClassFile) {test : List ℕ → Bool} {Is : List ℕ → Type 0} (each : (text : List ℕ) → Decides (test text) (Is text)) (entry : ConstantIndex) where
  pub gives_name : Decides (passes test (member_name_at c entry)) (GivesName c Is entry)
  gives_name = like
      (λ h. let found = then_some (name_and_type_at c entry) (λ pair. utf8_at c pair.0) h.0 h.1 in (found.0.0, found.0.1, pair_is c entry found.0 found.1, (h.0, (text_at c found.0.0 h.0).0 found.2, h.2)))
      (λ h. (h.3.0, ap (option_and_then (λ pair. utf8_at c pair.0)) (pair_from c entry h.0 h.1 h.2) ∙ (text_at c h.0 h.3.0).1 h.3.1, h.3.2))
      (has each (member_name_at c entry))

  pub gives_descriptor : Decides (passes test (member_descriptor_at c entry)) (GivesDescriptor c Is entry)
  gives_descriptor = like
      (λ h. let found = then_some (name_and_type_at c entry) (λ pair. utf8_at c pair.1) h.0 h.1 in (found.0.0, found.0.1, pair_is c entry found.0 found.1, (h.0, (text_at c found.0.1 h.0).0 found.2, h.2)))
      (λ h. (h.3.0, ap (option_and_then (λ pair. utf8_at c pair.1)) (pair_from c entry h.0 h.1 h.2) ∙ (text_at c h.1 h.3.0).1 h.3.1, h.3.2))
      (has each (member_descriptor_at c entry))

module _ (c : ClassFile) {test : List ℕ → Bool} {Is : List ℕ → Type 0} (each : (text : List ℕ) → Decides (test text) (Is text)) (r : Constant) where
  pub refers_to : Decides (passes test (name_of c r)) (RefersTo c Is r)
  refers_to = by (name_and_type_index r) refl
    where
      by : (o : Option ConstantIndex) → name_and_type_index r ≡ o → Decides (passes test (name_of c r)) (RefersTo c Is r)
      by None e = (
        λ h. absurd (let n : passes test (name_of c r) ≡ false = rw e refl in false≢true (sym n ∙ h)),
        λ h. absurd (let some = h.1 in let none = e in cc),
      )
      by (Some entry) e =
          let same : passes test (name_of c r) ≡ passes test (member_name_at c entry) = ap (λ o. passes test (option_and_then (member_name_at c) o)) e in
          like
          (λ h. (entry, e, h))
          (λ h. subst (λ (i : ConstantIndex). GivesName c Is i) (let here = h.1 in let there = e in cc) h.2)
          (Decides-at (passes test (name_of c r)) (passes test (member_name_at c entry)) same (gives_name c each entry))

module _ (c : ClassFile) {test : List ℕ → Bool} {Is : List ℕ → Type 0} (each : (text : List ℕ) → Decides (test text) (Is text)) (entry : ConstantIndex) where
  pub other_descriptor : Decides (fails test (member_descriptor_at c entry)) (GivesDescriptor c (λ text. ¬ Is text) entry)
  other_descriptor = Decides-at (fails test (member_descriptor_at c entry)) (passes (λ text. not (test text)) (member_descriptor_at c entry)) (fails_is test (member_descriptor_at c entry)) (gives_descriptor c (λ text. neg (each text)) entry)

-- ---- more

pub same_text : (text other : List ℕ) → Decides (same_bytes text other) (text ≡ other)
same_text text other = bytes_eq-Decides text other

pub never : Decides false ⊥
never = (λ e. false≢true e, λ h. absurd h)

-- ---- the text of a class

class_at : (c : ClassFile) (index : ConstantIndex) (text : List ℕ) → class_text_at c index ≡ Some text
    → (name : ConstantIndex) × IsEntry c index (pool.Class name) × IsEntry c name (pool.Utf8 text)
class_at c index text e =
    let class = then_some (constant_at c index) (λ class. option_and_then (λ entry. option_and_then utf8_text (constant_at c entry)) (class_name_index class)) text e in
    let entry = then_some (class_name_index class.0) (λ entry. option_and_then utf8_text (constant_at c entry)) text class.2 in
    (entry.0, class.1 ∙ ap (λ (x : Constant). Some x) (class_entry_is class.0 entry.0 entry.1), (text_at c entry.0 text).0 entry.2)

class_from : (c : ClassFile) (index name : ConstantIndex) (text : List ℕ) → IsEntry c index (pool.Class name) → IsEntry c name (pool.Utf8 text) → class_text_at c index ≡ Some text
class_from c index name text class is =
    ap (option_and_then (λ class. option_and_then (λ entry. option_and_then utf8_text (constant_at c entry)) (class_name_index class))) class ∙ (text_at c name text).1 is

module _ (c : ClassFile) {test : List ℕ → Bool} {Is : List ℕ → Type 0} (each : (text : List ℕ) → Decides (test text) (Is text)) (index : ConstantIndex) where
  pub has_class_text : Decides (passes test (class_text_at c index)) (HasClassText c Is index)
  has_class_text = like
      (λ h. let found = class_at c index h.0 h.1 in (found.0, found.1, (h.0, found.2, h.2)))
      (λ h. (h.2.0, class_from c index h.0 h.2.0 h.1 h.2.1, h.2.2))
      (has each (class_text_at c index))

  pub no_class_text : Decides (lacks test (class_text_at c index)) (¬ HasClassText c Is index)
  no_class_text = Decides-at (lacks test (class_text_at c index)) (not (passes test (class_text_at c index))) (lacks_is test (class_text_at c index)) (neg has_class_text)

-- the flag is set
pub is_set : (flags f : ℕ) → Decides (has_flag flags f) (Has flags f)
is_set flags f = (λ e. e, λ e. e)

-- ---- attributes of a kind

pub recognised_decided : (c : ClassFile) (kind : AttributeKind) (holder : Holder) (a : Attribute) → Decides (is_recognised c kind holder a) (IsRecognised c kind holder a)
recognised_decided c kind holder a = both (flag (belongs_to kind holder)) (has_text c (λ name. same_text name (attribute_name kind)) a.name)
