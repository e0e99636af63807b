-- What a text is as a descriptor, and the tests of descriptors.
use Rattle.std.proofs.Common.{◌≡◌, ◌∙◌, ℕ, true, false, not, ◌&&◌, ◌||◌, nat_lt, List, [], ◌∷◌, Option, Some, None, is_some, option_map, inl, inr, refl, ap, arith}
use Rattle.std.proofs.lemmas.Bool.{cases_Bool, false≢true}
use Rattle.jc_base.specs.Descriptors.{FieldType, MethodType}
use Rattle.jc_base.specs.DescriptorTests.{begins_with, field_type_of, is_element_text, is_field_text, is_method_text, leading_dims, method_type_of}
use Rattle.jc_base.specs.TextTests.{is_method_name_text, is_unqualified_text}
use Rattle.jc_view.specs.ClassFile.{Member}
use Rattle.jc_view.specs.Lookups.{fails, lacks, passes}
use Rattle.jc_file.specs.AccessFlags.{has, static}
use Rattle.jc_file.specs.FormatRules.{fails_beside, fits_slots, is_array_text, returns_value}
use Rattle.jc_file.specs.inside.Texts.{as_field, as_method, descriptor_of, fails_with, fits, is_array, is_field, is_method, returns}

-- ---- no text is both

not_element : (rest : List ℕ) → is_element_text (40 ∷ rest) ≡ false
not_element rest = grind arith

no_field : (text : List ℕ) → begins_with 40 text ≡ true → field_type_of text ≡ None
unfolding field_type_of leading_dims
no_field [] e = absurd (false≢true e)
no_field (first ∷ rest) e = grind arith

no_method : (text : List ℕ) → begins_with 40 text ≡ false → method_type_of text ≡ None
unfolding method_type_of
no_method text e = grind arith

apart : (text : List ℕ) (type : FieldType) → field_type_of text ≡ Some type → method_type_of text ≡ None
apart text type e = elim (cases_Bool (begins_with 40 text)) [
  | inl method ↦
      let none : field_type_of text ≡ None = no_field text method in
      absurd cc
  | inr other ↦ no_method text other
]

-- ---- the tests, by what a text is

with_field : (f : Option FieldType) (m : Option MethodType) → is_some f ≡ is_field (as_field f (as_method m))
with_field None None = refl
with_field None (Some type) = refl
with_field (Some type) m = refl

with_array : (f : Option FieldType) (m : Option MethodType) → passes (λ type. nat_lt 0 type.dims) f ≡ is_array (as_field f (as_method m))
with_array None None = refl
with_array None (Some type) = refl
with_array (Some type) m = refl

alone : (m : Option MethodType) → is_some m ≡ is_method (as_method m)
alone None = refl
alone (Some type) = refl

returning_alone : (m : Option MethodType) → passes (λ type. is_some type.result) m ≡ returns (as_method m)
returning_alone None = refl
returning_alone (Some type) = refl

fitting_alone : (member : Member) (m : Option MethodType) → passes (fits_slots member) m ≡ fits (has member.flags static) (as_method m)
fitting_alone member None = refl
fitting_alone member (Some type) = refl

-- a text that is that of a field is that of no method
Apart : Option FieldType → Option MethodType → Type 0
Apart f m = (type : FieldType) → f ≡ Some type → m ≡ None

with_method : (f : Option FieldType) (m : Option MethodType) → Apart f m → is_some m ≡ is_method (as_field f (as_method m))
unfolding Apart
with_method None m is_apart = alone m
with_method (Some type) m is_apart = ap is_some (is_apart type refl)

with_result : (f : Option FieldType) (m : Option MethodType) → Apart f m → passes (λ type. is_some type.result) m ≡ returns (as_field f (as_method m))
unfolding Apart
with_result None m is_apart = returning_alone m
with_result (Some type) m is_apart = ap (passes (λ t. is_some t.result)) (is_apart type refl)

with_slots : (member : Member) (f : Option FieldType) (m : Option MethodType) → Apart f m → passes (fits_slots member) m ≡ fits (has member.flags static) (as_field f (as_method m))
unfolding Apart
with_slots member None m is_apart = fitting_alone member m
with_slots member (Some type) m is_apart = ap (passes (fits_slots member)) (is_apart type refl)

apart_in : (text : List ℕ) → Apart (field_type_of text) (method_type_of text)
unfolding Apart
apart_in text type e = apart text type e

fields : (text : List ℕ) → is_field_text text ≡ is_field (descriptor_of text)
fields text = with_field (field_type_of text) (method_type_of text)

methods : (text : List ℕ) → is_method_text text ≡ is_method (descriptor_of text)
methods text = with_method (field_type_of text) (method_type_of text) (apart_in text)

-- ---- the tests of texts that may be missing

pub no_fields : (o : Option (List ℕ)) → fails is_field_text o ≡ fails is_field (option_map descriptor_of o)
no_fields None = refl
no_fields (Some text) = ap not (fields text)

pub no_methods : (o : Option (List ℕ)) → fails is_method_text o ≡ fails is_method (option_map descriptor_of o)
no_methods None = refl
no_methods (Some text) = ap not (methods text)

pub no_descriptors : (o : Option (List ℕ)) → fails (λ text. is_field_text text || is_method_text text) o ≡ fails (λ d. is_field d || is_method d) (option_map descriptor_of o)
no_descriptors None = refl
no_descriptors (Some text) = ap (λ b. not (b || is_method_text text)) (fields text) ∙ ap (λ b. not (is_field (descriptor_of text) || b)) (methods text)

pub arrays : (o : Option (List ℕ)) → passes is_array_text o ≡ passes is_array (option_map descriptor_of o)
arrays None = refl
arrays (Some text) = with_array (field_type_of text) (method_type_of text)

pub returning : (o : Option (List ℕ)) → passes returns_value o ≡ passes returns (option_map descriptor_of o)
returning None = refl
returning (Some text) = with_result (field_type_of text) (method_type_of text) (apart_in text)

pub beside : (name : Option (List ℕ)) (o : Option (List ℕ)) → passes (λ text. fails_beside text name) o
    ≡ passes (λ d. fails_with d name) (option_map descriptor_of o)
beside name None = refl
beside name (Some text) =
    ap (λ b. b && fails is_unqualified_text name || is_method_text text && fails is_method_name_text name) (fields text)
    ∙ ap (λ b. is_field (descriptor_of text) && fails is_unqualified_text name || b && fails is_method_name_text name) (methods text)

pub lacking_field : (o : Option (List ℕ)) → lacks is_field_text o ≡ lacks is_field (option_map descriptor_of o)
lacking_field None = refl
lacking_field (Some text) = ap not (fields text)

pub lacking_method : (member : Member) (o : Option (List ℕ)) → lacks (λ text. passes (fits_slots member) (method_type_of text)) o
    ≡ lacks (fits (has member.flags static)) (option_map descriptor_of o)
lacking_method member None = refl
lacking_method member (Some text) = ap not (with_slots member (field_type_of text) (method_type_of text) (apart_in text))
