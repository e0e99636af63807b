use Rattle.std.proofs.Common.{[], ◌∷◌, ◌++◌, length, get_or, drop, replicate, codes, inl, inr, refl, sym, ap, arith, lit<, lit≤}
use Rattle.std.proofs.lemmas.List.Elements.{All-from_recursion}
use Rattle.jc_base.specs.Names.{IsClassName, IsUnqualifiedName}
use Rattle.jc_base.specs.Descriptors.{IsField, IsFieldDescriptor}
use Rattle.jc_base.specs.FieldsInFront.{field_len, element_len, fields_of}
use Rattle.jc_base.proofs.texts.Names.{name_by_test, class_name_by_split}
use Rattle.jc_base.proofs.types.FieldsInFront.{parts_of, element_starts, after_params}
use Rattle.jc_base.proofs.types.DescriptorsAreTexts.{none_in_front, named_only, no_empty_result}
use Rattle.jc_base.proofs.descriptors.descriptor_examples.Goals as goal

string_name : IsClassName (codes "java/lang/String")
string_name = (
  codes "java" ∷ codes "lang" ∷ codes "String" ∷ [],
  (λ e. omega (arith, ap length e)),
  All-from_recursion IsUnqualifiedName (codes "java" ∷ codes "lang" ∷ codes "String" ∷ [])
      (name_by_test _ (lit< tt) refl refl, (name_by_test _ (lit< tt) refl refl, (name_by_test _ (lit< tt) refl refl, tt))),
  refl,
)

closed_name : IsClassName (codes "a)b")
closed_name = (codes "a)b" ∷ [], (λ e. omega (arith, ap length e)), All-from_recursion IsUnqualifiedName (codes "a)b" ∷ []) (name_by_test _ (lit< tt) refl refl, tt), refl)

string_array : IsField (codes "[[Ljava/lang/String;") (record { dims = 2; element = codes "Ljava/lang/String;" })
string_array = record { few = lit≤ tt; element = inr (codes "java/lang/String", string_name, refl); text = refl }

int_field : IsField (codes "I") (record { dims = 0; element = codes "I" })
int_field = record { few = lit≤ tt; element = inl (73, (4, lit< tt, refl), refl); text = refl }

long_field : IsField (codes "J") (record { dims = 0; element = codes "J" })
long_field = record { few = lit≤ tt; element = inl (74, (5, lit< tt, refl), refl); text = refl }

pub returns : goal.returns
unfolding field_len element_len fields_of
returns c = record {
  array = string_array;
  most_dims = (record { dims = 255; element = codes "I" }, record { few = lit≤ tt; element = int_field.element; text = refl });
  too_many_dims = λ field. let parts = parts_of (replicate 256 91 ++ codes "I") 256 (codes "I") refl (element_starts (codes "I") int_field.element) field in omega (arith, parts.0);
  void_field = none_in_front (codes "V") refl;
  no_name = λ field. named_only [] (λ name. ((class_name_by_split (codes "")).1 name 0 [] (lit< tt)).1 refl) (parts_of (codes "L;") 0 (codes "L;") refl (λ e. omega arith) field).1;
  empty_part = λ field. named_only (codes "a//b") (λ name. ((class_name_by_split (codes "a//b")).1 name 1 [] (lit< tt)).1 refl) (parts_of (codes "La//b;") 0 (codes "La//b;") refl (λ e. omega arith) field).1;
  method = record {
    params = All-from_recursion IsFieldDescriptor (codes "I" ∷ codes "J" ∷ codes "[[Ljava/lang/String;" ∷ []) ((_, int_field), ((_, long_field), ((_, string_array), tt)));
    result = tt;
    few = lit≤ tt;
    text = refl;
  };
  closed_name = record {
    params = All-from_recursion IsFieldDescriptor (codes "La)b;" ∷ []) ((record { dims = 0; element = codes "La)b;" }, record { few = lit≤ tt; element = inr (codes "a)b", closed_name, refl); text = refl }), tt);
    result = tt;
    few = lit≤ tt;
    text = refl;
  };
  no_result = λ (type, method). no_empty_result type.result method.result (sym (ap (drop 1) (after_params (codes ")") (codes ")") type refl method)));
  void_param = λ (type, method). omega (arith, ap (λ b. get_or b 0 0) (after_params (codes "V)V") (codes "V)V") type refl method));
  long = refl;
  longs = refl;
}
