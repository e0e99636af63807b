-- Descriptors are texts, and what tells a text from a descriptor by its first bytes.
use Rattle.std.proofs.Common.{◌≡◌, ℕ, true, List, [], ◌∷◌, ◌++◌, length, drop, replicate, codes, Option, Some, None, IfSome, zero, suc, inl, inr, refl, sym, ap, ◌∙◌, subst, arith, length-append}
use Rattle.std.specs.List.{AllByRecursion, Contains, concat, list_all}
use Rattle.std.proofs.lemmas.List.{append_cancel_right, append-nil}
use Rattle.std.proofs.lemmas.List.Elements.{recursion_from_All}
use Rattle.jc_base.specs.ModifiedUtf8.{IsWellSpelled}
use Rattle.jc_base.specs.Names.{IsClassName}
use Rattle.jc_base.specs.Descriptors.{base_types, IsElementType, IsFieldDescriptor, IsMethodDescriptor, result_text}
use Rattle.jc_base.specs.FieldsInFront.{field_len}
use Rattle.jc_base.proofs.texts.WellSpelledFronts.{append_spelled, ascii_spelled, is_ascii}
use Rattle.jc_base.proofs.texts.Names.{class_name_spelled}
use Rattle.jc_base.proofs.types.FieldsInFront.{field_in_front, method_split}

base_ascii : (c : ℕ) → Contains base_types c → list_all is_ascii (c ∷ []) ≡ true
base_ascii c (zero, within, is) = ap (λ c. list_all is_ascii (c ∷ [])) (sym is)
base_ascii c (suc zero, within, is) = ap (λ c. list_all is_ascii (c ∷ [])) (sym is)
base_ascii c (suc (suc zero), within, is) = ap (λ c. list_all is_ascii (c ∷ [])) (sym is)
base_ascii c (suc (suc (suc zero)), within, is) = ap (λ c. list_all is_ascii (c ∷ [])) (sym is)
base_ascii c (suc (suc (suc (suc zero))), within, is) = ap (λ c. list_all is_ascii (c ∷ [])) (sym is)
base_ascii c (suc (suc (suc (suc (suc zero)))), within, is) = ap (λ c. list_all is_ascii (c ∷ [])) (sym is)
base_ascii c (suc (suc (suc (suc (suc (suc zero))))), within, is) = ap (λ c. list_all is_ascii (c ∷ [])) (sym is)
base_ascii c (suc (suc (suc (suc (suc (suc (suc zero)))))), within, is) = ap (λ c. list_all is_ascii (c ∷ [])) (sym is)
base_ascii c (suc (suc (suc (suc (suc (suc (suc (suc k))))))), within, is) = absurd (omega arith)

pub base_spelled : (c : ℕ) → Contains base_types c → IsWellSpelled (c ∷ [])
base_spelled c has = ascii_spelled (c ∷ []) (base_ascii c has)

element_spelled : (b : List ℕ) → IsElementType b → IsWellSpelled b
element_spelled b (inl (letter, has, is)) = subst IsWellSpelled (sym is) (base_spelled letter has)
element_spelled b (inr (name, named, is)) =
    subst IsWellSpelled (sym is) (append_spelled (76 ∷ []) (name ++ 59 ∷ []) (ascii_spelled (76 ∷ []) refl) (append_spelled name (59 ∷ []) (class_name_spelled name named) (ascii_spelled (59 ∷ []) refl)))

dims_spelled : (n : ℕ) → IsWellSpelled (replicate n 91)
dims_spelled zero = ascii_spelled [] refl
dims_spelled (suc n) = append_spelled (91 ∷ []) (replicate n 91) (ascii_spelled (91 ∷ []) refl) (dims_spelled n)

pub field_spelled : (b : List ℕ) → IsFieldDescriptor b → IsWellSpelled b
field_spelled b (type, field) =
    subst IsWellSpelled (sym field.text) (append_spelled (replicate type.dims 91) type.element (dims_spelled type.dims) (element_spelled type.element field.element))

params_spelled : (ps : List (List ℕ)) → AllByRecursion IsFieldDescriptor ps → IsWellSpelled (concat ps)
params_spelled [] each = ascii_spelled [] refl
params_spelled (p ∷ ps) each = append_spelled p (concat ps) (field_spelled p each.0) (params_spelled ps each.1)

result_spelled : (r : Option (List ℕ)) → IfSome r IsFieldDescriptor → IsWellSpelled (result_text r)
result_spelled None field = ascii_spelled (codes "V") refl
result_spelled (Some b) field = field_spelled b field

pub method_spelled : (b : List ℕ) → IsMethodDescriptor b → IsWellSpelled b
method_spelled b (type, method) =
    subst IsWellSpelled (sym (method_split b type method))
    (append_spelled (40 ∷ []) (concat type.params ++ 41 ∷ result_text type.result) (ascii_spelled (40 ∷ []) refl)
    (append_spelled (concat type.params) (41 ∷ result_text type.result) (params_spelled type.params (recursion_from_All IsFieldDescriptor type.params method.params))
    (append_spelled (41 ∷ []) (result_text type.result) (ascii_spelled (41 ∷ []) refl) (result_spelled type.result method.result))))

-- ---- texts that are no descriptors

-- where no descriptor is in front, there is none
pub none_in_front : (b : List ℕ) → field_len b ≡ None → IsFieldDescriptor b → ⊥
none_in_front b none field =
    let found : field_len b ≡ Some (length b) = ap field_len (sym (append-nil b)) ∙ field_in_front b [] field in
    absurd (cc)

pub named_only : (name : List ℕ) → (IsClassName name → ⊥) → IsElementType (76 ∷ (name ++ 59 ∷ [])) → ⊥
named_only name other (inl (letter, has, is)) = omega (arith, ap length is, length-append name (59 ∷ []))
named_only name other (inr (found, named, is)) =
    other (subst IsClassName (sym (append_cancel_right name found (59 ∷ []) (ap (drop 1) is))) named)

pub no_empty_result : (r : Option (List ℕ)) → IfSome r IsFieldDescriptor → result_text r ≡ [] → ⊥
unfolding field_len
no_empty_result None field e = omega (arith, ap length e)
no_empty_result (Some b) field e = none_in_front [] refl (subst IsFieldDescriptor e field)
