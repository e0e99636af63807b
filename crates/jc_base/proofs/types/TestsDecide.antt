-- The tests of descriptors decide what they say.
use Rattle.std.proofs.Common.{◌≡◌, ◌≢◌, ℕ, zero, suc, ◌+◌, ◌-◌, Bool, true, false, cond, ◌&&◌, eqb, leb, List, [], ◌∷◌, ◌++◌, length, get_or, take, drop, replicate, sum_by, codes, Option, Some, None, IfSome, is_some, option_map, refl, sym, ap, ◌∙◌, arith, inl, inr, subst, eq-eqb, append_assoc, length-append}
use Rattle.std.specs.Option.{option_map_or}
use Rattle.std.specs.List.{Contains, concat, list_all, list_any}
use Rattle.std.proofs.lemmas.Option.{same_Some}
use Rattle.std.proofs.lemmas.Bool.{cases_Bool, false≢true, eqb-true, eqb-false, leb-true, le-leb, and_parts, and_from, or_cases, or_left, or_right, false_from_ne_true, cond-true, cond-false}
use Rattle.std.proofs.lemmas.List.{take_at, drop_at, take-append-drop}
use Rattle.std.proofs.lemmas.List.Folds.{list_any_at}
use Rattle.std.proofs.lemmas.List.Elements.{recursion_from_All, All-from_recursion}
use Rattle.std.proofs.lemmas.Slice.Eq.{bytes_eq-Decides}
use Rattle.jc_base.specs.Bytes.{same_bytes}
use Rattle.jc_base.specs.TextTests.{is_class_text}
use Rattle.jc_base.specs.Descriptors.{base_types, slots_of, IsBaseType, IsClassType, IsElementType, FieldType, IsField, IsFieldDescriptor, MethodType, IsMethod, result_text}
use Rattle.jc_base.specs.DescriptorTests.{leading_dims, begins_with, is_class_type_text, is_element_text, field_type_of, is_field_text, result_of, are_params, type_with, method_type_of}
use Rattle.jc_base.specs.FieldsInFront.{field_len, fields_within, fields_of}
use Rattle.jc_base.specs.inside.MethodParts.{AreParams, IsResult}
use Rattle.jc_base.proofs.texts.TestsDecide.{class_decides, all_fact, all_test, is_some_of, map_some}
use Rattle.jc_base.proofs.types.FieldsInFront.{field_parts, method_split, method_params, void_is_none}

-- ---- dimensions

-- the text is these dimensions and an element
record LeadsWith (b : List ℕ) (dims : ℕ) : Type 0 where
  pub text : b ≡ replicate dims 91 ++ drop dims b
  pub starts : get_or (drop dims b) 0 0 ≢ 91

one_dim : (c : ℕ) (rest : List ℕ) → eqb c 91 ≡ true → leading_dims (c ∷ rest) ≡ suc (leading_dims rest)
unfolding leading_dims
one_dim c rest hit = cond-true (eqb c 91) (1 + leading_dims rest) 0 hit ∙ omega arith

no_dim : (c : ℕ) (rest : List ℕ) → eqb c 91 ≡ false → leading_dims (c ∷ rest) ≡ 0
unfolding leading_dims
no_dim c rest miss = cond-false (eqb c 91) (1 + leading_dims rest) 0 miss

leads : (b : List ℕ) → LeadsWith b (leading_dims b)
unfolding leading_dims
leads [] = record { text = refl; starts = λ e. omega (arith, e) }
leads (c ∷ rest) =
    elim (cases_Bool (eqb c 91)) [
      | inl hit ↦
          let behind = leads rest in
          subst (LeadsWith (c ∷ rest)) (sym (one_dim c rest hit)) (record {
            text = ap (λ x. x ∷ rest) (eqb-true c 91 hit) ∙ ap (λ xs. 91 ∷ xs) behind.text;
            starts = behind.starts;
          })
      | inr miss ↦ subst (LeadsWith (c ∷ rest)) (sym (no_dim c rest miss)) (record { text = refl; starts = eqb-false c 91 miss })
    ]

-- ---- elements

any_letter : (b letters : List ℕ) → list_any (λ letter. same_bytes b (letter ∷ [])) letters ≡ true → (letter : ℕ) × Contains letters letter × (b ≡ letter ∷ [])
any_letter b [] e = absurd (false≢true e)
any_letter b (letter ∷ letters) e =
    elim (or_cases (same_bytes b (letter ∷ [])) (list_any (λ letter. same_bytes b (letter ∷ [])) letters) e) [
      | inl same ↦ (letter, (0, omega arith, refl), (bytes_eq-Decides b (letter ∷ [])).0 same)
      | inr other ↦ let found = any_letter b letters other in let place = found.1 in (found.0, (suc place.0, omega (arith, place.1), place.2), found.2)
    ]

base_fact : (b : List ℕ) → list_any (λ letter. same_bytes b (letter ∷ [])) base_types ≡ true → IsBaseType b
base_fact b e = any_letter b base_types e

base_test : (b : List ℕ) → IsBaseType b → list_any (λ letter. same_bytes b (letter ∷ [])) base_types ≡ true
base_test b (letter, (k, within, at), is) =
    list_any_at (λ letter. same_bytes b (letter ∷ [])) base_types k letter within (ap (λ c. same_bytes b (c ∷ [])) at ∙ (bytes_eq-Decides b (letter ∷ [])).1 is)

begins_fact : (byte : ℕ) (b : List ℕ) → begins_with byte b ≡ true → b ≡ byte ∷ drop 1 b
begins_fact byte [] e = absurd (false≢true e)
begins_fact byte (c ∷ b) e = ap (λ x. x ∷ b) (eqb-true c byte e)

begins_test : (byte : ℕ) (b rest : List ℕ) → b ≡ byte ∷ rest → begins_with byte b ≡ true
begins_test byte b rest is = ap (begins_with byte) is ∙ eq-eqb byte byte refl

last_split : (n x : ℕ) (b : List ℕ) → length b ≡ suc n → get_or b n 0 ≡ x → b ≡ take n b ++ x ∷ []
last_split zero x [] len at = absurd (omega arith)
last_split zero x (y ∷ []) len at = ap (λ z. z ∷ []) at
last_split zero x (y ∷ z ∷ b) len at = absurd (omega arith)
last_split (suc n) x [] len at = absurd (omega arith)
last_split (suc n) x (y ∷ b) len at = ap (λ ys. y ∷ ys) (last_split n x b (omega arith) at)

-- the text has these bytes in front of its last one
record EndsWith (b : List ℕ) (n : ℕ) : Type 0 where
  pub len : length b ≡ suc (suc n)
  pub starts : begins_with 76 b ≡ true
  pub ends : get_or b (suc n) 0 ≡ 59

named_split : (b : List ℕ) (n : ℕ) → EndsWith b n → b ≡ 76 ∷ (take n (drop 1 b) ++ 59 ∷ [])
named_split [] n ends = absurd (omega (arith, ends.len))
named_split (c ∷ rest) n ends =
    ap (λ x. x ∷ rest) (eqb-true c 76 ends.starts) ∙ ap (λ xs. 76 ∷ xs) (last_split n 59 rest (omega (arith, ends.len)) ends.ends)

class_type_fact : (b : List ℕ) → is_class_type_text b ≡ true → IsClassType b
class_type_fact b e =
    let n = length b - 2 in
    let named = and_parts (leb 2 (length b) && begins_with 76 b && eqb (get_or b (length b - 1) 0) 59) (is_class_text (take n (drop 1 b))) e in
    let last = and_parts (leb 2 (length b) && begins_with 76 b) (eqb (get_or b (length b - 1) 0) 59) named.0 in
    let first = and_parts (leb 2 (length b)) (begins_with 76 b) last.0 in
    let room = leb-true 2 (length b) first.0 in
    let place : suc n ≡ length b - 1 = omega arith in
    let ends : EndsWith b n = record { len = omega arith; starts = first.1; ends = ap (λ k. get_or b k 0) place ∙ eqb-true (get_or b (length b - 1) 0) 59 last.1 } in
    (take n (drop 1 b), (class_decides (take n (drop 1 b))).0 named.1, named_split b n ends)

get_last : (xs : List ℕ) (x n : ℕ) → n ≡ length xs → get_or (xs ++ x ∷ []) n 0 ≡ x
get_last [] x n e = ap (λ k. get_or (x ∷ []) k 0) e
get_last (y ∷ xs) x zero e = absurd (omega arith)
get_last (y ∷ xs) x (suc n) e = get_last xs x n (omega arith)

class_type_test : (b : List ℕ) → IsClassType b → is_class_type_text b ≡ true
class_type_test b (name, named, is) =
    let written : List ℕ = 76 ∷ (name ++ 59 ∷ []) in
    let len : length written ≡ length name + 2 = omega (arith, length-append name (59 ∷ [])) in
    let inside : take (length written - 2) (name ++ 59 ∷ []) ≡ name = take_at name (59 ∷ []) (length written - 2) (omega arith) in
    let last : get_or written (length written - 1) 0 ≡ 59 = ap (λ k. get_or written k 0) (let e : length written - 1 ≡ suc (length name) = omega arith in e) ∙ get_last name 59 (length name) refl in
    ap is_class_type_text is
    ∙ and_from (leb 2 (length written) && begins_with 76 written && eqb (get_or written (length written - 1) 0) 59) (is_class_text (take (length written - 2) (name ++ 59 ∷ [])))
    (and_from (leb 2 (length written) && begins_with 76 written) (eqb (get_or written (length written - 1) 0) 59)
    (and_from (leb 2 (length written)) (begins_with 76 written) (le-leb 2 (length written) (omega arith)) refl)
    (eq-eqb (get_or written (length written - 1) 0) 59 last))
    (ap is_class_text inside ∙ (class_decides name).1 named)

element_fact : (b : List ℕ) → is_element_text b ≡ true → IsElementType b
element_fact b e =
    elim (or_cases (list_any (λ letter. same_bytes b (letter ∷ [])) base_types) (is_class_type_text b) e) [
      | inl base ↦ inl (base_fact b base)
      | inr named ↦ inr (class_type_fact b named)
    ]

element_test : (b : List ℕ) → IsElementType b → is_element_text b ≡ true
element_test b (inl base) = or_left _ _ (base_test b base)
element_test b (inr named) = or_right _ _ (class_type_test b named)

-- ---- fields

-- a value that a test lets through
chosen : {A : Type 0} (test : Bool) (o : Option A) (x : A) → cond test o None ≡ Some x → (test ≡ true) × (o ≡ Some x)
chosen true o x e = (refl, e)
chosen false o x e = absurd cc

-- the field type that the bytes in front give
abbrev type_read : List ℕ → FieldType
type_read b = record { dims = leading_dims b; element = drop (leading_dims b) b }

field_fact : (b : List ℕ) (t : FieldType) → field_type_of b ≡ Some t → IsField b t
unfolding field_type_of
field_fact b t e =
    let d = leading_dims b in
    let kept = chosen (leb d 255 && is_element_text (drop d b)) (Some (type_read b)) t e in
    let parts = and_parts (leb d 255) (is_element_text (drop d b)) kept.0 in
    subst (IsField b) (same_Some (type_read b) t kept.1) (record {
      few = leb-true d 255 parts.0;
      element = element_fact (drop d b) parts.1;
      text = (leads b).text;
    })

field_test : (b : List ℕ) (t : FieldType) → IsField b t → field_type_of b ≡ Some t
unfolding field_type_of
field_test b t field =
    let d = leading_dims b in
    let same = field_parts b d (drop d b) t (leads b).text (leads b).starts field in
    let few : leb d 255 ≡ true = le-leb d 255 (omega (arith, same.0, field.few)) in
    let element : is_element_text (drop d b) ≡ true = ap is_element_text same.1 ∙ element_test t.element field.element in
    cond-true (leb d 255 && is_element_text (drop d b)) (Some (type_read b)) None (and_from _ _ few element)
    ∙ ap (λ n. Some (record { dims = n; element = drop d b })) same.0 ∙ ap (λ xs. Some (record { dims = t.dims; element = xs })) same.1

pub field_decides : (b : List ℕ) (t : FieldType) → ((field_type_of b ≡ Some t) → IsField b t) × (IsField b t → (field_type_of b ≡ Some t))
field_decides b t = (field_fact b t, field_test b t)

field_text_fact : (b : List ℕ) → is_field_text b ≡ true → IsFieldDescriptor b
field_text_fact b e = let type = is_some_of (field_type_of b) e in (type.0, field_fact b type.0 type.1)

field_text_test : (b : List ℕ) → IsFieldDescriptor b → is_field_text b ≡ true
field_text_test b (type, field) = ap is_some (field_test b type field)

-- ---- results

result_fact : (b : List ℕ) (r : Option (List ℕ)) → result_of b ≡ Some r → IsResult b r
result_fact b r e =
    elim (cases_Bool (same_bytes b (codes "V"))) [
      | inl hit ↦
          let void : None ≡ r = same_Some None r (sym (cond-true (same_bytes b (codes "V")) (Some None) (cond (is_field_text b) (Some (Some b)) None) hit) ∙ e) in
          subst (IsResult b) void (record { field = tt; text = (bytes_eq-Decides b (codes "V")).0 hit })
      | inr miss ↦
          let kept = chosen (is_field_text b) (Some (Some b)) r (sym (cond-false (same_bytes b (codes "V")) (Some None) (cond (is_field_text b) (Some (Some b)) None) miss) ∙ e) in
          subst (IsResult b) (same_Some (Some b) r kept.1) (record { field = field_text_fact b kept.0; text = refl })
    ]

not_void : (b : List ℕ) → IsFieldDescriptor b → same_bytes b (codes "V") ≡ false
not_void b field = false_from_ne_true (same_bytes b (codes "V")) (λ same. void_is_none (subst IsFieldDescriptor ((bytes_eq-Decides b (codes "V")).0 same) field))

-- a written result is read again
result_test : (r : Option (List ℕ)) → IfSome r IsFieldDescriptor → result_of (result_text r) ≡ Some r
result_test None field = refl
result_test (Some b) field =
    cond-false (same_bytes b (codes "V")) (Some None) (cond (is_field_text b) (Some (Some b)) None) (not_void b field)
    ∙ cond-true (is_field_text b) (Some (Some b)) None (field_text_test b field)

-- ---- methods

params_fact : (params : List (List ℕ)) → are_params params ≡ true → AreParams params
params_fact params e =
    let parts = and_parts (list_all is_field_text params) (leb (sum_by slots_of params) 255) e in
    record {
      each = All-from_recursion IsFieldDescriptor params (all_fact is_field_text IsFieldDescriptor field_text_fact params parts.0);
      few = leb-true (sum_by slots_of params) 255 parts.1;
    }

params_test : (params : List (List ℕ)) → AreParams params → are_params params ≡ true
params_test params are =
    and_from _ _ (all_test is_field_text IsFieldDescriptor field_text_test params (recursion_from_All IsFieldDescriptor params are.each)) (le-leb (sum_by slots_of params) 255 are.few)

-- the fields in front are a front of the text
fields_front : (fuel : ℕ) (b : List ℕ) → (rest : List ℕ) × (b ≡ concat (fields_within fuel b) ++ rest)
fields_front zero b = (b, refl)
fields_front (suc fuel) b = by_len (λ n. fields_front fuel (drop n b)) (field_len b)
  where
    by_len : ((n : ℕ) → (rest : List ℕ) × (drop n b ≡ concat (fields_within fuel (drop n b)) ++ rest)) → (o : Option ℕ)
        → (rest : List ℕ) × (b ≡ concat (option_map_or (λ n. take n b ∷ fields_within fuel (drop n b)) o []) ++ rest)
    by_len behind None = (b, refl)
    by_len behind (Some n) =
        let split = behind n in
        (split.0, sym (take-append-drop n b) ∙ ap (λ xs. take n b ++ xs) split.1 ∙ sym (append_assoc (take n b) (concat (fields_within fuel (drop n b))) split.0))

fields_split : (b : List ℕ) → b ≡ concat (fields_of b) ++ drop (length (concat (fields_of b))) b
unfolding fields_of
fields_split b =
    let front = concat (fields_of b) in
    let split = fields_front (length b) b in
    let behind : drop (length front) b ≡ split.0 = ap (drop (length front)) split.1 ∙ drop_at front split.0 (length front) refl in
    split.1 ∙ ap (λ xs. front ++ xs) (sym behind)

-- what stands behind `(`
abbrev behind_params : List ℕ → List ℕ
behind_params inner = drop (length (concat (fields_of inner))) inner

inner_fact : (b inner : List ℕ) (t : MethodType) → b ≡ 40 ∷ inner → type_with (fields_of inner) (behind_params inner) ≡ Some t → IsMethod b t
inner_fact b inner t at e =
    let ps = fields_of inner in
    let behind = behind_params inner in
    let type_of : Option (List ℕ) → MethodType = λ r. record { params = ps; result = r } in
    let kept = chosen (are_params ps && begins_with 41 behind) (option_map type_of (result_of (drop 1 behind))) t e in
    let parts = and_parts (are_params ps) (begins_with 41 behind) kept.0 in
    let found = map_some (result_of (drop 1 behind)) type_of t kept.1 in
    let params = params_fact ps parts.0 in
    let close = begins_fact 41 behind parts.1 in
    let written = result_fact (drop 1 behind) found.0 found.1 in
    subst (IsMethod b) found.2 (record {
      params = params.each;
      result = written.field;
      few = params.few;
      text = at ∙ ap (λ b. 40 ∷ b) (fields_split inner ∙ ap (λ b. concat ps ++ b) (close ∙ ap (λ b. 41 ∷ b) written.text) ∙ sym (append_assoc (concat ps) (41 ∷ []) (result_text found.0)));
    })

method_fact : (b : List ℕ) (t : MethodType) → method_type_of b ≡ Some t → IsMethod b t
unfolding method_type_of
method_fact b t e =
    let kept = chosen (begins_with 40 b) (type_with (fields_of (drop 1 b)) (behind_params (drop 1 b))) t e in
    inner_fact b (drop 1 b) t (begins_fact 40 b kept.0) kept.1

type_test : (params : List (List ℕ)) (result : Option (List ℕ)) → AreParams params → IfSome result IsFieldDescriptor
    → type_with params (41 ∷ result_text result) ≡ Some (record { params = params; result = result })
type_test params result are field =
    let type_of : Option (List ℕ) → MethodType = λ r. record { params = params; result = r } in
    cond-true (are_params params && true) (option_map type_of (result_of (result_text result))) None (and_from (are_params params) true (params_test params are) refl)
    ∙ ap (option_map type_of) (result_test result field)

inner_test : (inner : List ℕ) (t : MethodType) → IsMethod (40 ∷ inner) t → type_with (fields_of inner) (behind_params inner) ≡ Some t
inner_test inner t method =
    let ps = t.params in
    let params : fields_of inner ≡ ps = method_params inner t method in
    let split : inner ≡ concat ps ++ 41 ∷ result_text t.result = ap (drop 1) (method_split (40 ∷ inner) t method) in
    let behind : drop (length (concat ps)) inner ≡ 41 ∷ result_text t.result = ap (drop (length (concat ps))) split ∙ drop_at (concat ps) (41 ∷ result_text t.result) (length (concat ps)) refl in
    ap (λ qs. type_with qs (drop (length (concat qs)) inner)) params ∙ ap (type_with ps) behind ∙ type_test ps t.result (record { each = method.params; few = method.few }) method.result

method_test : (b : List ℕ) (t : MethodType) → IsMethod b t → method_type_of b ≡ Some t
unfolding method_type_of
method_test b t method =
    let inner : List ℕ = concat t.params ++ 41 ∷ result_text t.result in
    let at : b ≡ 40 ∷ inner = method_split b t method in
    ap method_type_of at ∙ inner_test inner t (subst (λ b. IsMethod b t) at method)

pub method_decides : (b : List ℕ) (t : MethodType) → ((method_type_of b ≡ Some t) → IsMethod b t) × (IsMethod b t → (method_type_of b ≡ Some t))
method_decides b t = (method_fact b t, method_test b t)

-- ---- what a reader gives

none_read : {A : Type 0} (P : A → Type 0) (o : Option A) → ((x : A) → (o ≡ Some x) → P x) → (((x : A) × P x) → ⊥) → None ≡ o
none_read P None sound none = refl
none_read P (Some x) sound none = absurd (none (x, sound x refl))

-- a reader that finds what stands there gives what a definition that decides it does
pub same_read : {A : Type 0} (P : A → Type 0) (found o : Option A) → ((is_some found ≡ true) → (x : A) × P x) × (((x : A) × P x) → (is_some found ≡ true)) → IfSome found P
    → ((x : A) → ((o ≡ Some x) → P x) × (P x → (o ≡ Some x))) → found ≡ o
same_read P None o some tree decides = none_read P o (λ x. (decides x).0) (λ any. false≢true (some.1 any))
same_read P (Some x) o some tree decides = sym ((decides x).1 tree)
