-- Reading the parameters of a method descriptor from left to right.
use Rattle.std.proofs.Common.{◌≡◌, ℕ, ◌≢◌, ◌+◌, ◌-◌, ◌<◌, ◌≤◌, ◌||◌, codes, Option, List, [], ◌∷◌, ◌++◌, length, take, drop, sum_by, None, refl, sym, ap, ◌∙◌, subst, arith, append_assoc, length-append}
use Rattle.std.specs.List.{All, concat}
use Rattle.std.proofs.lemmas.Bool.{cond_both}
use Rattle.std.proofs.lemmas.List.{append-nil, take_at}
use Rattle.std.proofs.lemmas.List.Elements.{recursion_from_All, All-append, All-nil, All-cons, All-tail, All-head}
use Rattle.std.proofs.lemmas.List.Folds.{concat-append}
use Rattle.std.proofs.lemmas.List.Sums.{sum_by-append}
use Rattle.jc_base.specs.Bytes.{same_bytes}
use Rattle.jc_base.specs.Descriptors.{IsFieldDescriptor, slots_of, result_text, IsMethod, IsMethodDescriptor}
use Rattle.jc_base.specs.FieldsInFront.{field_len, fields_of}
use Rattle.jc_base.specs.inside.MethodParts.{HasInFront, AreParams, ReadsParams, IsResult}
use Rattle.jc_base.proofs.types.FieldsInFront.{nothing_ends, fields_in_front, method_params, after_params, fields_end, fields_step}

-- these parameters were read off the front of the text, and these bytes are left
pub record HasReadParams (text : List ℕ) (slots : ℕ) (rest : List ℕ) : Type 0 where
  pub done : List (List ℕ)
  pub each : All IsFieldDescriptor done
  pub few : slots ≤ 255
  pub taken : slots ≡ sum_by slots_of done
  pub split : text ≡ concat done ++ rest
  pub all_fields : fields_of text ≡ done ++ fields_of rest

pub none_read : (text : List ℕ) → HasReadParams text 0 text
none_read text = record { done = []; each = All-nil IsFieldDescriptor; few = omega arith; taken = refl; split = refl; all_fields = refl }

pub one_more_read : (text : List ℕ) (slots : ℕ) (rest param after : List ℕ) → HasReadParams text slots rest → HasInFront rest param after → IsFieldDescriptor param → slots + slots_of param ≤ 255
    → HasReadParams text (slots + slots_of param) after
one_more_read text slots rest param after read front field few = record {
  done = read.done ++ param ∷ [];
  each = All-append IsFieldDescriptor read.done (param ∷ []) read.each (All-cons IsFieldDescriptor param [] field (All-nil IsFieldDescriptor));
  few = few;
  taken = ap (λ n. n + slots_of param) read.taken ∙ omega (arith, sum_by-append slots_of read.done (param ∷ []));
  split = read.split ∙ ap (λ b. concat read.done ++ b) front.split ∙ sym (append_assoc (concat read.done) param after)
      ∙ ap (λ b. b ++ after) (sym (concat-append read.done (param ∷ []) ∙ ap (λ b. concat read.done ++ b) (append-nil param)));
  all_fields = read.all_fields ∙ ap (λ ps. read.done ++ ps) (fields_step rest param after front) ∙ sym (append_assoc read.done (param ∷ []) (fields_of after));
}

pub all_params_read : (text : List ℕ) (slots : ℕ) (rest : List ℕ) → HasReadParams text slots rest → field_len rest ≡ None → ReadsParams text slots rest
all_params_read text slots rest read none =
    let done : fields_of text ≡ read.done = read.all_fields ∙ ap (λ ps. read.done ++ ps) (fields_end rest none) ∙ append-nil read.done in
    record {
      each = subst (All IsFieldDescriptor) (sym done) read.each;
      few = read.few;
      taken = read.taken ∙ ap (sum_by slots_of) (sym done);
      split = read.split ∙ ap (λ ps. concat ps ++ rest) (sym done);
    }

middle : (P : List ℕ → Type 0) (xs : List (List ℕ)) (x : List ℕ) (ys : List (List ℕ)) → All P (xs ++ x ∷ ys) → P x
middle P [] x ys all = All-head P x ys all
middle P (y ∷ xs) x ys all = middle P xs x ys (All-tail P y (xs ++ x ∷ ys) all)

-- the next one is a parameter, and there is room for it
pub next_param : (text : List ℕ) (slots : ℕ) (rest param after : List ℕ) → HasReadParams text slots rest → HasInFront rest param after → AreParams (fields_of text)
    → IsFieldDescriptor param × (slots + slots_of param ≤ 255)
next_param text slots rest param after read front params =
    let fields : fields_of text ≡ read.done ++ (param ∷ fields_of after) = read.all_fields ∙ ap (λ ps. read.done ++ ps) (fields_step rest param after front) in
    let each = subst (All IsFieldDescriptor) fields params.each in
    let sums = sum_by-append slots_of read.done (param ∷ fields_of after) in
    let sum : sum_by slots_of (fields_of text) ≡ sum_by slots_of (read.done ++ (param ∷ fields_of after)) = ap (sum_by slots_of) fields in
    let one : sum_by slots_of (param ∷ fields_of after) ≡ 0 + slots_of param + sum_by slots_of (fields_of after) = sum_by-append slots_of (param ∷ []) (fields_of after) in
    let few : sum_by slots_of (fields_of text) ≤ 255 = params.few in
    let taken : slots ≡ sum_by slots_of read.done = read.taken in
    (middle IsFieldDescriptor read.done param (fields_of after) each, omega arith)

takes_slots : (param : List ℕ) → 0 < slots_of param
takes_slots param = cond_both (same_bytes param (codes "J") || same_bytes param (codes "D")) 2 1 (λ n. 0 < n) (λ _. omega arith) (λ _. omega arith)

-- there are no more parameters than slots
params_within_slots : (params : List (List ℕ)) → length params ≤ sum_by slots_of params
params_within_slots [] = omega arith
params_within_slots (param ∷ params) =
    let sum : sum_by slots_of (param ∷ params) ≡ 0 + slots_of param + sum_by slots_of params = sum_by-append slots_of (param ∷ []) params in
    omega (arith, takes_slots param, params_within_slots params, sum)

pub at_most_255 : (params : List (List ℕ)) → AreParams params → length params ≤ 255
at_most_255 params are = omega (arith, params_within_slots params, are.few)

-- ---- the whole descriptor

-- what was read, cut out of the text, has the same descriptors in front
pub params_cut : (inner rest : List ℕ) (slots : ℕ) → ReadsParams inner slots rest → fields_of (take (length inner - length rest) inner) ≡ fields_of inner
params_cut inner rest slots read =
    let ps = fields_of inner in
    let len : length inner ≡ length (concat ps) + length rest = ap length read.split ∙ length-append (concat ps) rest in
    let cut : take (length inner - length rest) inner ≡ concat ps =
    ap (take (length inner - length rest)) read.split ∙ take_at (concat ps) rest (length inner - length rest) (omega arith) in
    ap fields_of (cut ∙ sym (append-nil (concat ps))) ∙ fields_in_front ps [] (recursion_from_All IsFieldDescriptor ps read.each) nothing_ends

pub method_read : (text inner rest after : List ℕ) (slots : ℕ) (result : Option (List ℕ)) → text ≡ 40 ∷ inner → ReadsParams inner slots rest → rest ≡ 41 ∷ after → IsResult after result
    → IsMethod text (record { params = fields_of (take (length inner - length rest) inner); result = result })
method_read text inner rest after slots result at read close written =
    let few : slots ≤ 255 = read.few in
    let taken : slots ≡ sum_by slots_of (fields_of inner) = read.taken in
    let ps = fields_of inner in
    let whole : IsMethod text (record { params = ps; result = result }) = record {
      params = read.each;
      result = written.field;
      few = omega arith;
      text = at ∙ ap (λ b. 40 ∷ b) (read.split ∙ ap (λ b. concat ps ++ b) (close ∙ ap (λ b. 41 ∷ b) written.text) ∙ sym (append_assoc (concat ps) (41 ∷ []) (result_text result)));
    } in
    subst (λ qs. IsMethod text (record { params = qs; result = result })) (sym (params_cut inner rest slots read)) whole

pub cut_params : (inner rest : List ℕ) (slots : ℕ) → ReadsParams inner slots rest
    → AreParams (fields_of (take (length inner - length rest) inner)) × (slots ≡ sum_by slots_of (fields_of (take (length inner - length rest) inner)))
cut_params inner rest slots read =
    let same = sym (params_cut inner rest slots read) in
    let taken : slots ≡ sum_by slots_of (fields_of inner) = read.taken in
    let few : slots ≤ 255 = read.few in
    let params : AreParams (fields_of inner) = record { each = read.each; few = omega arith } in
    (subst AreParams same params, taken ∙ ap (sum_by slots_of) same)

pub no_params : (text inner : List ℕ) → text ≡ 40 ∷ inner → ¬ AreParams (fields_of inner) → IsMethodDescriptor text → ⊥
no_params text inner at none (type, method) =
    let same = method_params inner type (subst (λ b. IsMethod b type) at method) in
    none (subst AreParams (sym same) (record { each = method.params; few = method.few }))

pub no_close : (text inner rest : List ℕ) (slots : ℕ) → text ≡ 40 ∷ inner → ReadsParams inner slots rest → ((after : List ℕ) → rest ≢ 41 ∷ after) → IsMethodDescriptor text → ⊥
no_close text inner rest slots at read none (type, method) =
    none (result_text type.result) (after_params inner rest type read.split (subst (λ b. IsMethod b type) at method))

pub no_result : (text inner rest after : List ℕ) (slots : ℕ) → text ≡ 40 ∷ inner → ReadsParams inner slots rest → rest ≡ 41 ∷ after → ((r : Option (List ℕ)) → ¬ IsResult after r) → IsMethodDescriptor text → ⊥
no_result text inner rest after slots at read close none (type, method) =
    let follows = after_params inner rest type read.split (subst (λ b. IsMethod b type) at method) in
    none type.result (record { field = method.result; text = ap (drop 1) (sym close ∙ follows) })
