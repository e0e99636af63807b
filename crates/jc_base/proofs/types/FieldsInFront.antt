-- Field descriptors: their trees, and where one ends in front of other bytes.
use Rattle.std.proofs.Common.{◌≡◌, ◌≢◌, ℕ, ◌+◌, ◌<◌, ◌≤◌, Bool, true, false, cond, eqb, ltb, not, List, [], ◌∷◌, ◌++◌, length, get_or, take, drop, replicate, position, Option, Some, None, inl, inr, zero, suc, refl, sym, ap, ◌∙◌, subst, arith, lit<, append_assoc, length-append, length-drop}
use Rattle.std.specs.Option.{option_map, option_map_or, MatchOption}
use Rattle.std.specs.Borrow.{Bor}
use Rattle.std.specs.List.{list_any, AllByRecursion, Contains, position_or_len, join_with_byte, concat}
use Rattle.std.proofs.lemmas.Bool.{false≢true, ne_eqb, eq-eqb, lt-ltb}
use Rattle.std.proofs.lemmas.List.{take_at, drop_at, length-replicate, append_cancel_left}
use Rattle.std.proofs.lemmas.List.Folds.{list_any_at}
use Rattle.std.proofs.lemmas.List.Elements.{recursion_from_All, All-weaker}
use Rattle.jc_base.specs.Names.{name_stops, IsUnqualifiedName, IsClassName}
use Rattle.jc_base.specs.Descriptors.{base_types, IsElementType, FieldType, IsField, IsFieldDescriptor, MethodType, IsMethod, result_text}
use Rattle.jc_base.specs.inside.MethodParts.{HasInFront, IsResult}
use Rattle.jc_base.specs.FieldsInFront.{element_len, field_len, fields_within, fields_of}

pub single : (b : List ℕ) → length b ≡ 1 → b ≡ get_or b 0 0 ∷ []
single [] e = absurd (omega arith)
single (x ∷ []) e = refl
single (x ∷ y ∷ b) e = absurd (omega arith)

-- ---- trees

base_test : (c : ℕ) → Contains base_types c → list_any (λ b. eqb b c) base_types ≡ true
base_test c (k, within, is) = list_any_at (λ b. eqb b c) base_types k c within (eq-eqb (get_or base_types k c) c is)

pub no_base : (c d : ℕ) → list_any (λ b. eqb b d) base_types ≡ false → Contains base_types c → c ≢ d
no_base c d none has is = false≢true (sym none ∙ base_test d (subst (Contains base_types) is has))

pub element_starts : (e : List ℕ) → IsElementType e → get_or e 0 0 ≢ 91
element_starts e (inl (letter, has, is)) starts = no_base letter 91 refl has (sym (ap (λ b. get_or b 0 0) is) ∙ starts)
element_starts e (inr (name, named, is)) starts = let no : get_or e 0 0 ≡ 76 = ap (λ b. get_or b 0 0) is in omega arith

element_then : (e rest : List ℕ) → IsElementType e → get_or (e ++ rest) 0 0 ≢ 91
element_then e rest (inl (letter, has, is)) starts = no_base letter 91 refl has (sym (ap (λ b. get_or (b ++ rest) 0 0) is) ∙ starts)
element_then e rest (inr (name, named, is)) starts = let no : get_or (e ++ rest) 0 0 ≡ 76 = ap (λ b. get_or (b ++ rest) 0 0) is in omega arith

pub same_split : (m n : ℕ) (e f : List ℕ) → get_or e 0 0 ≢ 91 → get_or f 0 0 ≢ 91 → replicate m 91 ++ e ≡ replicate n 91 ++ f → (m ≡ n) × (e ≡ f)
same_split zero zero e f p q is = (refl, is)
same_split zero (suc n) e f p q is = absurd (p (ap (λ b. get_or b 0 0) is))
same_split (suc m) zero e f p q is = absurd (q (sym (ap (λ b. get_or b 0 0) is)))
same_split (suc m) (suc n) e f p q is = let same = same_split m n e f p q (ap (drop 1) is) in (ap suc same.0, same.1)

pub field_parts : (text : List ℕ) (dims : ℕ) (element : List ℕ) (type : FieldType) → text ≡ replicate dims 91 ++ element → get_or element 0 0 ≢ 91 → IsField text type → (dims ≡ type.dims) × (element ≡ type.element)
field_parts text dims element type is starts field =
    same_split dims type.dims element type.element starts (element_starts type.element field.element) (sym is ∙ field.text)

pub one_field : (b : List ℕ) (t u : FieldType) → IsField b t → IsField b u → t ≡ u
one_field b t u p q =
    let same = field_parts b t.dims t.element u p.text (element_starts t.element p.element) q in
    ap (λ d. record { dims = d; element = t.element }) same.0 ∙ ap (λ e. record { dims = u.dims; element = e }) same.1

pub parts_of : (text : List ℕ) (dims : ℕ) (element : List ℕ) → text ≡ replicate dims 91 ++ element → get_or element 0 0 ≢ 91 → IsFieldDescriptor text → (dims ≤ 255) × IsElementType element
parts_of text dims element is starts (type, field) =
    let same = field_parts text dims element type is starts field in
    (omega (arith, same.0, field.few), subst IsElementType (sym same.1) field.element)

pub name_between : (text rest : List ℕ) (r : Option (Bor (List ℕ))) → text ≡ 76 ∷ rest → MatchOption r ((front : List ℕ) → rest ≢ front ++ (59 ∷ [])) (λ x. rest ≡ x.now ++ (59 ∷ []))
    → MatchOption r ((name : List ℕ) → text ≢ 76 ∷ (name ++ 59 ∷ [])) (λ x. text ≡ 76 ∷ (x.now ++ 59 ∷ []))
name_between text rest None is none = λ name e. none name (ap (drop 1) (sym is ∙ e))
name_between text rest (Some x) is some = is ∙ ap (λ b. 76 ∷ b) some

-- ---- where a descriptor ends

lacks_semicolon : (b : List ℕ) → IsUnqualifiedName b → AllByRecursion (λ c. eqb c 59 ≡ false) b
lacks_semicolon b name =
    recursion_from_All (λ c. eqb c 59 ≡ false) b (All-weaker (λ c. Contains name_stops c → ⊥) (λ c. eqb c 59 ≡ false) (λ c none. ne_eqb c 59 (λ e. none (1, lit< tt, sym e))) b name.2)

all_append : (P : ℕ → Type 0) (xs ys : List ℕ) → AllByRecursion P xs → AllByRecursion P ys → AllByRecursion P (xs ++ ys)
all_append P [] ys p q = q
all_append P (x ∷ xs) ys p q = (p.0, all_append P xs ys p.1 q)

joined_lacks : (parts : List (List ℕ)) → AllByRecursion IsUnqualifiedName parts → AllByRecursion (λ c. eqb c 59 ≡ false) (join_with_byte 47 parts)
joined_lacks [] names = tt
joined_lacks (x ∷ []) names = lacks_semicolon x names.0
joined_lacks (x ∷ y ∷ xs) names =
    all_append (λ c. eqb c 59 ≡ false) x (47 ∷ join_with_byte 47 (y ∷ xs)) (lacks_semicolon x names.0) (refl, joined_lacks (y ∷ xs) names.1)

class_name_lacks : (b : List ℕ) → IsClassName b → AllByRecursion (λ c. eqb c 59 ≡ false) b
class_name_lacks b (parts, some, names, is) =
    subst (AllByRecursion (λ c. eqb c 59 ≡ false)) (sym is) (joined_lacks parts (recursion_from_All IsUnqualifiedName parts names))

first_semicolon : (name rest : List ℕ) → AllByRecursion (λ c. eqb c 59 ≡ false) name → position_or_len (λ c. eqb c 59) (name ++ 59 ∷ rest) ≡ length name
first_semicolon [] rest lacks = refl
first_semicolon (c ∷ name) rest lacks =
    ap (λ b. cond (not b) (1 + position_or_len (λ c. eqb c 59) (name ++ 59 ∷ rest)) 0) lacks.0 ∙ omega (arith, first_semicolon name rest lacks.1)

position_found : (p : ℕ → Bool) (xs : List ℕ) (n : ℕ) → position_or_len p xs ≡ n → n < length xs → position p xs ≡ Some n
position_found p xs n is within =
    ap (λ k. cond (ltb k (length xs)) (Some k) None) is ∙ ap (λ b. cond b (Some n) None) (lt-ltb n (length xs) within)

element_in_front : (e rest : List ℕ) → IsElementType e → element_len (e ++ rest) ≡ Some (length e)
unfolding element_len
element_in_front e rest (inl (letter, has, is)) =
    rw is (ap (λ b. cond b (option_map (λ n. 2 + n) (position (λ c. eqb c 59) rest)) (cond (list_any (λ c. eqb c letter) base_types) (Some 1) None)) (ne_eqb letter 76 (no_base letter 76 refl has))
    ∙ ap (λ b. cond b (Some 1) None) (base_test letter has))
element_in_front e rest (inr (name, named, is)) =
    let split : name ++ 59 ∷ [] ++ rest ≡ name ++ (59 ∷ rest) = append_assoc name (59 ∷ []) rest in
    let found = position_found (λ c. eqb c 59) (name ++ 59 ∷ rest) (length name) (first_semicolon name rest (class_name_lacks name named)) (omega (arith, length-append name (59 ∷ rest))) in
    let len : length e ≡ 2 + length name = omega (arith, ap length is, length-append name (59 ∷ [])) in
    ap (λ b. element_len (b ++ rest)) is ∙ ap (λ b. option_map (λ n. 2 + n) (position (λ c. eqb c 59) b)) split ∙ ap (option_map (λ n. 2 + n)) found ∙ ap Some (sym len)

map_nothing : (o : Option ℕ) → o ≡ option_map (λ n. 0 + n) o
map_nothing None = refl
map_nothing (Some n) = ap Some (omega arith)

map_twice : (d : ℕ) (o : Option ℕ) → option_map (λ n. 1 + n) (option_map (λ n. d + n) o) ≡ option_map (λ n. suc d + n) o
map_twice d None = refl
map_twice d (Some n) = ap Some (omega arith)

pub len_after_dims : (d : ℕ) (e : List ℕ) → get_or e 0 0 ≢ 91 → field_len (replicate d 91 ++ e) ≡ option_map (λ n. d + n) (element_len e)
unfolding field_len element_len
len_after_dims zero [] starts = refl
len_after_dims zero (c ∷ e) starts =
    ap (λ b. cond b (option_map (λ n. 1 + n) (field_len e)) (element_len (c ∷ e))) (ne_eqb c 91 starts) ∙ map_nothing (element_len (c ∷ e))
len_after_dims (suc d) e starts = ap (option_map (λ n. 1 + n)) (len_after_dims d e starts) ∙ map_twice d (element_len e)

pub field_in_front : (f rest : List ℕ) → IsFieldDescriptor f → field_len (f ++ rest) ≡ Some (length f)
field_in_front f rest (type, field) =
    let starts : get_or (type.element ++ rest) 0 0 ≢ 91 = element_then type.element rest field.element in
    let len : length f ≡ type.dims + length type.element = ap length field.text ∙ length-append (replicate type.dims 91) type.element ∙ ap (λ n. n + length type.element) (length-replicate type.dims 91) in
    ap (λ b. field_len (b ++ rest)) field.text ∙ ap field_len (append_assoc (replicate type.dims 91) type.element rest) ∙ len_after_dims type.dims (type.element ++ rest) starts
    ∙ ap (option_map (λ n. type.dims + n)) (element_in_front type.element rest field.element) ∙ ap Some (sym len)

-- ---- descriptors in front, one after another

mapped_some : (k : ℕ) (o : Option ℕ) (n : ℕ) → option_map (λ m. k + m) o ≡ Some n → k ≤ n
mapped_some k None n e = absurd (cc)
mapped_some k (Some m) n e = let same : k + m ≡ n = cc in omega arith

choice : (b : Bool) (x y : Option ℕ) (n : ℕ) → ((m : ℕ) → x ≡ Some m → 0 < m) → ((m : ℕ) → y ≡ Some m → 0 < m) → cond b x y ≡ Some n → 0 < n
choice true x y n p q e = p n e
choice false x y n p q e = q n e

element_takes_some : (b : List ℕ) (n : ℕ) → element_len b ≡ Some n → 0 < n
unfolding element_len
element_takes_some b n e =
    choice (eqb (get_or b 0 0) 76) (option_map (λ n. 2 + n) (position (λ c. eqb c 59) (drop 1 b))) (cond (list_any (λ c. eqb c (get_or b 0 0)) base_types) (Some 1) None) n
    (λ m is. omega (arith, mapped_some 2 (position (λ c. eqb c 59) (drop 1 b)) m is))
    (λ k. choice (list_any (λ c. eqb c (get_or b 0 0)) base_types) (Some 1) None k (λ m is. let same : 1 ≡ m = cc in omega arith) (λ m is. absurd (cc))) e

field_takes_some : (b : List ℕ) (n : ℕ) → field_len b ≡ Some n → 0 < n
unfolding field_len
field_takes_some [] n e = absurd (cc)
field_takes_some (c ∷ b) n e =
    choice (eqb c 91) (option_map (λ n. 1 + n) (field_len b)) (element_len (c ∷ b)) n (λ m is. omega (arith, mapped_some 1 (field_len b) m is)) (element_takes_some (c ∷ b)) e

-- more fuel than bytes changes nothing
more_fuel : (f g : ℕ) (b : List ℕ) → length b ≤ f → length b ≤ g → fields_within f b ≡ fields_within g b
unfolding field_len
more_fuel zero zero b p q = refl
more_fuel zero (suc g) [] p q = refl
more_fuel zero (suc g) (c ∷ b) p q = absurd (omega arith)
more_fuel (suc f) zero [] p q = refl
more_fuel (suc f) zero (c ∷ b) p q = absurd (omega arith)
more_fuel (suc f) (suc g) b p q = by_len (λ n. more_fuel f g (drop n b)) (field_len b) refl
  where
    by_len : ((n : ℕ) → length (drop n b) ≤ f → length (drop n b) ≤ g → fields_within f (drop n b) ≡ fields_within g (drop n b)) → (o : Option ℕ) → field_len b ≡ o → option_map_or (λ n. take n b ∷ fields_within f (drop n b)) o [] ≡ option_map_or (λ n. take n b ∷ fields_within g (drop n b)) o []
    by_len less None is = refl
    by_len less (Some n) is =
        let some : 0 < n = field_takes_some b n is in
        let left = length-drop n b in
        ap (λ rest. take n b ∷ rest) (less n (omega arith) (omega arith))

pub fields_end : (b : List ℕ) → field_len b ≡ None → fields_of b ≡ []
unfolding fields_of
fields_end [] none = refl
fields_end (c ∷ b) none = ap (λ o. option_map_or (λ n. take n (c ∷ b) ∷ fields_within (length b) (drop n (c ∷ b))) o []) none

fields_cut : (b : List ℕ) (n : ℕ) → field_len b ≡ Some n → fields_of b ≡ take n b ∷ fields_of (drop n b)
unfolding fields_of field_len
fields_cut [] n some = absurd (cc)
fields_cut (c ∷ b) n some =
    let takes : 0 < n = field_takes_some (c ∷ b) n some in
    let left = length-drop n (c ∷ b) in
    ap (λ o. option_map_or (λ n. take n (c ∷ b) ∷ fields_within (length b) (drop n (c ∷ b))) o []) some
    ∙ ap (λ rest. take n (c ∷ b) ∷ rest) (more_fuel (length b) (length (drop n (c ∷ b))) (drop n (c ∷ b)) (omega arith) (omega arith))

pub fields_step : (text first rest : List ℕ) → HasInFront text first rest → fields_of text ≡ first ∷ fields_of rest
fields_step text first rest front =
    fields_cut text (length first) front.len
    ∙ ap (λ b. take (length first) b ∷ fields_of (drop (length first) b)) front.split
    ∙ ap (λ b. b ∷ fields_of (drop (length first) (first ++ rest))) (take_at first rest (length first) refl)
    ∙ ap (λ b. first ∷ fields_of b) (drop_at first rest (length first) refl)

field_some : (f : List ℕ) → IsFieldDescriptor f → 0 < length f
field_some f field = field_takes_some (f ++ []) (length f) (field_in_front f [] field)

pub fields_in_front : (ps : List (List ℕ)) (rest : List ℕ) → AllByRecursion IsFieldDescriptor ps → field_len rest ≡ None → fields_of (concat ps ++ rest) ≡ ps
fields_in_front [] rest each none = fields_end rest none
fields_in_front (p ∷ ps) rest each none =
    let split : concat (p ∷ ps) ++ rest ≡ p ++ (concat ps ++ rest) = append_assoc p (concat ps) rest in
    fields_step (concat (p ∷ ps) ++ rest) p (concat ps ++ rest) (record { some = field_some p each.0; len = ap field_len split ∙ field_in_front p (concat ps ++ rest) each.0; split = split })
    ∙ ap (λ qs. p ∷ qs) (fields_in_front ps rest each.1 none)

-- ---- methods

pub nothing_ends : field_len [] ≡ None
unfolding field_len
nothing_ends = refl

close_ends : (b : List ℕ) → field_len (41 ∷ b) ≡ None
unfolding field_len element_len
close_ends b = refl

pub void_is_none : IsFieldDescriptor (86 ∷ []) → ⊥
unfolding field_len element_len
void_is_none field = let no : field_len (86 ∷ []) ≡ None = refl in let yes = field_in_front (86 ∷ []) [] field in absurd (cc)

pub method_split : (b : List ℕ) (type : MethodType) → IsMethod b type → b ≡ 40 ∷ (concat type.params ++ 41 ∷ result_text type.result)
method_split b type method = method.text ∙ ap (λ b. 40 ∷ b) (append_assoc (concat type.params) (41 ∷ []) (result_text type.result))

-- the parameters are the descriptors in front of what follows `(`
pub method_params : (inner : List ℕ) (type : MethodType) → IsMethod (40 ∷ inner) type → fields_of inner ≡ type.params
method_params inner type method =
    ap fields_of (ap (drop 1) (method_split (40 ∷ inner) type method))
    ∙ fields_in_front type.params (41 ∷ result_text type.result) (recursion_from_All IsFieldDescriptor type.params method.params) (close_ends (result_text type.result))

pub one_result : (b : List ℕ) (r s : Option (List ℕ)) → IsResult b r → IsResult b s → r ≡ s
one_result b None None p q = refl
one_result b (Some x) None p q = absurd (void_is_none (subst IsFieldDescriptor (sym p.text ∙ q.text) p.field))
one_result b None (Some y) p q = absurd (void_is_none (subst IsFieldDescriptor (sym q.text ∙ p.text) q.field))
one_result b (Some x) (Some y) p q = ap Some (sym p.text ∙ q.text)

pub after_params : (inner rest : List ℕ) (type : MethodType) → inner ≡ concat (fields_of inner) ++ rest → IsMethod (40 ∷ inner) type → rest ≡ 41 ∷ result_text type.result
after_params inner rest type split method =
    append_cancel_left (concat type.params) rest (41 ∷ result_text type.result)
    (ap (λ ps. concat ps ++ rest) (sym (method_params inner type method)) ∙ sym split ∙ ap (drop 1) (method_split (40 ∷ inner) type method))

one_type : (inner : List ℕ) (t u : MethodType) → IsMethod (40 ∷ inner) t → IsMethod (40 ∷ inner) u → t ≡ u
one_type inner t u p q =
    let of_t = method_params inner t p in
    let params : t.params ≡ u.params = sym of_t ∙ method_params inner u q in
    let split : inner ≡ concat (fields_of inner) ++ 41 ∷ result_text t.result =
    ap (drop 1) (method_split (40 ∷ inner) t p) ∙ ap (λ ps. concat ps ++ 41 ∷ result_text t.result) (sym of_t) in
    let results : result_text t.result ≡ result_text u.result = ap (drop 1) (after_params inner (41 ∷ result_text t.result) u split q) in
    let same = one_result (result_text t.result) t.result u.result (record { field = p.result; text = refl }) (record { field = q.result; text = results }) in
    ap (λ ps. record { params = ps; result = t.result }) params ∙ ap (λ r. record { params = u.params; result = r }) same

pub one_method : (b : List ℕ) (t u : MethodType) → IsMethod b t → IsMethod b u → t ≡ u
one_method b t u p q =
    let at : b ≡ 40 ∷ (concat t.params ++ 41 ∷ result_text t.result) = method_split b t p in
    one_type (concat t.params ++ 41 ∷ result_text t.result) t u (subst (λ c. IsMethod c t) at p) (subst (λ c. IsMethod c u) at q)

pub length_after_dims : (text : List ℕ) (dims : ℕ) (element : List ℕ) → text ≡ replicate dims 91 ++ element → length text ≡ dims + length element
length_after_dims text dims element is = ap length is ∙ length-append (replicate dims 91) element ∙ ap (λ n. n + length element) (length-replicate dims 91)
