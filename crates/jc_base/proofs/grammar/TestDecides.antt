-- The test of signatures decides what is one.
use Rattle.std.proofs.Common.{◌≡◌, ◌≢◌, ℕ, zero, suc, ◌+◌, ◌*◌, ◌<◌, ◌≤◌, Bool, true, ◌&&◌, eqb, List, [], ◌∷◌, ◌++◌, length, get_or, take, drop, map, inl, inr, refl, sym, ap, subst, ◌∙◌, arith, length-append, zero-add}
use Rattle.std.specs.List.{AllByRecursion, Contains, list_any, range_with_len}
use Rattle.std.proofs.lemmas.Bool.{and_parts, and_from, or_cases, or_left, or_right, eqb-true, eq-eqb, false≢true}
use Rattle.std.proofs.lemmas.List.{drop_at, take_at, take-append-drop}
use Rattle.std.proofs.lemmas.List.Folds.{list_any_at}
use Rattle.std.proofs.lemmas.List.FromFn.{length-range_with_len, get_or-range_with_len}
use Rattle.jc_base.specs.declared.signatures.SigKind.{SigKind}
use Rattle.jc_base.specs.declared.signatures.SigKind.TheVariants as kind
use Rattle.jc_base.specs.Descriptors.{base_types}
use Rattle.jc_base.specs.DescriptorTests.{begins_with}
use Rattle.jc_base.specs.Signatures.{identifier_stops, Symbol, Mark, Identifier, Maybe, Many, ClassSignature, MethodSignature, Result, Throws, Thrown, JavaType, ReferenceType, TypeVariable, ClassType, Package, SimpleClass, Suffix, Arguments, Argument, Params, Param, Bound, Produces, absent, present, no_more, one_more, class_signature, method_signature, result_type, result_void, throws, thrown_class, thrown_variable, base_type, reference_type, class_reference, variable_reference, array_reference, type_variable, class_type, package_name, simple_class, suffix, arguments, any_type, exact_type, extends_type, super_type, params, param, bound, Derives, ends, reads, names, expands, IsIdentifier, IsSignature}
use Rattle.jc_base.specs.SignatureTests.{is_identifier, productions, derives_within, is_signature}
use Rattle.jc_base.proofs.Membership.{Has, has_from, from_has, has-map}
use Rattle.jc_base.proofs.texts.TestsDecide.{lacking_decides}

any_has : {X : Type 0} (p : X → Bool) (xs : List X) → list_any p xs ≡ true → (x : X) × Has xs x × (p x ≡ true)
any_has p [] e = absurd (false≢true e)
any_has p (x ∷ xs) e =
    elim (or_cases (p x) (list_any p xs) e) [
      | inl here ↦ (x, inl refl, here)
      | inr there ↦ let o = any_has p xs there in (o.0, inr o.1, o.2)
    ]

all_has : {X : Type 0} (P : X → Type 0) (xs : List X) (x : X) → AllByRecursion P xs → Has xs x → P x
all_has P [] x a h = absurd h
all_has P (y ∷ xs) x a (inl e) = subst P e a.0
all_has P (y ∷ xs) x a (inr h) = all_has P xs x a.1 h

has_any : {X : Type 0} (p : X → Bool) (xs : List X) (x : X) → Has xs x → p x ≡ true → list_any p xs ≡ true
has_any p [] x h e = absurd h
has_any p (y ∷ xs) x (inl same) e = or_left _ _ (ap p same ∙ e)
has_any p (y ∷ xs) x (inr h) e = or_right _ _ (has_any p xs x h e)

-- ---- the productions

base_types_produced : (letters : List ℕ) → ((c : ℕ) → Has letters c → Contains base_types c) → AllByRecursion (Produces JavaType) (map (λ (c : ℕ). Mark c ∷ []) letters)
base_types_produced [] h = tt
base_types_produced (c ∷ letters) h = (base_type c (h c (inl refl)), base_types_produced letters (λ x has. h x (inr has)))

productions_produced : (s : Symbol) → AllByRecursion (Produces s) (productions s)
productions_produced (Mark c) = tt
productions_produced Identifier = tt
productions_produced (Maybe s) = (absent s, (present s, tt))
productions_produced (Many s) = (no_more s, (one_more s, tt))
productions_produced ClassSignature = (class_signature, tt)
productions_produced MethodSignature = (method_signature, tt)
productions_produced Result = (result_type, (result_void, tt))
productions_produced Throws = (throws, tt)
productions_produced Thrown = (thrown_class, (thrown_variable, tt))
productions_produced JavaType = (reference_type, base_types_produced base_types (from_has base_types))
productions_produced ReferenceType = (class_reference, (variable_reference, (array_reference, tt)))
productions_produced TypeVariable = (type_variable, tt)
productions_produced ClassType = (class_type, tt)
productions_produced Package = (package_name, tt)
productions_produced SimpleClass = (simple_class, tt)
productions_produced Suffix = (suffix, tt)
productions_produced Arguments = (arguments, tt)
productions_produced Argument = (any_type, (exact_type, (extends_type, (super_type, tt))))
productions_produced Params = (params, tt)
productions_produced Param = (param, tt)
productions_produced Bound = (bound, tt)

has_production : (s : Symbol) (made : List Symbol) → Produces s made → Has (productions s) made
has_production _ _ (absent s) = inl refl
has_production _ _ (present s) = inr (inl refl)
has_production _ _ (no_more s) = inl refl
has_production _ _ (one_more s) = inr (inl refl)
has_production _ _ class_signature = inl refl
has_production _ _ method_signature = inl refl
has_production _ _ result_type = inl refl
has_production _ _ result_void = inr (inl refl)
has_production _ _ throws = inl refl
has_production _ _ thrown_class = inl refl
has_production _ _ thrown_variable = inr (inl refl)
has_production _ _ (base_type c has) = inr (has-map (λ (x : ℕ). Mark x ∷ []) base_types c (has_from base_types c has))
has_production _ _ reference_type = inl refl
has_production _ _ class_reference = inl refl
has_production _ _ variable_reference = inr (inl refl)
has_production _ _ array_reference = inr (inr (inl refl))
has_production _ _ type_variable = inl refl
has_production _ _ class_type = inl refl
has_production _ _ package_name = inl refl
has_production _ _ simple_class = inl refl
has_production _ _ suffix = inl refl
has_production _ _ arguments = inl refl
has_production _ _ any_type = inl refl
has_production _ _ exact_type = inr (inl refl)
has_production _ _ extends_type = inr (inr (inl refl))
has_production _ _ super_type = inr (inr (inr (inl refl)))
has_production _ _ params = inl refl
has_production _ _ param = inl refl
has_production _ _ bound = inl refl

-- ---- what the test finds is derived

begun : (c : ℕ) (b : List ℕ) → begins_with c b ≡ true → b ≡ c ∷ drop 1 b
begun c [] e = absurd (false≢true e)
begun c (x ∷ b) e = ap (λ y. y ∷ b) (eqb-true x c e)

test_derives : (n : ℕ) (owed : List Symbol) (b : List ℕ) → derives_within n owed b ≡ true → Derives owed b
unfolding derives_within
test_derives zero owed b e = absurd (false≢true e)
test_derives (suc n) [] [] e = ends
test_derives (suc n) [] (x ∷ b) e = absurd (omega (arith, eqb-true (length (x ∷ b)) 0 e))
test_derives (suc n) (Mark c ∷ owed) b e =
    let p = and_parts (begins_with c b) (derives_within n owed (drop 1 b)) e in
    subst (Derives (Mark c ∷ owed)) (sym (begun c b p.0)) (reads c owed (drop 1 b) (test_derives n owed (drop 1 b) p.1))
test_derives (suc n) (Identifier ∷ owed) b e =
    let o = any_has (λ k. is_identifier (take k b) && derives_within n owed (drop k b)) (range_with_len 0 (length b + 1)) e in
    let p = and_parts (is_identifier (take o.0 b)) (derives_within n owed (drop o.0 b)) o.2 in
    names (take o.0 b) owed b (drop o.0 b) ((lacking_decides identifier_stops (take o.0 b)).0 p.0) (sym (take-append-drop o.0 b)) (test_derives n owed (drop o.0 b) p.1)
test_derives (suc n) (s ∷ owed) b e =
    let o = any_has (λ made. derives_within n (made ++ owed) b) (productions s) e in
    expands s o.0 owed b (all_has (Produces s) (productions s) o.0 (productions_produced s) o.1) (test_derives n (o.0 ++ owed) b o.2)

-- ---- how many steps a derivation has

-- how many steps a symbol may take besides four for each byte that it reads
abbrev costs : Symbol → ℕ
costs (Maybe s) = 1 + costs s
costs (Many s) = 1
costs _ = 0

-- how many steps fewer than four for each byte that it reads a symbol takes at least
abbrev saves : Symbol → ℕ
saves (Maybe s) = 0
saves (Many s) = 0
saves (Mark c) = 3
saves Identifier = 3
saves ClassSignature = 1
saves MethodSignature = 3
saves Result = 1
saves Throws = 5
saves Thrown = 3
saves JavaType = 2
saves ReferenceType = 3
saves TypeVariable = 8
saves ClassType = 4
saves Package = 5
saves SimpleClass = 1
saves Suffix = 3
saves Arguments = 6
saves Argument = 2
saves Params = 7
saves Param = 3
saves Bound = 5

-- what is repeated within the symbol saves more than it costs
abbrev IsThrifty : Symbol → Type 0
IsThrifty (Maybe s) = IsThrifty s
IsThrifty (Many s) = (costs s < saves s) × IsThrifty s
IsThrifty _ = Unit {0}

abbrev all_cost : List Symbol → ℕ
all_cost [] = 0
all_cost (s ∷ ss) = costs s + all_cost ss

abbrev all_save : List Symbol → ℕ
all_save [] = 0
all_save (s ∷ ss) = saves s + all_save ss

abbrev AreThrifty : List Symbol → Type 0
AreThrifty [] = Unit {0}
AreThrifty (s ∷ ss) = IsThrifty s × AreThrifty ss

cost_append : (xs ys : List Symbol) → all_cost (xs ++ ys) ≡ all_cost xs + all_cost ys
cost_append [] ys = omega arith
cost_append (x ∷ xs) ys = omega (arith, cost_append xs ys)

save_append : (xs ys : List Symbol) → all_save (xs ++ ys) ≡ all_save xs + all_save ys
save_append [] ys = omega arith
save_append (x ∷ xs) ys = omega (arith, save_append xs ys)

thrifty_append : (xs ys : List Symbol) → AreThrifty xs → AreThrifty ys → AreThrifty (xs ++ ys)
thrifty_append [] ys p q = q
thrifty_append (x ∷ xs) ys p q = (p.0, thrifty_append xs ys p.1 q)

makes_thrifty : (s : Symbol) (made : List Symbol) → Produces s made → IsThrifty s → AreThrifty made × (1 + all_cost made + saves s ≤ costs s + all_save made)
makes_thrifty _ _ (absent s) p = (tt, omega arith)
makes_thrifty _ _ (present s) p = ((p, tt), omega arith)
makes_thrifty _ _ (no_more s) p = (tt, omega arith)
makes_thrifty _ _ (one_more s) p = ((p.1, (p, tt)), omega (arith, p.0))
makes_thrifty _ _ class_signature p = ((tt, (tt, ((omega arith, tt), tt))), omega arith)
makes_thrifty _ _ method_signature p = ((tt, (tt, ((omega arith, tt), (tt, (tt, ((omega arith, tt), tt)))))), omega arith)
makes_thrifty _ _ result_type p = ((tt, tt), omega arith)
makes_thrifty _ _ result_void p = ((tt, tt), omega arith)
makes_thrifty _ _ throws p = ((tt, (tt, tt)), omega arith)
makes_thrifty _ _ thrown_class p = ((tt, tt), omega arith)
makes_thrifty _ _ thrown_variable p = ((tt, tt), omega arith)
makes_thrifty _ _ (base_type c has) p = ((tt, tt), omega arith)
makes_thrifty _ _ reference_type p = ((tt, tt), omega arith)
makes_thrifty _ _ class_reference p = ((tt, tt), omega arith)
makes_thrifty _ _ variable_reference p = ((tt, tt), omega arith)
makes_thrifty _ _ array_reference p = ((tt, (tt, tt)), omega arith)
makes_thrifty _ _ type_variable p = ((tt, (tt, (tt, tt))), omega arith)
makes_thrifty _ _ class_type p = ((tt, ((omega arith, tt), (tt, ((omega arith, tt), (tt, tt))))), omega arith)
makes_thrifty _ _ package_name p = ((tt, (tt, tt)), omega arith)
makes_thrifty _ _ simple_class p = ((tt, (tt, tt)), omega arith)
makes_thrifty _ _ suffix p = ((tt, (tt, tt)), omega arith)
makes_thrifty _ _ arguments p = ((tt, (tt, ((omega arith, tt), (tt, tt)))), omega arith)
makes_thrifty _ _ any_type p = ((tt, tt), omega arith)
makes_thrifty _ _ exact_type p = ((tt, tt), omega arith)
makes_thrifty _ _ extends_type p = ((tt, (tt, tt)), omega arith)
makes_thrifty _ _ super_type p = ((tt, (tt, tt)), omega arith)
makes_thrifty _ _ params p = ((tt, (tt, ((omega arith, tt), (tt, tt)))), omega arith)
makes_thrifty _ _ param p = ((tt, (tt, (tt, ((omega arith, tt), tt)))), omega arith)
makes_thrifty _ _ bound p = ((tt, (tt, tt)), omega arith)

-- ---- what is derived the test finds

-- with so much fuel and with more
abbrev IsFound : ℕ → List Symbol → List ℕ → Type 0
IsFound k owed b = (n : ℕ) → k ≤ n → derives_within n owed b ≡ true

end_found : IsFound 1 [] []
unfolding derives_within
end_found zero le = absurd (omega arith)
end_found (suc n) le = refl

mark_found : (c k : ℕ) (owed : List Symbol) (b : List ℕ) → IsFound k owed b → IsFound (1 + k) (Mark c ∷ owed) (c ∷ b)
unfolding derives_within
mark_found c k owed b h zero le = absurd (omega arith)
mark_found c k owed b h (suc n) le = and_from (eqb c c) (derives_within n owed b) (eq-eqb c c refl) (h n (omega arith))

name_found : (k : ℕ) (name : List ℕ) (owed : List Symbol) (text rest : List ℕ) → IsIdentifier name → text ≡ name ++ rest → IsFound k owed rest → IsFound (1 + k) (Identifier ∷ owed) text
unfolding derives_within
name_found k name owed text rest is split h zero le = absurd (omega arith)
name_found k name owed text rest is split h (suc n) le =
    let i = length name in
    let test : (ℕ → Bool) = λ j. is_identifier (take j text) && derives_within n owed (drop j text) in
    let front : take i text ≡ name = ap (take i) split ∙ take_at name rest i refl in
    let behind : drop i text ≡ rest = ap (drop i) split ∙ drop_at name rest i refl in
    let within : i < length (range_with_len 0 (length text + 1)) = omega (arith, length-range_with_len 0 (length text + 1), ap length split, length-append name rest) in
    let place : get_or (range_with_len 0 (length text + 1)) i 0 ≡ i = get_or-range_with_len 0 (length text + 1) i 0 (omega (arith, within, length-range_with_len 0 (length text + 1))) ∙ zero-add i in
    let here : test i ≡ true = and_from _ _ (ap is_identifier front ∙ (lacking_decides identifier_stops name).1 is) (ap (derives_within n owed) behind ∙ h n (omega arith)) in
    list_any_at test (range_with_len 0 (length text + 1)) i 0 within (ap test place ∙ here)

expanded_found : (s : Symbol) (k : ℕ) (made owed : List Symbol) (b : List ℕ) → Produces s made → IsFound k (made ++ owed) b → IsFound (1 + k) (s ∷ owed) b
unfolding derives_within
expanded_found s k made owed b makes h zero le = absurd (omega arith)
expanded_found (Mark c) k made owed b makes h (suc n) le = elim makes [ ]
expanded_found Identifier k made owed b makes h (suc n) le = elim makes [ ]
expanded_found s k made owed b makes h (suc n) le =
    has_any (λ (m : List Symbol). derives_within n (m ++ owed) b) (productions s) made (has_production s made makes) (h n (omega arith))

nonempty : (name : List ℕ) → name ≢ [] → 0 < length name
nonempty [] h = absurd (h refl)
nonempty (x ∷ name) h = omega arith

derived_found : (owed : List Symbol) (b : List ℕ) → Derives owed b → AreThrifty owed → (k : ℕ) × (k + all_save owed ≤ 4 * length b + all_cost owed + 1) × IsFound k owed b
derived_found _ _ ends p = (1, omega arith, end_found)
derived_found _ _ (reads c owed b d) p =
    let r = derived_found owed b d p.1 in
    (1 + r.0, omega (arith, r.1), mark_found c r.0 owed b r.2)
derived_found _ _ (names name owed text rest is split d) p =
    let r = derived_found owed rest d p.1 in
    (1 + r.0, omega (arith, r.1, ap length split, length-append name rest, nonempty name is.1), name_found r.0 name owed text rest is split r.2)
derived_found _ _ (expands s made owed b makes d) p =
    let fit = makes_thrifty s made makes p.0 in
    let r = derived_found (made ++ owed) b d (thrifty_append made owed fit.0 p.1) in
    (1 + r.0, omega (arith, r.1, fit.1, cost_append made owed, save_append made owed), expanded_found s r.0 made owed b makes r.2)

derived_by_test : (owed : Symbol) (b : List ℕ) → IsThrifty owed → costs owed < saves owed → Derives (owed ∷ []) b → derives_within (4 * length b) (owed ∷ []) b ≡ true
derived_by_test s b p less d = let r = derived_found (s ∷ []) b d (p, tt) in r.2 (4 * length b) (omega (arith, r.1))

signature_found : (k : SigKind) (b : List ℕ) → IsSignature k b → is_signature k b ≡ true
unfolding is_signature
signature_found kind.Class b d = derived_by_test ClassSignature b tt (omega arith) d
signature_found kind.Method b d = derived_by_test MethodSignature b tt (omega arith) d
signature_found kind.Field b d = derived_by_test ReferenceType b tt (omega arith) d

found_signature : (k : SigKind) (b : List ℕ) → is_signature k b ≡ true → IsSignature k b
unfolding is_signature
found_signature k b e = test_derives (4 * length b) _ b e

pub signature_decides : (k : SigKind) (b : List ℕ) → ((is_signature k b ≡ true) → IsSignature k b) × (IsSignature k b → (is_signature k b ≡ true))
signature_decides k b = (found_signature k b, signature_found k b)
