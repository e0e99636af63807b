-- What the tests of constants decide.
use Rattle.std.proofs.Common.{◌≡◌, ◌≢◌, ℕ, ◌+◌, ◌-◌, ◌<◌, ◌≤◌, Bool, true, false, cond, eqb, ltb, List, [], ◌∷◌, length, get_or, Option, Some, None, is_some, refl, sym, ap, ◌∙◌, arith, inl, inr, subst, codes}
use Rattle.std.specs.Bool.{Decides}
use Rattle.std.specs.List.{Contains}
use Rattle.std.specs.Option.{option_map_or}
use Rattle.std.proofs.lemmas.Bool.{false≢true, cases_eq, cases_lt, eq-eqb, ne_eqb, eqb-true, le-ltb, lt-ltb, ltb-true, cond-true, cond-false}
use Rattle.jc_base.specs.Endian.{big_number}
use Rattle.jc_base.specs.Descriptors.{MethodType, IsMethod}
use Rattle.jc_base.specs.DescriptorTests.{begins_with, method_type_of}
use Rattle.jc_view.specs.declared.constant_pool.ConstantIndex.{ConstantIndex}
use Rattle.jc_view.specs.declared.constant_pool.ConstantKind.TheVariants as kinds
use Rattle.jc_view.specs.ConstantPool as pool
use Rattle.jc_view.specs.ConstantPool.{Constant}
use Rattle.jc_view.specs.ClassFile.{ClassFile, Attribute, all_slots, slots, constant_at, constant_from_first}
use Rattle.jc_view.specs.Lookups.{utf8_at}
use Rattle.jc_file.specs.Faults.{constants_with}
use Rattle.jc_file.specs.FormatRules.{returns_value, lacks_member_entries, breaks_f1, breaks_f2, breaks_f3, breaks_f4, fails_beside, breaks_f5, breaks_f6, breaks_f7, fits_handle, breaks_f8, is_wrong_name, breaks_f9, breaks_f10, declared_count, is_declared, breaks_f11}
use Rattle.jc_view.specs.Attributes.{bootstrap_attributes}
use Rattle.jc_file.specs.Violations.{IsEntry, ReturnsValue, LacksMemberEntries, BreaksF1, BreaksF2, BreaksF3, BreaksF4, MisfitsName, BreaksF5, BreaksF6, IsBracketed, BreaksF7, FitsHandle, BreaksF8, IsNameAmiss, BreaksF9, BreaksF10, Tells, BreaksF11, AtConstant}
use Rattle.jc_file.proofs.violations.Lookups.{TextsDecided, kind_decided, entry_decided, has_text, other_text, spelled_decided, field_decided, method_decided, array_decided, gives_name, gives_descriptor, refers_to, other_descriptor, same_text, never}
use Rattle.jc_file.proofs.violations.Decisions.{like, neg, both, either, all_three, all_four, one_of_four, equal, below, at_most, has, has_by, has_no, passing_has, fits_found}

-- ---- texts and indexes

lacks_member_decided : (c : ClassFile) (class entry : ConstantIndex) → Decides (lacks_member_entries c class entry) (LacksMemberEntries c class entry)
lacks_member_decided c class entry = either (neg (entry_decided c kinds.Class class)) (neg (entry_decided c kinds.NameAndType entry))

pub f1_decided : (c : ClassFile) (entry : Constant) → Decides (breaks_f1 c entry) (BreaksF1 c entry)
f1_decided c (pool.Class name) = neg (entry_decided c kinds.Utf8 name)
f1_decided c (pool.String text) = neg (entry_decided c kinds.Utf8 text)
f1_decided c (pool.Fieldref class entry) = lacks_member_decided c class entry
f1_decided c (pool.Methodref class entry) = lacks_member_decided c class entry
f1_decided c (pool.InterfaceMethodref class entry) = lacks_member_decided c class entry
f1_decided c (pool.NameAndType name descriptor) = either (neg (entry_decided c kinds.Utf8 name)) (neg (entry_decided c kinds.Utf8 descriptor))
f1_decided c (pool.MethodType descriptor) = neg (entry_decided c kinds.Utf8 descriptor)
f1_decided c (pool.InvokeDynamic bootstrap entry) = neg (entry_decided c kinds.NameAndType entry)
f1_decided c constant = never

-- ---- usable indexes

slots_some : (constant : Constant) → 1 ≤ slots constant
slots_some constant = cond_some (_)
  where
    cond_some : (b : Bool) → 1 ≤ cond b 2 1
    cond_some true = omega arith
    cond_some false = omega arith

behind_slots : (constant : Constant) (constants : List Constant) (i : ℕ) → slots constant ≤ i → constant_from_first (constant ∷ constants) i ≡ constant_from_first constants (i - slots constant)
behind_slots constant constants i le =
    let some = slots_some constant in
    cond-false (eqb i 0) (Some constant) (cond (ltb i (slots constant)) None (constant_from_first constants (i - slots constant))) (ne_eqb i 0 (λ e. omega arith))
    ∙ cond-false (ltb i (slots constant)) None (constant_from_first constants (i - slots constant)) (le-ltb i (slots constant) le)

-- an entry stands within the slots
within_slots : (constants : List Constant) (i : ℕ) (entry : Constant) → constant_from_first constants i ≡ Some entry → i < all_slots constants
within_slots [] i entry e = absurd cc
within_slots (constant ∷ constants) i entry e =
    elim (cases_lt i (slots constant)) [
      | inl lt ↦ omega arith
      | inr le ↦
          let lt : i - slots constant < all_slots constants = within_slots constants (i - slots constant) entry (sym (behind_slots constant constants i le) ∙ e) in
          omega arith
    ]

pub usable_within : (c : ClassFile) (k : ℕ) (entry : Constant) → IsEntry c (record { 0 = k }) entry → (1 ≤ k) × (k < 1 + all_slots c.constants)
usable_within c k entry e =
    elim (cases_eq k 0) [
      | inl first ↦ absurd (let none : constant_at c (record { 0 = k }) ≡ None = cond-true (eqb k 0) None (constant_from_first c.constants (k - 1)) (eq-eqb k 0 first) in let some = e in cc)
      | inr apart ↦
          let there : constant_from_first c.constants (k - 1) ≡ Some entry = sym (cond-false (eqb k 0) None (constant_from_first c.constants (k - 1)) (ne_eqb k 0 apart)) ∙ e in
          let lt = within_slots c.constants (k - 1) entry there in
          (omega (arith, apart), omega (arith, apart))
    ]

-- the indexes of the constants that pass
pub constants_decided : (c : ClassFile) (test : Constant → Bool) (Breaks : Constant → Type 0) → ((entry : Constant) → Decides (test entry) (Breaks entry)) → (k : ℕ)
    → (Contains (constants_with c test) k → AtConstant Breaks c k) × (AtConstant Breaks c k → Contains (constants_with c test) k)
constants_decided c test Breaks each k =
    passing_has (λ n. option_map_or test (constant_at c (record { 0 = n })) false) 1 (all_slots c.constants) k (AtConstant Breaks c k) (has_by each (constant_at c (record { 0 = k })))
    (λ h. usable_within c k h.0 h.1)

pub f2_decided : (tests : TextsDecided) (c : ClassFile) (entry : Constant) → Decides (breaks_f2 c entry) (BreaksF2 c entry)
f2_decided tests c (pool.Utf8 text) = spelled_decided tests text
f2_decided tests c constant = never

pub f3_decided : (tests : TextsDecided) (c : ClassFile) (entry : Constant) → Decides (breaks_f3 c entry) (BreaksF3 c entry)
f3_decided tests c (pool.Class name) = other_text c (λ text. either (tests.class text) (array_decided tests text)) name
f3_decided tests c constant = never

pub f4_decided : (tests : TextsDecided) (c : ClassFile) (entry : Constant) → Decides (breaks_f4 c entry) (BreaksF4 c entry)
f4_decided tests c (pool.NameAndType name descriptor) = other_text c (λ text. either (field_decided tests text) (method_decided tests text)) descriptor
f4_decided tests c constant = never

beside_decided : (tests : TextsDecided) (c : ClassFile) (name : ConstantIndex) (descriptor : List ℕ) → Decides (fails_beside descriptor (utf8_at c name)) (MisfitsName c name descriptor)
beside_decided tests c name descriptor =
    either (both (field_decided tests descriptor) (other_text c tests.unqualified name)) (both (method_decided tests descriptor) (other_text c tests.method_name name))

pub f5_decided : (tests : TextsDecided) (c : ClassFile) (entry : Constant) → Decides (breaks_f5 c entry) (BreaksF5 c entry)
f5_decided tests c (pool.NameAndType name descriptor) = has_text c (beside_decided tests c name) descriptor
f5_decided tests c constant = never

pub f6_decided : (tests : TextsDecided) (c : ClassFile) (entry : Constant) → Decides (breaks_f6 c entry) (BreaksF6 c entry)
f6_decided tests c (pool.Fieldref class entry) = other_descriptor c (field_decided tests) entry
f6_decided tests c (pool.Methodref class entry) = other_descriptor c (method_decided tests) entry
f6_decided tests c (pool.InterfaceMethodref class entry) = other_descriptor c (method_decided tests) entry
f6_decided tests c (pool.InvokeDynamic bootstrap entry) = other_descriptor c (method_decided tests) entry
f6_decided tests c constant = never

bracketed_decided : (name : List ℕ) → Decides (begins_with 60 name) (IsBracketed name)
bracketed_decided [] = (λ e. absurd (false≢true e), λ h. absurd (let e = h.1 in cc))
bracketed_decided (first ∷ rest) = (λ e. (rest, ap (λ x. x ∷ rest) (eqb-true first 60 e)), λ h. eq-eqb first 60 (ap (λ xs. get_or xs 0 0) h.1))

result_decided : (type : MethodType) → Decides (is_some type.result) (type.result ≢ None)
result_decided type = by type.result
  where
    by : (r : Option (List ℕ)) → Decides (is_some r) (r ≢ None)
    by None = (λ e. absurd (false≢true e), λ h. absurd (h refl))
    by (Some x) = (λ e. λ is. absurd cc, λ h. refl)

returns_decided : (tests : TextsDecided) (text : List ℕ) → Decides (returns_value text) (ReturnsValue text)
returns_decided tests text = fits_found (method_type_of text) (IsMethod text) (tests.method text) result_decided

pub f7_decided : (tests : TextsDecided) (c : ClassFile) (entry : Constant) → Decides (breaks_f7 c entry) (BreaksF7 c entry)
f7_decided tests c (pool.Methodref class entry) =
    gives_name c (λ name. both (bracketed_decided name) (either (neg (same_text name (codes "<init>"))) (gives_descriptor c (returns_decided tests) entry))) entry
f7_decided tests c constant = never

-- ---- handles

handle_decided : (major kind : ℕ) (entry : Constant) → Decides (fits_handle major kind entry) (FitsHandle major kind entry)
handle_decided major kind entry = one_of_four
    (all_three (at_most 1 kind) (at_most kind 4) (kind_decided kinds.Fieldref entry))
    (all_three (at_most 5 kind) (at_most kind 8) (kind_decided kinds.Methodref entry))
    (all_four (at_most 6 kind) (at_most kind 7) (at_most 52 major) (kind_decided kinds.InterfaceMethodref entry))
    (both (equal kind 9) (kind_decided kinds.InterfaceMethodref entry))

pub f8_decided : (c : ClassFile) (entry : Constant) → Decides (breaks_f8 c entry) (BreaksF8 c entry)
f8_decided c (pool.MethodHandle kind reference) = has_no (handle_decided c.major kind) (constant_at c reference)
f8_decided c constant = never

amiss_decided : (kind : ℕ) (name : List ℕ) → Decides (is_wrong_name kind name) (IsNameAmiss kind name)
amiss_decided kind name = either
    (both (equal kind 8) (neg (same_text name (codes "<init>"))))
    (both (either (both (at_most 5 kind) (at_most kind 7)) (equal kind 9)) (either (same_text name (codes "<init>")) (same_text name (codes "<clinit>"))))

pub f9_decided : (c : ClassFile) (entry : Constant) → Decides (breaks_f9 c entry) (BreaksF9 c entry)
f9_decided c (pool.MethodHandle kind reference) = has (λ entry. both (handle_decided c.major kind entry) (refers_to c (amiss_decided kind) entry)) (constant_at c reference)
f9_decided c constant = never

pub f10_decided : (tests : TextsDecided) (c : ClassFile) (entry : Constant) → Decides (breaks_f10 c entry) (BreaksF10 c entry)
f10_decided tests c (pool.MethodType descriptor) = other_text c (method_decided tests) descriptor
f10_decided tests c constant = never

-- ---- bootstrap methods

tells_decided : (a : Attribute) (number : ℕ) → Decides (ltb number (declared_count a)) (Tells a number)
tells_decided a number =
    elim (cases_lt (length a.bytes) 2) [
      | inl short ↦
          let none : declared_count a ≡ 0 = cond-true (ltb (length a.bytes) 2) 0 (big_number 2 a.bytes) (lt-ltb (length a.bytes) 2 short) in
          (λ e. let lt = ltb-true number (declared_count a) e in absurd (omega (arith, none)), λ h. absurd (let le = h.0 in omega arith))
      | inr long ↦
          let count : declared_count a ≡ big_number 2 a.bytes = cond-false (ltb (length a.bytes) 2) 0 (big_number 2 a.bytes) (le-ltb (length a.bytes) 2 long) in
          like (λ lt. (long, subst (λ n. number < n) count lt)) (λ h. subst (λ n. number < n) (sym count) h.1) (below number (declared_count a))
    ]

-- the only element is so
abbrev IsOnly : List Attribute → ℕ → Type 0
IsOnly told number = (a : Attribute) × (told ≡ a ∷ []) × Tells a number

only_decided : (told : List Attribute) (number : ℕ) → Decides (is_declared told number) (IsOnly told number)
only_decided [] number = (λ e. absurd (false≢true e), λ h. absurd (let e = ap length h.1 in omega (arith, e)))
only_decided (a ∷ []) number =
    like (λ h. (a, refl, h)) (λ h. subst (λ x. Tells x number) (ap (λ xs. get_or xs 0 a) (sym h.1)) h.2) (tells_decided a number)
only_decided (a ∷ b ∷ told) number = (λ e. absurd (false≢true e), λ h. absurd (let e = ap length h.1 in omega (arith, e)))

pub f11_decided : (c : ClassFile) (entry : Constant) → Decides (breaks_f11 c entry) (BreaksF11 c entry)
f11_decided c (pool.InvokeDynamic bootstrap entry) = neg (only_decided (bootstrap_attributes c) bootstrap)
f11_decided c constant = never
