-- The tests of texts decide what they say.
use Rattle.std.proofs.Common.{◌≡◌, ◌≢◌, ℕ, zero, suc, ◌<◌, ◌≤◌, Bool, true, false, ◌&&◌, ◌||◌, not, eqb, List, [], ◌∷◌, ◌++◌, length, drop, Option, Some, None, option_and_then, option_map, is_some, refl, sym, ap, ◌∙◌, arith, inl, inr, subst, eq-eqb, codes}
use Rattle.std.specs.Prelude.{Contains}
use Rattle.std.specs.List.{AllByRecursion, list_all, list_any, slice_split}
use Rattle.std.proofs.lemmas.Option.{same_Some}
use Rattle.std.proofs.lemmas.Bool.{cases_Bool, eqb-true, ne_eqb, and_parts, and_from, or_cases, or_left, or_right, false≢true, false_from_ne_true}
use Rattle.std.proofs.lemmas.List.{drop_at, length-append}
use Rattle.std.proofs.lemmas.List.Elements.{recursion_from_All, All-from_recursion}
use Rattle.std.proofs.lemmas.Slice.Eq.{bytes_eq-Decides}
use Rattle.jc_base.specs.Bytes.{same_bytes}
use Rattle.jc_base.specs.FirstUnit.{first_unit}
use Rattle.jc_base.specs.ModifiedUtf8.{IsUnit, spelling, spelled, Spells, IsWellSpelled}
use Rattle.jc_base.specs.Names.{Lacks, name_stops, method_name_stops, IsUnqualifiedName, IsSpecialMethodName, IsMethodName, IsClassName}
use Rattle.jc_base.specs.TextTests.{units_within, units_of, has_none_of, is_unqualified_text, is_method_name_text, is_class_text}
use Rattle.jc_base.proofs.texts.FirstUnitIsSpelled.{first_found, found_first, spelling_takes_room}
use Rattle.jc_base.proofs.texts.Names.{class_name_by_split, lacks_by_test}

-- the value of a step that did not fail
then_some : {A B : Type 0} (o : Option A) (f : A → Option B) (y : B) → option_and_then f o ≡ Some y → (x : A) × (o ≡ Some x) × (f x ≡ Some y)
then_some None f y e = absurd cc
then_some (Some x) f y e = (x, refl, e)

pub map_some : {A B : Type 0} (o : Option A) (f : A → B) (y : B) → option_map f o ≡ Some y → (x : A) × (o ≡ Some x) × (f x ≡ y)
map_some None f y e = absurd cc
map_some (Some x) f y e = (x, refl, cc)

units_sound : (n : ℕ) (b us : List ℕ) → units_within n b ≡ Some us → Spells us b
unfolding units_within
units_sound n [] us e = subst (λ (vs : List ℕ). Spells vs []) (same_Some [] us e) (tt, refl)
units_sound zero (x ∷ xs) us e = absurd cc
units_sound (suc n) (x ∷ xs) us e =
    let a = then_some (first_unit (x ∷ xs)) (λ first. option_map (λ others. first.0 ∷ others) (units_within n (drop first.1 (x ∷ xs)))) us e in
    let m = map_some (units_within n (drop a.0.1 (x ∷ xs))) (λ others. a.0.0 ∷ others) us a.2 in
    let first = first_found (x ∷ xs) a.0.0 a.0.1 a.1 in
    let others = units_sound n (drop a.0.1 (x ∷ xs)) m.0 m.1 in
    let behind : drop a.0.1 (x ∷ xs) ≡ first.rest = ap (drop a.0.1) first.split ∙ drop_at (spelling a.0.0) first.rest a.0.1 (sym first.size) in
    let text : x ∷ xs ≡ spelling a.0.0 ++ spelled m.0 = first.split ∙ ap (λ (ys : List ℕ). spelling a.0.0 ++ ys) (sym behind ∙ others.1) in
    subst (λ (vs : List ℕ). Spells vs (x ∷ xs)) m.2 ((first.unit, others.0), text)

nonempty : (b : List ℕ) → 0 < length b → (x : ℕ) × (xs : List ℕ) × (b ≡ x ∷ xs)
nonempty [] lt = absurd (omega arith)
nonempty (x ∷ xs) lt = (x, xs, refl)

-- one unit at the front, and the units behind it
one_within : (n : ℕ) (b rest : List ℕ) (u : ℕ) (us : List ℕ) → b ≡ spelling u ++ rest → IsUnit u → units_within n rest ≡ Some us → units_within (suc n) b ≡ Some (u ∷ us)
unfolding units_within
one_within n b rest u us is unit others =
    let room : 0 < length b = omega (arith, ap length is, length-append (spelling u) rest, spelling_takes_room u) in
    let split = nonempty b room in
    let text : split.0 ∷ split.1 ≡ spelling u ++ rest = sym split.2 ∙ is in
    let first : first_unit (split.0 ∷ split.1) ≡ Some (u, length (spelling u)) = ap first_unit text ∙ found_first u rest unit in
    let behind : drop (length (spelling u)) (split.0 ∷ split.1) ≡ rest = ap (drop (length (spelling u))) text ∙ drop_at (spelling u) rest (length (spelling u)) refl in
    ap (units_within (suc n)) split.2 ∙ rw (first, behind, others) refl

units_complete : (us : List ℕ) (n : ℕ) → AllByRecursion IsUnit us → length (spelled us) ≤ n → units_within n (spelled us) ≡ Some us
unfolding units_within
units_complete [] n units le = refl
units_complete (u ∷ us) zero units le = absurd (omega (arith, length-append (spelling u) (spelled us), spelling_takes_room u))
units_complete (u ∷ us) (suc n) units le =
    one_within n (spelling u ++ spelled us) (spelled us) u us refl units.0 (units_complete us n units.1 (omega (arith, length-append (spelling u) (spelled us), spelling_takes_room u)))

pub units_decide : (b us : List ℕ) → ((units_of b ≡ Some us) → Spells us b) × (Spells us b → (units_of b ≡ Some us))
units_decide b us = (
  units_sound (length b) b us,
  λ spells. ap (λ (xs : List ℕ). units_within (length b) xs) spells.1 ∙ units_complete us (length b) spells.0 (omega (arith, ap length spells.1)),
)

-- ---- tests and facts

pub is_some_of : {A : Type 0} (o : Option A) → is_some o ≡ true → (x : A) × (o ≡ Some x)
is_some_of None e = absurd cc
is_some_of (Some x) e = (x, refl)

well_spelled : (b : List ℕ) → is_some (units_of b) ≡ true → IsWellSpelled b
well_spelled b e = let us = is_some_of (units_of b) e in (us.0, (units_decide b us.0).0 us.1)

well_spelled_test : (b : List ℕ) → IsWellSpelled b → is_some (units_of b) ≡ true
well_spelled_test b w = ap is_some ((units_decide b w.0).1 w.1)

any_stop : (c : ℕ) (stops : List ℕ) → list_any (λ s. eqb s c) stops ≡ true → Contains stops c
any_stop c [] e = absurd cc
any_stop c (s ∷ stops) e =
    elim (cases_Bool (eqb s c)) [
      | inl hit ↦ (0, omega arith, eqb-true s c hit)
      | inr miss ↦ let rest = any_stop c stops (let e' = e in let m = miss in rw m at e') in let within = rest.1 in (suc rest.0, omega arith, rest.2)
    ]

not_any : (c : ℕ) (stops : List ℕ) → (Contains stops c → ⊥) → not (list_any (λ s. eqb s c) stops) ≡ true
not_any c stops h =
    elim (cases_Bool (list_any (λ s. eqb s c) stops)) [
      | inl hit ↦ absurd (h (any_stop c stops hit))
      | inr miss ↦ ap not miss
    ]

not_empty : (b : List ℕ) → b ≢ [] → not (eqb (length b) 0) ≡ true
not_empty [] h = absurd (h refl)
not_empty (x ∷ b) h = ap not (ne_eqb (suc (length b)) 0 (λ e. absurd (omega arith)))

lacks_test : (b stops : List ℕ) → AllByRecursion (λ c. Contains stops c → ⊥) b → has_none_of stops b ≡ true
lacks_test [] stops h = refl
lacks_test (c ∷ b) stops h = and_from _ _ (not_any c stops h.0) (lacks_test b stops h.1)

has_none_from : (b stops : List ℕ) → Lacks b stops → has_none_of stops b ≡ true
has_none_from b stops h = lacks_test b stops (recursion_from_All (λ c. Contains stops c → ⊥) b h)

lacking_fact : (stops b : List ℕ) → is_some (units_of b) && (not (eqb (length b) 0) && has_none_of stops b) ≡ true → IsWellSpelled b × (b ≢ []) × Lacks b stops
lacking_fact stops b e =
    let w = and_parts (is_some (units_of b)) (not (eqb (length b) 0) && has_none_of stops b) e in
    let l = and_parts (not (eqb (length b) 0)) (has_none_of stops b) w.1 in
    (well_spelled b w.0, (λ nil. absurd (let none = eq-eqb (length b) 0 (ap length nil) in let some = l.0 in cc)), lacks_by_test b stops l.1)

lacking_test : (stops b : List ℕ) → IsWellSpelled b × (b ≢ []) × Lacks b stops → is_some (units_of b) && (not (eqb (length b) 0) && has_none_of stops b) ≡ true
lacking_test stops b h = and_from _ _ (well_spelled_test b h.0) (and_from _ _ (not_empty b h.1) (has_none_from b stops h.2))

-- a text that is not empty and has none of these characters
pub lacking_decides : (stops b : List ℕ) → ((is_some (units_of b) && (not (eqb (length b) 0) && has_none_of stops b) ≡ true) → IsWellSpelled b × (b ≢ []) × Lacks b stops) × (IsWellSpelled b × (b ≢ []) × Lacks b stops → (is_some (units_of b) && (not (eqb (length b) 0) && has_none_of stops b) ≡ true))
lacking_decides stops b = (lacking_fact stops b, lacking_test stops b)

unqualified_fact : (b : List ℕ) → is_unqualified_text b ≡ true → IsUnqualifiedName b
unqualified_fact = lacking_fact name_stops

unqualified_test : (b : List ℕ) → IsUnqualifiedName b → is_unqualified_text b ≡ true
unqualified_test = lacking_test name_stops

special_fact : (b : List ℕ) → same_bytes b (codes "<init>") || same_bytes b (codes "<clinit>") ≡ true → IsSpecialMethodName b
special_fact b e =
    elim (or_cases (same_bytes b (codes "<init>")) (same_bytes b (codes "<clinit>")) e) [
      | inl same ↦ inl ((bytes_eq-Decides b (codes "<init>")).0 same)
      | inr same ↦ inr ((bytes_eq-Decides b (codes "<clinit>")).0 same)
    ]

special_test : (b : List ℕ) → IsSpecialMethodName b → same_bytes b (codes "<init>") || same_bytes b (codes "<clinit>") ≡ true
special_test b (inl is) = or_left _ _ ((bytes_eq-Decides b (codes "<init>")).1 is)
special_test b (inr is) = or_right _ _ ((bytes_eq-Decides b (codes "<clinit>")).1 is)

method_name_fact : (b : List ℕ) → is_method_name_text b ≡ true → IsMethodName b
method_name_fact b e =
    elim (or_cases (same_bytes b (codes "<init>") || same_bytes b (codes "<clinit>")) (is_unqualified_text b && has_none_of method_name_stops b) e) [
      | inl special ↦ inl (special_fact b special)
      | inr plain ↦ let parts = and_parts (is_unqualified_text b) (has_none_of method_name_stops b) plain in inr (unqualified_fact b parts.0, lacks_by_test b method_name_stops parts.1)
    ]

method_name_test : (b : List ℕ) → IsMethodName b → is_method_name_text b ≡ true
method_name_test b (inl special) = or_left _ _ (special_test b special)
method_name_test b (inr (name, lacks)) = or_right _ _ (and_from _ _ (unqualified_test b name) (has_none_from b method_name_stops lacks))

pub all_fact : {X : Type 0} (p : X → Bool) (P : X → Type 0) → ((x : X) → p x ≡ true → P x) → (xs : List X) → list_all p xs ≡ true → AllByRecursion P xs
all_fact p P h [] e = tt
all_fact p P h (x ∷ xs) e = let b = and_parts (p x) (list_all p xs) e in (h x b.0, all_fact p P h xs b.1)

pub all_test : {X : Type 0} (p : X → Bool) (P : X → Type 0) → ((x : X) → P x → p x ≡ true) → (xs : List X) → AllByRecursion P xs → list_all p xs ≡ true
all_test p P h [] a = refl
all_test p P h (x ∷ xs) a = and_from (p x) (list_all p xs) (h x a.0) (all_test p P h xs a.1)

class_fact : (b : List ℕ) → is_class_text b ≡ true → IsClassName b
class_fact b e = (class_name_by_split b).0 (All-from_recursion IsUnqualifiedName (slice_split (λ c. eqb c 47) b) (all_fact is_unqualified_text IsUnqualifiedName unqualified_fact (slice_split (λ c. eqb c 47) b) e))

class_test : (b : List ℕ) → IsClassName b → is_class_text b ≡ true
class_test b h = all_test is_unqualified_text IsUnqualifiedName unqualified_test (slice_split (λ c. eqb c 47) b) (recursion_from_All IsUnqualifiedName (slice_split (λ c. eqb c 47) b) ((class_name_by_split b).1 h))

pub unqualified_decides : (b : List ℕ) → ((is_unqualified_text b ≡ true) → IsUnqualifiedName b) × (IsUnqualifiedName b → (is_unqualified_text b ≡ true))
unqualified_decides b = (unqualified_fact b, unqualified_test b)

pub class_decides : (b : List ℕ) → ((is_class_text b ≡ true) → IsClassName b) × (IsClassName b → (is_class_text b ≡ true))
class_decides b = (class_fact b, class_test b)

pub method_name_decides : (b : List ℕ) → ((is_method_name_text b ≡ true) → IsMethodName b) × (IsMethodName b → (is_method_name_text b ≡ true))
method_name_decides b = (method_name_fact b, method_name_test b)

pub spelled_decides : (b : List ℕ) → ((is_some (units_of b) ≡ true) → IsWellSpelled b) × (IsWellSpelled b → (is_some (units_of b) ≡ true))
spelled_decides b = (well_spelled b, well_spelled_test b)

-- two tests of one fact have one answer
pub same_answer : {P : Type 0} (a b : Bool) → ((a ≡ true) → P) × (P → (a ≡ true)) → ((b ≡ true) → P) × (P → (b ≡ true)) → a ≡ b
same_answer true b p q = sym (q.1 (p.0 refl))
same_answer false b p q = sym (false_from_ne_true b (λ e. false≢true (p.1 (q.0 e))))
