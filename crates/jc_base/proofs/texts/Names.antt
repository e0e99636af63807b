-- The names of classes, fields and methods, and the tests that decide them.
use Rattle.std.proofs.Common.{◌≡◌, ◌≢◌, ℕ, ◌<◌, Bool, true, false, eqb, List, [], ◌∷◌, length, get_or, MatchBool, ◌⊎◌, codes, not, inl, inr, zero, suc, refl, sym, ap, ◌∙◌, subst, arith, lit<}
use Rattle.std.specs.List.{list_all, list_any, All, AllByRecursion, AllWithin, HoldsAt, Contains, slice_split, join_with_byte}
use Rattle.std.proofs.lemmas.Bool.{false≢true, ne_eqb, eq-eqb, and_parts, not-true}
use Rattle.std.proofs.lemmas.List.Folds.{list_any_at}
use Rattle.std.proofs.lemmas.List.Elements.{All-from_all_within, All-head, All-tail, All-nil, All-cons, All-weaker, recursion_from_All}
use Rattle.std.proofs.lemmas.List.Splits.{slice_split_none, slice_split_at, length-slice_split, join_with_byte-slice_split}
use Rattle.jc_base.specs.Names.{Lacks, name_stops, IsUnqualifiedName, IsMethodName, IsClassName}
use Rattle.jc_base.specs.ModifiedUtf8.{IsWellSpelled}
use Rattle.jc_base.proofs.texts.WellSpelledFronts.{append_spelled, is_ascii, ascii_spelled, slash_spelled}

-- what `all` answers, where the closure decides P
pub all_decides : {X : Type 0} (P : X → Type 0) (d : X) (r : Bool) (xs : List X) → MatchBool r (AllWithin P xs 0 (length xs)) ((k : ℕ) × (k < length xs) × HoldsAt (λ x. P x → ⊥) xs k) → (r ≡ true → All P xs) × (All P xs → r ≡ true)
all_decides P d true xs h = (λ _. All-from_all_within P xs h, λ _. refl)
all_decides P d false xs h = (λ e. absurd (false≢true e), λ all. absurd (h.2 d (all h.0 d h.1)))

lacks_slash : (b : List ℕ) → IsUnqualifiedName b → All (λ c. eqb c 47 ≡ false) b
lacks_slash b name = All-weaker (λ c. Contains name_stops c → ⊥) (λ c. eqb c 47 ≡ false) (λ c none. ne_eqb c 47 (λ e. none (3, lit< tt, sym e))) b name.2

split_join : (parts : List (List ℕ)) → parts ≢ [] → All IsUnqualifiedName parts → slice_split (λ b. eqb b 47) (join_with_byte 47 parts) ≡ parts
split_join [] some names = absurd (some refl)
split_join (x ∷ []) some names =
    slice_split_none (λ b. eqb b 47) x (lacks_slash x (All-head IsUnqualifiedName x [] names))
split_join (x ∷ y ∷ xs) some names =
    slice_split_at (λ b. eqb b 47) x 47 (join_with_byte 47 (y ∷ xs)) (lacks_slash x (All-head IsUnqualifiedName x (y ∷ xs) names)) refl
    ∙ ap (λ parts. x ∷ parts) (split_join (y ∷ xs) (λ e. cc) (All-tail IsUnqualifiedName x (y ∷ xs) names))

-- a class name is what gives unqualified names when it is cut at each `/`
pub class_name_by_split : (b : List ℕ) → (All IsUnqualifiedName (slice_split (λ c. eqb c 47) b) → IsClassName b) × (IsClassName b → All IsUnqualifiedName (slice_split (λ c. eqb c 47) b))
class_name_by_split b = (
  λ names. (slice_split (λ c. eqb c 47) b, (λ e. omega (arith, length-slice_split (λ c. eqb c 47) b, ap length e)), names, sym (join_with_byte-slice_split 47 b)),
  λ (parts, some, names, is). subst (All IsUnqualifiedName) (sym (ap (slice_split (λ c. eqb c 47)) is ∙ split_join parts some names)) names,
)

pub name_stop_ways : (c : ℕ) → Contains name_stops c → (c ≡ 46) ⊎ ((c ≡ 47) ⊎ ((c ≡ 59) ⊎ (c ≡ 91)))
name_stop_ways c (zero, within, is) = inl (sym is)
name_stop_ways c (suc zero, within, is) = inr (inr (inl (sym is)))
name_stop_ways c (suc (suc zero), within, is) = inr (inr (inr (sym is)))
name_stop_ways c (suc (suc (suc k)), within, is) = inr (inl (sym (ap (λ k. get_or name_stops (suc (suc (suc k))) c) (let e : k ≡ 0 = omega arith in sym e) ∙ is)))

pub name_stop_from : (c : ℕ) → (c ≡ 46) ⊎ ((c ≡ 47) ⊎ ((c ≡ 59) ⊎ (c ≡ 91))) → Contains name_stops c
name_stop_from c (inl e) = (0, lit< tt, sym e)
name_stop_from c (inr (inl e)) = (3, lit< tt, sym e)
name_stop_from c (inr (inr (inl e))) = (1, lit< tt, sym e)
name_stop_from c (inr (inr (inr e))) = (2, lit< tt, sym e)

-- ---- names are texts

joined_spelled : (parts : List (List ℕ)) → AllByRecursion IsUnqualifiedName parts → IsWellSpelled (join_with_byte 47 parts)
joined_spelled [] names = ([], (tt, refl))
joined_spelled (x ∷ []) names = names.0.0
joined_spelled (x ∷ y ∷ xs) names =
    append_spelled x (47 ∷ join_with_byte 47 (y ∷ xs)) names.0.0
    (append_spelled (47 ∷ []) (join_with_byte 47 (y ∷ xs)) slash_spelled (joined_spelled (y ∷ xs) names.1))

pub class_name_spelled : (b : List ℕ) → IsClassName b → IsWellSpelled b
class_name_spelled b (parts, some, names, is) =
    subst IsWellSpelled (sym is) (joined_spelled parts (recursion_from_All IsUnqualifiedName parts names))

pub method_name_spelled : (b : List ℕ) → IsMethodName b → IsWellSpelled b
method_name_spelled b (inl (inl is)) = subst IsWellSpelled (sym is) (ascii_spelled (codes "<init>") refl)
method_name_spelled b (inl (inr is)) = subst IsWellSpelled (sym is) (ascii_spelled (codes "<clinit>") refl)
method_name_spelled b (inr name) = name.0.0

-- ---- names by computation

not_contained : (characters : List ℕ) (c : ℕ) → list_any (λ s. eqb s c) characters ≡ false → Contains characters c → ⊥
not_contained characters c none (k, within, is) =
    false≢true (sym none ∙ list_any_at (λ s. eqb s c) characters k c within (eq-eqb (get_or characters k c) c is))

pub lacks_by_test : (b characters : List ℕ) → list_all (λ c. not (list_any (λ s. eqb s c) characters)) b ≡ true → Lacks b characters
lacks_by_test [] characters h = All-nil (λ c. Contains characters c → ⊥)
lacks_by_test (c ∷ b) characters h =
    let parts = and_parts (not (list_any (λ s. eqb s c) characters)) (list_all (λ c. not (list_any (λ s. eqb s c) characters)) b) h in
    All-cons (λ c. Contains characters c → ⊥) c b (not_contained characters c (not-true (list_any (λ s. eqb s c) characters) parts.0)) (lacks_by_test b characters parts.1)

pub name_by_test : (b : List ℕ) → 0 < length b → list_all is_ascii b ≡ true → list_all (λ c. not (list_any (λ s. eqb s c) name_stops)) b ≡ true → IsUnqualifiedName b
name_by_test b room ascii lacks = (ascii_spelled b ascii, (λ e. omega (arith, ap length e)), lacks_by_test b name_stops lacks)
