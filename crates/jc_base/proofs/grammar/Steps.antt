-- What a step leaves of a text.
use Rattle.std.proofs.Common.{◌≡◌, ◌≢◌, ℕ, List, [], ◌∷◌, ◌++◌, length, drop, Option, Some, None, refl, sym, ap, ◌∙◌, subst, arith, lit<, length-append}
use Rattle.std.specs.Option.{option_map}
use Rattle.std.specs.List.{Contains}
use Rattle.std.proofs.lemmas.List.Elements.{All-head, All-tail, All-nil}
use Rattle.jc_base.specs.declared.signatures.Owed.{Owed}
use Rattle.jc_base.specs.declared.signatures.Owed.TheVariants as entry
use Rattle.jc_base.specs.declared.signatures.After.{After}
use Rattle.jc_base.specs.declared.signatures.Step.{Step}
use Rattle.jc_base.specs.Names.{Lacks}
use Rattle.jc_base.specs.Signatures.{identifier_stops, Symbol, Mark, Identifier, Maybe, Many, ReferenceType, Package, SimpleClass, Suffix, Arguments, Param, Bound, absent, present, no_more, one_more, bound, Derives, reads, expands}
use Rattle.jc_base.specs.inside.Owed.{both_before, Leaves, Refuses, GivesAfter, IsStop, IsCut, BeginsWithName, BeginsWithNoName, EndsAtColon, GivesNamed, GivesRest, GivesStep}
use Rattle.jc_base.proofs.grammar.WaysToDerive.{mark_of, maybe_of, many_of, reference_of, bound_of, simple_class_of, package_of, param_of, identifier_of}
use Rattle.jc_base.proofs.grammar.Identifiers.{run_of, mark_some, mark_stops, name_end_stops, name_end_refuses, semicolon_stops, slash_stops, colon_stops, bracket_stops}

-- ---- a text whose first byte is known

pub byte_gives : (symbols : List Symbol) (text : List ℕ) (c : ℕ) (rest : List ℕ) (answer : Option After) → text ≡ c ∷ rest → GivesAfter symbols c answer → GivesRest symbols text rest answer
byte_gives symbols text c rest None is h = λ owed d. h owed rest (subst (Derives (symbols ++ owed)) is d)
byte_gives symbols text c rest (Some after) is h = record {
  less = omega (arith, ap length is);
  same = λ owed. (
    λ d. (h owed rest).0 (subst (Derives (symbols ++ owed)) is d),
    λ d. subst (Derives (symbols ++ owed)) (sym is) ((h owed rest).1 d),
  );
}

-- ---- a text with an identifier in front

pub named_gives : (symbols : List Symbol) (text : List ℕ) (c : ℕ) (rest : List ℕ) (entry : Option (Option Owed)) → BeginsWithName text c rest → GivesNamed symbols c entry → GivesRest symbols text rest (option_map (λ e. record { 0 = e; 1 = None }) entry)
named_gives symbols text c rest None named h = λ owed d. h owed text rest named d
named_gives symbols text c rest (Some entry) named h = record {
  less = omega (arith, ap length named.cut.split, length-append named.name (c ∷ rest));
  same = λ owed. h owed text rest named;
}

pub variable_name_needs_name : (text : List ℕ) → BeginsWithNoName text → (owed : List Symbol) → Derives (Identifier ∷ Mark 59 ∷ owed) text → ⊥
variable_name_needs_name text none owed d = none (Mark 59 ∷ owed) (mark_stops 59 owed semicolon_stops) d

pub simple_name_needs_name : (text : List ℕ) → BeginsWithNoName text → (owed : List Symbol) → Derives (SimpleClass ∷ Many Suffix ∷ Mark 59 ∷ owed) text → ⊥
simple_name_needs_name text none owed d =
    none (Maybe Arguments ∷ Many Suffix ∷ Mark 59 ∷ owed) (name_end_stops owed) (simple_class_of (Many Suffix ∷ Mark 59 ∷ owed) text d)

pub class_name_needs_name : (text : List ℕ) → BeginsWithNoName text → (owed : List Symbol) → Derives (Many Package ∷ SimpleClass ∷ Many Suffix ∷ Mark 59 ∷ owed) text → ⊥
class_name_needs_name text none owed d =
    let more : List Symbol = Many Package ∷ SimpleClass ∷ Many Suffix ∷ Mark 59 ∷ owed in
    many_of Package (SimpleClass ∷ Many Suffix ∷ Mark 59 ∷ owed) text (simple_name_needs_name text none owed)
    (λ d. none (Mark 47 ∷ more) (mark_stops 47 more slash_stops) (package_of more text d)) d

pub first_param_needs_name : (text : List ℕ) → BeginsWithNoName text → (owed : List Symbol) → Derives (Param ∷ Many Param ∷ Mark 62 ∷ owed) text → ⊥
first_param_needs_name text none owed d =
    let more : List Symbol = Maybe ReferenceType ∷ Many Bound ∷ Many Param ∷ Mark 62 ∷ owed in
    none (Mark 58 ∷ more) (mark_stops 58 more colon_stops) (param_of (Many Param ∷ Mark 62 ∷ owed) text d)

-- ---- bounds

param_refuses : (c : ℕ) → IsStop c → Refuses (Param ∷ []) c
param_refuses c stop owed rest d =
    identifier_of (Mark 58 ∷ Maybe ReferenceType ∷ Many Bound ∷ owed) (c ∷ rest) (λ n r is split d. first n r is.1 is.2 split) (param_of owed (c ∷ rest) d)
  where
    first : (n r : List ℕ) → n ≢ [] → Lacks n identifier_stops → c ∷ rest ≡ n ++ r → ⊥
    first [] r some lacks split = some refl
    first (x ∷ n) r some lacks split = let e : c ≡ x = cc in All-head (λ c. Contains identifier_stops c → ⊥) x n lacks (subst IsStop e stop)

pub more_bounds : (c : ℕ) → c ≡ 58 → Leaves (Many Bound ∷ Many Param ∷ Mark 62 ∷ []) c (both_before (record { 0 = Some entry.Reference; 1 = Some entry.Bounds }))
more_bounds c e owed rest =
    let after : List Symbol = Many Bound ∷ Many Param ∷ Mark 62 ∷ owed in (
      λ d. many_of Bound (Many Param ∷ Mark 62 ∷ owed) (c ∷ rest)
          (λ d. many_of Param (Mark 62 ∷ owed) (c ∷ rest) (mark_of 62 owed c rest (λ f _. absurd (omega arith))) (λ d. absurd (param_refuses c (subst IsStop (sym e) colon_stops) (Many Param ∷ Mark 62 ∷ owed) rest d)) d)
          (bound_of after c rest (λ _ d. d)) d,
      λ d. subst (λ x. Derives after (x ∷ rest)) (sym e) (expands _ _ _ _ (one_more Bound) (expands _ _ _ _ bound (reads 58 _ _ d))),
    )

pub greater_stops : IsStop 62
greater_stops = (5, lit< tt, refl)

pub bounds_end : (c : ℕ) → c ≡ 62 → Leaves (Many Bound ∷ Many Param ∷ Mark 62 ∷ []) c (both_before (record { 0 = None; 1 = None }))
bounds_end c e owed rest =
    let after : List Symbol = Many Bound ∷ Many Param ∷ Mark 62 ∷ owed in (
      λ d. many_of Bound (Many Param ∷ Mark 62 ∷ owed) (c ∷ rest)
          (λ d. many_of Param (Mark 62 ∷ owed) (c ∷ rest) (mark_of 62 owed c rest (λ _ d. d)) (λ d. absurd (param_refuses c (subst IsStop (sym e) greater_stops) (Many Param ∷ Mark 62 ∷ owed) rest d)) d)
          (bound_of after c rest (λ f _. absurd (omega arith))) d,
      λ d. subst (λ x. Derives after (x ∷ rest)) (sym e) (expands _ _ _ _ (no_more Bound) (expands _ _ _ _ (no_more Param) (reads 62 _ _ d))),
    )

only_param : (text : List ℕ) (c : ℕ) (rest : List ℕ) → text ≡ c ∷ rest → c ≢ 58 → c ≢ 62 → (owed : List Symbol) → Derives (Many Bound ∷ Many Param ∷ Mark 62 ∷ owed) text → Derives (Param ∷ Many Param ∷ Mark 62 ∷ owed) text
only_param text c rest is p q owed d =
    subst (Derives (Param ∷ Many Param ∷ Mark 62 ∷ owed)) (sym is)
    (many_of Bound (Many Param ∷ Mark 62 ∷ owed) (c ∷ rest)
    (λ d. many_of Param (Mark 62 ∷ owed) (c ∷ rest) (mark_of 62 owed c rest (λ e _. absurd (q (sym e)))) (λ d. d) d)
    (bound_of (Many Bound ∷ Many Param ∷ Mark 62 ∷ owed) c rest (λ e _. absurd (p (sym e)))) (subst (Derives (Many Bound ∷ Many Param ∷ Mark 62 ∷ owed)) is d))

pub next_param : (text : List ℕ) (c : ℕ) (rest : List ℕ) (answer : Option Step) → text ≡ c ∷ rest → c ≢ 58 → c ≢ 62 → GivesStep (Param ∷ Many Param ∷ Mark 62 ∷ []) text answer → GivesStep (Many Bound ∷ Many Param ∷ Mark 62 ∷ []) text answer
next_param text c rest None is p q h = λ owed d. h owed (only_param text c rest is p q owed d)
next_param text c rest (Some step) is p q h = record {
  less = h.less;
  same = λ owed. (
    λ d. (h.same owed).0 (only_param text c rest is p q owed d),
    λ d. expands _ _ _ _ (no_more Bound) (expands _ _ _ _ (one_more Param) ((h.same owed).1 d)),
  );
}

-- ---- a class bound

no_reference_then : (owed : List Symbol) (c : ℕ) (rest n tail : List ℕ) → IsCut rest n 58 tail → c ≢ 91 → Derives (ReferenceType ∷ owed) (c ∷ rest) → ⊥
no_reference_then owed c rest n tail cut other d =
    let more : List Symbol = Many Package ∷ SimpleClass ∷ Many Suffix ∷ Mark 59 ∷ owed in
    reference_of owed c rest
    (λ _ d. many_of Package (SimpleClass ∷ Many Suffix ∷ Mark 59 ∷ owed) rest
    (λ d. name_end_refuses 58 (omega arith) (omega arith) (omega arith) owed tail (run_of (Maybe Arguments ∷ Many Suffix ∷ Mark 59 ∷ owed) rest n 58 tail cut (name_end_stops owed) (simple_class_of (Many Suffix ∷ Mark 59 ∷ owed) rest d)).1)
    (λ d. mark_of 47 more 58 tail (λ e _. omega arith) (run_of (Mark 47 ∷ more) rest n 58 tail cut (mark_stops 47 more slash_stops) (package_of more rest d)).1) d)
    (λ _ d. mark_of 59 owed 58 tail (λ e _. omega arith) (run_of (Mark 59 ∷ owed) rest n 58 tail cut (mark_stops 59 owed semicolon_stops) d).1)
    (λ e _. other (sym e)) d

no_reference : (owed : List Symbol) (c : ℕ) (rest name tail : List ℕ) → IsCut (c ∷ rest) name 58 tail → Derives (ReferenceType ∷ owed) (c ∷ rest) → ⊥
no_reference owed c rest [] tail cut d =
    let split : c ∷ rest ≡ 58 ∷ tail = cut.split in
    let e : c ≡ 58 = cc in
    reference_of owed c rest (λ f _. omega arith) (λ f _. omega arith) (λ f _. omega arith) d
no_reference owed c rest (x ∷ n) tail cut d =
    let split : c ∷ rest ≡ x ∷ (n ++ 58 ∷ tail) = cut.split in
    let e : c ≡ x = cc in
    no_reference_then owed c rest n tail
    (record { split = ap (drop 1) split; lacks = All-tail (λ c. Contains identifier_stops c → ⊥) x n cut.lacks; stop = cut.stop })
    (λ is. All-head (λ c. Contains identifier_stops c → ⊥) x n cut.lacks (subst IsStop (sym is ∙ e) bracket_stops)) d

colon_first : (text : List ℕ) (c : ℕ) (rest : List ℕ) → EndsAtColon text → text ≡ c ∷ rest → (owed : List Symbol) → Derives (ReferenceType ∷ owed) text → ⊥
colon_first text c rest (name, tail, cut) is owed d =
    no_reference owed c rest name tail (subst (λ t. IsCut t name 58 tail) is cut) (subst (Derives (ReferenceType ∷ owed)) is d)

pub class_bound_absent : (text : List ℕ) (c : ℕ) (rest : List ℕ) (answer : Option Step) → EndsAtColon text → text ≡ c ∷ rest → GivesStep (Many Bound ∷ Many Param ∷ Mark 62 ∷ []) text answer → GivesStep (Maybe ReferenceType ∷ Many Bound ∷ Many Param ∷ Mark 62 ∷ []) text answer
class_bound_absent text c rest None at is h = λ owed d.
    let after : List Symbol = Many Bound ∷ Many Param ∷ Mark 62 ∷ owed in
    maybe_of ReferenceType after text (h owed) (colon_first text c rest at is after) d
class_bound_absent text c rest (Some step) at is h = record {
  less = h.less;
  same = λ owed.
      let after : List Symbol = Many Bound ∷ Many Param ∷ Mark 62 ∷ owed in (
        λ d. maybe_of ReferenceType after text (h.same owed).0 (λ d. absurd (colon_first text c rest at is after d)) d,
        λ d. expands _ _ _ _ (absent ReferenceType) ((h.same owed).1 d),
      );
}

pub class_bound_ends : (c : ℕ) → c ≡ 62 → Leaves (Maybe ReferenceType ∷ Many Bound ∷ Many Param ∷ Mark 62 ∷ []) c (both_before (record { 0 = None; 1 = None }))
class_bound_ends c e owed rest =
    let after : List Symbol = Many Bound ∷ Many Param ∷ Mark 62 ∷ owed in (
      λ d. maybe_of ReferenceType after (c ∷ rest) (bounds_end c e owed rest).0 (reference_of after c rest (λ f _. absurd (omega arith)) (λ f _. absurd (omega arith)) (λ f _. absurd (omega arith))) d,
      λ d. expands _ _ _ _ (absent ReferenceType) ((bounds_end c e owed rest).1 d),
    )

-- what begins with no colon, no end and no parameter's name is no list of bounds
no_bounds : (text : List ℕ) (c : ℕ) (rest : List ℕ) → text ≡ c ∷ rest → c ≢ 62 → (EndsAtColon text → ⊥) → (owed : List Symbol) → Derives (Many Bound ∷ Many Param ∷ Mark 62 ∷ owed) text → ⊥
no_bounds text c rest is other none owed d =
    let d' = subst (Derives (Many Bound ∷ Many Param ∷ Mark 62 ∷ owed)) is d in
    many_of Bound (Many Param ∷ Mark 62 ∷ owed) (c ∷ rest)
    (λ d. many_of Param (Mark 62 ∷ owed) (c ∷ rest) (mark_of 62 owed c rest (λ e _. other (sym e)))
    (λ d. identifier_of (Mark 58 ∷ Maybe ReferenceType ∷ Many Bound ∷ Many Param ∷ Mark 62 ∷ owed) (c ∷ rest) (λ n r it split d. named n r it.2 split d) (param_of (Many Param ∷ Mark 62 ∷ owed) (c ∷ rest) d)) d)
    (bound_of (Many Bound ∷ Many Param ∷ Mark 62 ∷ owed) c rest (λ e _. none ([], rest, record { split = is ∙ ap (λ x. x ∷ rest) (sym e); lacks = All-nil (λ c. Contains identifier_stops c → ⊥); stop = colon_stops }))) d'
  where
    named : (n r : List ℕ) → Lacks n identifier_stops → c ∷ rest ≡ n ++ r → Derives (Mark 58 ∷ Maybe ReferenceType ∷ Many Bound ∷ Many Param ∷ Mark 62 ∷ owed) r → ⊥
    named n [] lacks split d = mark_some 58 (Maybe ReferenceType ∷ Many Bound ∷ Many Param ∷ Mark 62 ∷ owed) d
    named n (x ∷ r) lacks split d =
        mark_of 58 (Maybe ReferenceType ∷ Many Bound ∷ Many Param ∷ Mark 62 ∷ owed) x r (λ e _. none (n, r, record { split = is ∙ split ∙ ap (λ y. n ++ y ∷ r) (sym e); lacks = lacks; stop = colon_stops })) d

pub class_bound_present : (text : List ℕ) (c : ℕ) (rest : List ℕ) (answer : Option After) → text ≡ c ∷ rest → c ≢ 62 → (EndsAtColon text → ⊥) → GivesAfter (ReferenceType ∷ Many Bound ∷ Many Param ∷ Mark 62 ∷ []) c answer → GivesRest (Maybe ReferenceType ∷ Many Bound ∷ Many Param ∷ Mark 62 ∷ []) text rest answer
class_bound_present text c rest None is other none h = λ owed d.
    let after : List Symbol = Many Bound ∷ Many Param ∷ Mark 62 ∷ owed in
    maybe_of ReferenceType after text (no_bounds text c rest is other none owed) (λ d. h owed rest (subst (Derives (ReferenceType ∷ after)) is d)) d
class_bound_present text c rest (Some step) is other none h = record {
  less = omega (arith, ap length is);
  same = λ owed.
      let after : List Symbol = Many Bound ∷ Many Param ∷ Mark 62 ∷ owed in (
        λ d. maybe_of ReferenceType after text (λ d. absurd (no_bounds text c rest is other none owed d)) (λ d. (h owed rest).0 (subst (Derives (ReferenceType ∷ after)) is d)) d,
        λ d. expands _ _ _ _ (present ReferenceType) (subst (Derives (ReferenceType ∷ after)) (sym is) ((h owed rest).1 d)),
      );
}
