-- Signatures are texts.
use Rattle.std.proofs.Common.{◌≡◌, ℕ, ◌<◌, true, not, eqb, List, [], ◌∷◌, ◌++◌, length, refl, sym, ap, subst, arith}
use Rattle.std.specs.List.{list_all, list_any}
use Rattle.jc_base.specs.declared.signatures.SigKind.{SigKind}
use Rattle.jc_base.specs.declared.signatures.SigKind.TheVariants as kind
use Rattle.jc_base.specs.ModifiedUtf8.{IsWellSpelled}
use Rattle.jc_base.specs.Signatures.{Symbol, Mark, Maybe, Many, ClassSignature, MethodSignature, ReferenceType, ClassType, Package, Suffix, Arguments, Param, Bound, Produces, absent, present, no_more, one_more, class_signature, method_signature, result_type, result_void, throws, thrown_class, thrown_variable, base_type, reference_type, class_reference, variable_reference, array_reference, type_variable, class_type, package_name, simple_class, suffix, arguments, any_type, exact_type, extends_type, super_type, params, param, bound, Derives, ends, reads, names, expands, IsIdentifier, IsSignature, identifier_stops}
use Rattle.jc_base.proofs.texts.WellSpelledFronts.{append_spelled, ascii_spelled, is_ascii}
use Rattle.jc_base.proofs.texts.Names.{lacks_by_test}
use Rattle.jc_base.proofs.types.DescriptorsAreTexts.{base_spelled}

-- the marks that the symbol holds are texts
abbrev IsPlain : Symbol → Type 0
IsPlain (Mark m) = IsWellSpelled (m ∷ [])
IsPlain (Maybe s) = IsPlain s
IsPlain (Many s) = IsPlain s
IsPlain _ = Unit {0}

abbrev ArePlain : List Symbol → Type 0
ArePlain [] = Unit {0}
ArePlain (s ∷ ss) = IsPlain s × ArePlain ss

plain_append : (xs ys : List Symbol) → ArePlain xs → ArePlain ys → ArePlain (xs ++ ys)
plain_append [] ys p q = q
plain_append (x ∷ xs) ys p q = (p.0, plain_append xs ys p.1 q)

makes_plain : (s : Symbol) (made : List Symbol) → Produces s made → IsPlain s → ArePlain made
makes_plain _ _ (absent s) p = tt
makes_plain _ _ (present s) p = (p, tt)
makes_plain _ _ (no_more s) p = tt
makes_plain _ _ (one_more s) p = (p, (p, tt))
makes_plain _ _ class_signature p = (tt, (tt, (tt, tt)))
makes_plain _ _ method_signature p = (tt, (ascii_spelled (40 ∷ []) refl, (tt, (ascii_spelled (41 ∷ []) refl, (tt, (tt, tt))))))
makes_plain _ _ result_type p = (tt, tt)
makes_plain _ _ result_void p = (ascii_spelled (86 ∷ []) refl, tt)
makes_plain _ _ throws p = (ascii_spelled (94 ∷ []) refl, (tt, tt))
makes_plain _ _ thrown_class p = (tt, tt)
makes_plain _ _ thrown_variable p = (tt, tt)
makes_plain _ _ (base_type c has) p = (base_spelled c has, tt)
makes_plain _ _ reference_type p = (tt, tt)
makes_plain _ _ class_reference p = (tt, tt)
makes_plain _ _ variable_reference p = (tt, tt)
makes_plain _ _ array_reference p = (ascii_spelled (91 ∷ []) refl, (tt, tt))
makes_plain _ _ type_variable p = (ascii_spelled (84 ∷ []) refl, (tt, (ascii_spelled (59 ∷ []) refl, tt)))
makes_plain _ _ class_type p = (ascii_spelled (76 ∷ []) refl, (tt, (tt, (tt, (ascii_spelled (59 ∷ []) refl, tt)))))
makes_plain _ _ package_name p = (tt, (ascii_spelled (47 ∷ []) refl, tt))
makes_plain _ _ simple_class p = (tt, (tt, tt))
makes_plain _ _ suffix p = (ascii_spelled (46 ∷ []) refl, (tt, tt))
makes_plain _ _ arguments p = (ascii_spelled (60 ∷ []) refl, (tt, (tt, (ascii_spelled (62 ∷ []) refl, tt))))
makes_plain _ _ any_type p = (ascii_spelled (42 ∷ []) refl, tt)
makes_plain _ _ exact_type p = (tt, tt)
makes_plain _ _ extends_type p = (ascii_spelled (43 ∷ []) refl, (tt, tt))
makes_plain _ _ super_type p = (ascii_spelled (45 ∷ []) refl, (tt, tt))
makes_plain _ _ params p = (ascii_spelled (60 ∷ []) refl, (tt, (tt, (ascii_spelled (62 ∷ []) refl, tt))))
makes_plain _ _ param p = (tt, (ascii_spelled (58 ∷ []) refl, (tt, (tt, tt))))
makes_plain _ _ bound p = (ascii_spelled (58 ∷ []) refl, (tt, tt))

derived_spelled : (ss : List Symbol) (b : List ℕ) → Derives ss b → ArePlain ss → IsWellSpelled b
derived_spelled _ _ ends p = ascii_spelled [] refl
derived_spelled _ _ (reads c owed b d) p = append_spelled (c ∷ []) b p.0 (derived_spelled owed b d p.1)
derived_spelled _ _ (names name owed text rest is split d) p =
    subst IsWellSpelled (sym split) (append_spelled name rest is.0 (derived_spelled owed rest d p.1))
derived_spelled _ _ (expands s made owed b makes d) p =
    derived_spelled (made ++ owed) b d (plain_append made owed (makes_plain s made makes p.0) p.1)

pub signature_spelled : (k : SigKind) (b : List ℕ) → IsSignature k b → IsWellSpelled b
signature_spelled kind.Class b d = derived_spelled (ClassSignature ∷ []) b d (tt, tt)
signature_spelled kind.Method b d = derived_spelled (MethodSignature ∷ []) b d (tt, tt)
signature_spelled kind.Field b d = derived_spelled (ReferenceType ∷ []) b d (tt, tt)

-- ---- derivations of small texts

pub named_by_test : (name : List ℕ) → 0 < length name → list_all is_ascii name ≡ true → list_all (λ c. not (list_any (λ s. eqb s c) identifier_stops)) name ≡ true → IsIdentifier name
named_by_test name some ascii lacks = (ascii_spelled name ascii, (λ e. omega (arith, ap length e)), lacks_by_test name identifier_stops lacks)

pub class_derived : (name : List ℕ) (owed : List Symbol) (rest : List ℕ) → IsIdentifier name → Derives owed rest → Derives (ClassType ∷ owed) (76 ∷ (name ++ 59 ∷ rest))
class_derived name owed rest is d =
    expands _ _ _ _ class_type (reads 76 _ _ (expands _ _ _ _ (no_more Package) (expands _ _ _ _ simple_class
    (names name _ _ (59 ∷ rest) is refl (expands _ _ _ _ (absent Arguments) (expands _ _ _ _ (no_more Suffix) (reads 59 _ _ d)))))))

pub param_derived : (name : List ℕ) (owed : List Symbol) (rest : List ℕ) → IsIdentifier name → Derives (Maybe ReferenceType ∷ Many Bound ∷ owed) rest → Derives (Param ∷ owed) (name ++ 58 ∷ rest)
param_derived name owed rest is d = expands _ _ _ _ param (names name _ _ (58 ∷ rest) is refl (reads 58 _ _ d))
