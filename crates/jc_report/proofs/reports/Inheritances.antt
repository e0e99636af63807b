-- The errors of inheritance of the classes of a tree, and the methods for which they have no body.
use Rattle.std.proofs.Common.{◌≡◌, ◌∙◌, ◌||◌, ◌&&◌, ◌+◌, ◌++◌, ◌<◌, ℕ, arith, length, zero, suc, Bool, true, false, cond, Option, List, [], ◌∷◌, None, Some, ap, drop, map, refl, subst, sym}
use Rattle.std.specs.Prelude.{slice_get, slice_index_or}
use Rattle.std.proofs.lemmas.List.{drop_more}
use Rattle.std.proofs.lemmas.Option.{get_or_from_slice_get, slice_get_within}
use Rattle.jc_classes.specs.BuiltIn.{object_facts}
use Rattle.jc_classes.specs.Facts.{Facts}
use Rattle.jc_classes.specs.Inheritance.{AreInherited, InheritanceErrors, Inherited}
use Rattle.jc_classes.specs.Names.{Name, object, same_name}
use Rattle.jc_classes.specs.Selection.{EachUnimplemented, IsNamed}
use Rattle.jc_classes.specs.Worlds.{World}
use Rattle.jc_classes.specs.Worlds.{Stands as stands}
use Rattle.jc_classes.proofs.worlds.NameTests.{same_is}
use Rattle.jc_link.specs.Prefixes.{is_covered}
use Rattle.jc_link.specs.Tables.{or_built_in, stands_by, world}
use Rattle.jc_report.specs.ErrorsText.{Asked, class_errors, classes_errors, first_methods, has_inheritance_error, is_asked}
use Rattle.jc_report.specs.Files.{Files}
use Rattle.jc_report.specs.Reports.{Class, facts_at, name_of, world_of}
use Rattle.jc_report.specs.TreeErrors.{AreInheritances, is_any}
use Rattle.jc_report.specs.Trees.{IsTree, Tree}
use Rattle.jc_report.proofs.trees.FactsOfNames.{facts_named, worlds_meet}

of_classes : (m : World) (cs : List Class) (es : List InheritanceErrors) → AreInherited m (map name_of cs) es → AreInheritances m cs es
of_classes m [] [] are = tt
of_classes m (c ∷ cs) (e ∷ es) are = (are.0, of_classes m cs es are.1)
of_classes m [] (e ∷ es) are = absurd are
of_classes m (c ∷ cs) [] are = absurd are

-- those of the classes of a tree, over its files
pub of_tree : (f : Files) (t : Tree) → IsTree f t → (prefixes : List Name) (cs : List Class) (names : List Name) (es : List InheritanceErrors)
    → map name_of cs ≡ names → AreInherited (world t.classes prefixes) names es → AreInheritances (world_of f prefixes) cs es
of_tree f t tree prefixes cs names es same are =
    let worlds : world t.classes prefixes ≡ world_of f prefixes = (λ i name. worlds_meet f t tree prefixes name i) in
    subst (λ (m : World). AreInheritances m cs es) worlds (of_classes (world t.classes prefixes) cs es (subst (λ ns. AreInherited (world t.classes prefixes) ns es) (sym same) are))

-- each class of the world of some files has its own name
world_named : (f : Files) (prefixes : List Name) → IsNamed (world_of f prefixes)
world_named f prefixes n r e = by (facts_at f n) refl e
  where
    class_is : {a b : Facts} → stands.Class a ≡ stands.Class b → a ≡ b
    class_is q = cc

    no_class : (outside : Bool) → stands_by None outside ≡ stands.Class r → ⊥
    no_class true q = absurd cc
    no_class false q = absurd cc

    built_in_named : (is_object : Bool) → same_name n object ≡ is_object
        → stands_by (cond is_object (Some object_facts) None) (is_covered prefixes n) ≡ stands.Class r → r.name ≡ n
    built_in_named true s q = ap (λ (z : Facts). z.name) (sym (class_is q)) ∙ sym (same_is n object s)
    built_in_named false s q = absurd (no_class (is_covered prefixes n) q)

    by : (found : Option Facts) → facts_at f n ≡ found → stands_by (or_built_in found n) (is_covered prefixes n) ≡ stands.Class r → r.name ≡ n
    by (Some c) there q = ap (λ (z : Facts). z.name) (sym (class_is q)) ∙ facts_named f n c there
    by None there q = built_in_named (same_name n object) refl q

-- the methods for which the classes of a tree have no body, over its files
pub unimplemented_of_tree : (f : Files) (t : Tree) → IsTree f t → (prefixes : List Name) (cs : List Class) (names : List Name) (ls : List (List Inherited))
    → map name_of cs ≡ names → (IsNamed (world t.classes prefixes) → EachUnimplemented (world t.classes prefixes) names ls)
    → EachUnimplemented (world_of f prefixes) (map name_of cs) ls
unimplemented_of_tree f t tree prefixes cs names ls same are =
    let worlds : world t.classes prefixes ≡ world_of f prefixes = (λ i name. worlds_meet f t tree prefixes name i) in
    subst (λ ns. EachUnimplemented (world_of f prefixes) ns ls) (sym same)
    (subst (λ (m : World). EachUnimplemented m names ls) worlds (are (subst IsNamed (sym worlds) (world_named f prefixes))))

pub there_is_one : {X : Type 0} (xs : List X) (n : ℕ) → n < length xs → slice_get xs n ≡ None → ⊥
there_is_one [] n l e = absurd (omega (arith, l))
there_is_one (x ∷ xs) zero l e = absurd cc
there_is_one (x ∷ xs) (suc n) l e = there_is_one xs n (omega (arith, l)) e

-- ---- one class on

next_class : (cs : List Class) (n : ℕ) (c : Class) → slice_get cs n ≡ Some c → drop n cs ≡ c ∷ drop (n + 1) cs
next_class cs n c e = drop_more cs n c (slice_get_within cs n c e) ∙ ap (λ x. x ∷ drop (n + 1) cs) (get_or_from_slice_get cs n c c e)

first_dropped : (ls : List (List Inherited)) (n : ℕ) → first_methods (drop n ls) ≡ slice_index_or ls n []
first_dropped [] zero = refl
first_dropped [] (suc n) = refl
first_dropped (l ∷ ls) zero = refl
first_dropped (l ∷ ls) (suc n) = first_dropped ls n

none_dropped : (n : ℕ) → drop {A = List Inherited} n [] ≡ []
none_dropped zero = refl
none_dropped (suc n) = refl

rest_dropped : (ls : List (List Inherited)) (n : ℕ) → drop 1 (drop n ls) ≡ drop (n + 1) ls
rest_dropped [] n = ap (drop 1) (none_dropped n) ∙ sym (none_dropped (n + 1))
rest_dropped (l ∷ ls) zero = refl
rest_dropped (l ∷ ls) (suc n) =
    let same : suc (n + 1) ≡ suc n + 1 = omega arith in
    rest_dropped ls n ∙ ap (λ k. drop k (l ∷ ls)) same

pub errors_next : (asked : Asked) (cs : List Class) (rest : List InheritanceErrors) (ls : List (List Inherited)) (n : ℕ) (c : Class) (e : InheritanceErrors)
    → slice_get cs n ≡ Some c
    → classes_errors asked (drop n cs) (e ∷ rest) (drop n ls)
    ≡ class_errors asked c e (slice_index_or ls n []) ++ classes_errors asked (drop (n + 1) cs) rest (drop (n + 1) ls)
errors_next asked cs rest ls n c e at =
    ap (λ left. classes_errors asked left (e ∷ rest) (drop n ls)) (next_class cs n c at)
    ∙ ap (λ methods. class_errors asked c e methods ++ classes_errors asked (drop (n + 1) cs) rest (drop 1 (drop n ls))) (first_dropped ls n)
    ∙ ap (λ left. class_errors asked c e (slice_index_or ls n []) ++ classes_errors asked (drop (n + 1) cs) rest left) (rest_dropped ls n)

pub errors_past : (asked : Asked) (cs : List Class) (es : List InheritanceErrors) (ls : List (List Inherited)) (n : ℕ) → slice_get cs n ≡ None
    → classes_errors asked (drop n cs) es ls ≡ []
errors_past asked [] es ls zero e = refl
errors_past asked [] es ls (suc n) e = refl
errors_past asked (c ∷ cs) es ls zero e = absurd cc
errors_past asked (c ∷ cs) es ls (suc n) e = errors_past asked cs es ls n e

pub no_more : (asked : Asked) (cs : List Class) (ls : List (List Inherited)) → classes_errors asked cs [] ls ≡ []
no_more asked [] ls = refl
no_more asked (c ∷ cs) ls = refl

-- ---- whether there are any

pub any_next : (asked : Asked) (cs : List Class) (rest : List InheritanceErrors) (ls : List (List Inherited)) (n : ℕ) (c : Class) (e : InheritanceErrors)
    → slice_get cs n ≡ Some c
    → has_inheritance_error asked (drop n cs) (e ∷ rest) (drop n ls)
    ≡ ((is_asked asked (name_of c) && is_any e (slice_index_or ls n [])) || has_inheritance_error asked (drop (n + 1) cs) rest (drop (n + 1) ls))
any_next asked cs rest ls n c e at =
    ap (λ left. has_inheritance_error asked left (e ∷ rest) (drop n ls)) (next_class cs n c at)
    ∙ ap (λ methods. (is_asked asked (name_of c) && is_any e methods) || has_inheritance_error asked (drop (n + 1) cs) rest (drop 1 (drop n ls)))
    (first_dropped ls n)
    ∙ ap (λ left. (is_asked asked (name_of c) && is_any e (slice_index_or ls n [])) || has_inheritance_error asked (drop (n + 1) cs) rest left)
    (rest_dropped ls n)

pub any_past : (asked : Asked) (cs : List Class) (es : List InheritanceErrors) (ls : List (List Inherited)) (n : ℕ) → slice_get cs n ≡ None
    → has_inheritance_error asked (drop n cs) es ls ≡ false
any_past asked [] es ls zero e = refl
any_past asked [] es ls (suc n) e = refl
any_past asked (c ∷ cs) es ls zero e = absurd cc
any_past asked (c ∷ cs) es ls (suc n) e = any_past asked cs es ls n e

pub none_more : (asked : Asked) (cs : List Class) (ls : List (List Inherited)) → has_inheritance_error asked cs [] ls ≡ false
none_more asked [] ls = refl
none_more asked (c ∷ cs) ls = refl
