-- The text of what makes a report wrong is empty exactly where nothing is wrong.
use Rattle.std.proofs.Common.{◌≡◌, ◌++◌, ◌+◌, ◌||◌, ◌&&◌, ℕ, suc, arith, ◌==◌, Bool, true, false, not, length, List, [], ◌∷◌, ap, codes, drop, refl, subst}
use Rattle.std.specs.List.{All, list_any}
use Rattle.jc_text.specs.Escapes.{path_text, shown}
use Rattle.jc_list.specs.FaultLines.{format_line}
use Rattle.jc_classes.specs.Facts.{Facts, Reference}
use Rattle.jc_classes.specs.Inheritance.{Inherited, InheritanceErrors}
use Rattle.jc_classes.specs.Loading.{Loading}
use Rattle.jc_classes.specs.Loading.{Loading as loading}
use Rattle.jc_classes.specs.Names.{Name}
use Rattle.jc_classes.specs.Parts.{AreAnswers, Part}
use Rattle.jc_classes.specs.Resolution.{Answer}
use Rattle.jc_classes.specs.Worlds.{World, references_of}
use Rattle.jc_classes.specs.declared.used.User.{User}
use Rattle.jc_link.specs.Prefixes.{is_covered}
use Rattle.jc_link.specs.Tables.{or_built_in, stands_by}
use Rattle.jc_report.specs.ErrorsText.{Asked, answer_errors, answered_text, class_errors, classes_errors, code_error, code_text, errors_text, file_error, final_superclass_error, first_methods, has_error_among, has_inheritance_error, has_listed_error, inheritance_errors, is_asked, is_listed, is_wrong_class, is_wrong_file, overridden_error, unimplemented_error}
use Rattle.jc_report.specs.ErrorsText.{is_wrong_listed, link_error, load_error, method_text, of_class, of_method, part_errors, use_mark, user_at, user_text}
use Rattle.jc_report.specs.Files.{Files}
use Rattle.jc_report.specs.FileRows.{FileRow}
use Rattle.jc_report.specs.FileRowText.{row_text, state_text}
use Rattle.jc_report.specs.PartText.{answer_text, member_text, reference_text}
use Rattle.jc_report.specs.Reports.{Class, IsClassOf, is_load_error, name_of, world_of}
use Rattle.jc_report.specs.TreeErrors.{AreInheritances, IsTreeErrors, TreeErrors, is_any}
use Rattle.jc_report.proofs.errors.EmptyTexts.{Tells, behind_empty, front_empty, tells_any, tells_asked, tells_or, tells_some, tells_text}

row_there : (row : FileRow) → row_text row ≡ [] → ⊥
row_there row e = let none : codes "\n" ≡ [] = behind_empty (path_text row.path ++ codes ": " ++ state_text row.state) (codes "\n") e in absurd cc

of_class_there : (name : Name) (text : List ℕ) → of_class name text ≡ [] → ⊥
of_class_there name text e = let none : codes ": " ≡ [] = behind_empty (shown name) (codes ": ") (front_empty (shown name ++ codes ": ") text e) in absurd cc

load_told : (name : Name) (load : Loading) → Tells (is_load_error load) (load_error name load)
load_told name loading.Loaded = (λ e. refl, λ e. refl)
load_told name loading.Outside = (λ e. refl, λ e. refl)
load_told name (loading.Fails error fault) = (λ e. absurd (of_class_there name _ e), λ e. absurd cc)

method_there : (f : Facts) (number : ℕ) (text : List ℕ) → of_method f number text ≡ [] → ⊥
method_there f number text e =
    let none : codes ": " ≡ [] = behind_empty (method_text f number) (codes ": ") (front_empty (method_text f number ++ codes ": ") text e) in absurd cc

answered_there : (f : Facts) (r : Reference) (u : User) (a : Answer) → answered_text f r u a ≡ [] → ⊥
answered_there f r u a e =
    let none : codes "\n" ≡ [] = behind_empty (user_text f u ++ codes ": " ++ reference_text r ++ codes " -> " ++ answer_text a ++ use_mark u) (codes "\n") e in absurd cc

answers_told : (used_only : Bool) (m : World) (d : Name) (f : Facts) (l : Loading) (n : ℕ) (rs : List Reference) (answers : List Answer) → AreAnswers m d l rs answers
    → Tells (has_listed_error used_only f n answers) (answer_errors used_only f n rs answers)
answers_told used_only m d f l n [] [] are = (λ e. refl, λ e. refl)
answers_told used_only m d f l n (r ∷ rs) (a ∷ answers) are =
    tells_or (is_listed used_only (user_at f n) a) (has_listed_error used_only f (n + 1) answers)
    (tells_text (is_listed used_only (user_at f n) a) (answered_text f r (user_at f n) a) (answered_there f r (user_at f n) a))
    (answers_told used_only m d f l (n + 1) rs answers are.1)
answers_told used_only m d f l n [] (a ∷ answers) are = absurd are
answers_told used_only m d f l n (r ∷ rs) [] are = absurd are

load_last : (a b c : Bool) → (a || b || c) ≡ (b || c || a)
load_last true true c = refl
load_last true false true = refl
load_last true false false = refl
load_last false true c = refl
load_last false false true = refl
load_last false false false = refl

final_there : (f : Facts) → final_superclass_error f ≡ [] → ⊥
final_there f = of_class_there f.name _

overridden_there : (name : Name) (i : Inherited) → overridden_error name i ≡ [] → ⊥
overridden_there name i e =
    let none : codes "\n" ≡ [] = behind_empty (member_text name i.key ++ codes ": overrides FINAL " ++ member_text i.home i.key) (codes "\n") e in absurd cc

inheritance_told : (f : Facts) (e : InheritanceErrors) (methods : List Inherited) → Tells (is_any e methods) (inheritance_errors f e methods)
inheritance_told f e methods =
    tells_or _ _
    (tells_or _ _ (tells_text e.extends_final (final_superclass_error f) (final_there f)) (tells_some (overridden_error f.name) e.overridden (overridden_there f.name)))
    (tells_some (unimplemented_error f.name) methods (λ i. of_class_there f.name _))

-- the errors of inheritance stand before those of the answers
inherited_last : (a b c : Bool) → ((a || b) || c) ≡ ((a || c) || b)
inherited_last true b c = refl
inherited_last false true true = refl
inherited_last false true false = refl
inherited_last false false true = refl
inherited_last false false false = refl

part_told : (used_only : Bool) (m : World) (d : Name) (f : Facts) (p : Part) (e : InheritanceErrors) (methods : List Inherited) → AreAnswers m d p.load f.references p.answers
    → Tells (is_wrong_listed used_only f p || is_any e methods) (part_errors used_only f p e methods)
unfolding part_errors
part_told used_only m d f p e methods are =
    let format = tells_some (λ fault. of_class f.name (format_line fault)) p.format_faults (λ fault. of_class_there f.name (format_line fault)) in
    let code = tells_some (code_error f) p.code_faults (λ fault. method_there f fault.0 (code_text fault.1)) in
    let links = tells_some (link_error f) p.links (λ link. method_there f link.method _) in
    let answers = answers_told used_only m d f p.load 0 f.references p.answers are in
    let listed = has_listed_error used_only f 0 p.answers in
    let wrong = not (length p.format_faults == 0) || not (length p.code_faults == 0) || is_load_error p.load || not (length p.links == 0) in
    subst (λ test. Tells test (part_errors used_only f p e methods)) (inherited_last wrong (is_any e methods) listed)
    (subst (λ test. Tells (((test || not (length p.links == 0)) || is_any e methods) || listed) (part_errors used_only f p e methods))
    (load_last (is_load_error p.load) (not (length p.format_faults == 0)) (not (length p.code_faults == 0)))
    (tells_or _ _ (tells_or _ _ (tells_or _ _ (tells_or _ _ (tells_or _ _ (load_told f.name p.load) format) code) links) (inheritance_told f e methods)) answers))

class_told : (asked : Asked) (f : Files) (prefixes : List Name) (c : Class) (e : InheritanceErrors) (methods : List Inherited) → IsClassOf f prefixes c
    → Tells (is_asked asked (name_of c) && (is_wrong_listed asked.used_only c.facts c.part || is_any e methods)) (class_errors asked c e methods)
class_told asked f prefixes c e methods is =
    tells_asked (is_asked asked (name_of c)) (is_wrong_listed asked.used_only c.facts c.part || is_any e methods)
    (part_told asked.used_only (world_of f prefixes) (name_of c) c.facts c.part e methods
    (subst (λ references. AreAnswers (world_of f prefixes) (name_of c) c.part.load references c.part.answers)
    (ap (λ o. references_of (stands_by (or_built_in o (name_of c)) (is_covered prefixes (name_of c)))) is.facts) is.part.answers))

-- the tests of a class and of those after it, part by part
apart : (a w n l h : Bool) → ((a && (w || n)) || (l || h)) ≡ (((a && w) || l) || ((a && n) || h))
apart false w n l h = refl
apart true true n l h = refl
apart true false true true h = refl
apart true false true false h = refl
apart true false false true h = refl
apart true false false false h = refl

classes_told : (asked : Asked) (f : Files) (prefixes : List Name) (m : World) (cs : List Class) (es : List InheritanceErrors) (ls : List (List Inherited))
    → All (IsClassOf f prefixes) cs → AreInheritances m cs es
    → Tells (list_any (is_wrong_class asked) cs || has_inheritance_error asked cs es ls) (classes_errors asked cs es ls)
classes_told asked f prefixes m [] [] ls all are = (λ e. refl, λ e. refl)
classes_told asked f prefixes m (c ∷ cs) (e ∷ es) ls all are =
    subst (λ test. Tells test (classes_errors asked (c ∷ cs) (e ∷ es) ls))
    (apart (is_asked asked (name_of c)) (is_wrong_listed asked.used_only c.facts c.part) (is_any e (first_methods ls)) (list_any (is_wrong_class asked) cs)
    (has_inheritance_error asked cs es (drop 1 ls)))
    (tells_or _ _ (class_told asked f prefixes c e (first_methods ls) (all 0 c (omega arith)))
    (classes_told asked f prefixes m cs es (drop 1 ls) (λ k d within. all (suc k) d (omega (arith, within))) are.1))
classes_told asked f prefixes m [] (e ∷ es) ls all are = absurd are
classes_told asked f prefixes m (c ∷ cs) [] ls all are = absurd are

file_told : (asked : Asked) (row : FileRow) → Tells (is_wrong_file asked row) (file_error asked row)
file_told asked row = tells_text (is_wrong_file asked row) (row_text row) (row_there row)

or_assoc : (a b c : Bool) → (a || (b || c)) ≡ ((a || b) || c)
or_assoc true b c = refl
or_assoc false b c = refl

pub errors_told : (f : Files) (prefixes : List Name) (asked : Asked) (e : TreeErrors) → IsTreeErrors f prefixes e → Tells (has_error_among asked e) (errors_text asked e)
unfolding errors_text
errors_told f prefixes asked e is =
    let r = e.report in
    subst (λ test. Tells test (errors_text asked e))
    (or_assoc (list_any (is_wrong_file asked) r.files) (list_any (is_wrong_class asked) r.classes) (has_inheritance_error asked r.classes e.inheritance e.unimplemented))
    (tells_or _ _ (tells_any (is_wrong_file asked) (file_error asked) r.files (λ k row within. file_told asked _))
    (classes_told asked f prefixes (world_of f prefixes) r.classes e.inheritance e.unimplemented is.report.sound is.inheritance))
