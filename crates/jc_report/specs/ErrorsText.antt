-- The text of the errors of a report: one line for each.
use Rattle.std.specs.Prelude.{ℕ, Bool, true, false, ◌==◌, ◌+◌, ◌||◌, ◌&&◌, not, cond, List, [], ◌∷◌, ◌++◌, length, drop, find, Option, Some, None, codes, decimal, option_map, slice_get, slice_index_or, unwrap_or}
use Rattle.std.specs.Borrow.{Bor}
use Rattle.std.specs.List.{flat_map, list_any}
use Rattle.std.specs.Option.{option_map_or}
use Rattle.jc_text.specs.Escapes.{shown}
use Rattle.jc_code.specs.declared.code_fault.CodeFault.{CodeFault}
use Rattle.jc_code.specs.declared.insn.LinkKind.{LinkKind}
use Rattle.jc_code.specs.declared.insn.LinkKind.TheVariants as kinds
use Rattle.jc_code.specs.declared.method_use.MethodUse.{MethodUse}
use Rattle.jc_code.specs.CodeFaultOrder.{rule_number}
use Rattle.jc_list.specs.FaultLines.{format_line}
use Rattle.jc_classes.specs.declared.used.User.{User}
use Rattle.jc_classes.specs.declared.used.User.TheVariants as user
use Rattle.jc_classes.specs.Facts.{Facts, Reference}
use Rattle.jc_classes.specs.Inheritance.{Inherited, InheritanceErrors}
use Rattle.jc_classes.specs.LinkErrors.{LinkError}
use Rattle.jc_classes.specs.Loading.{Loading}
use Rattle.jc_classes.specs.Loading.{Loading as loading}
use Rattle.jc_classes.specs.Names.{Name}
use Rattle.jc_classes.specs.Parts.{Part}
use Rattle.jc_classes.specs.Resolution.{Answer}
use Rattle.jc_classes.specs.Worlds.{key_of}
use Rattle.jc_link.specs.Prefixes.{is_covered}
use Rattle.jc_report.specs.declared.asked.Asked.{Asked as LentAsked}
use Rattle.jc_report.specs.FileRows.{FileRow, is_unreadable}
use Rattle.jc_report.specs.FileRowText.{row_text}
use Rattle.jc_report.specs.PartText.{answer_text, error_text, member_text, reference_text}
use Rattle.jc_report.specs.Reports.{Class, Report, is_error, is_load_error, name_of}
use Rattle.jc_report.specs.TreeErrors.{TreeErrors, is_any}

-- ---- what is asked for

-- Which errors are asked for: those of files and classes whose paths and names begin with one of the prefixes, or all.
-- With `used_only`, the errors of references that nothing uses are left out.
pub record Asked : Type 0 where
  pub only : Option (List Name)
  pub used_only : Bool

abbrev pub asked_lent : LentAsked → Asked
asked_lent asked = record { only = option_map (λ (o : Bor (List Name)). o.now) asked.only; used_only = asked.used_only }

abbrev pub all_errors : Asked
all_errors = record { only = None; used_only = false }

-- the text begins with one of the prefixes, if any are given
abbrev pub begins : Option (List Name) → List ℕ → Bool
begins None text = true
begins (Some prefixes) text = is_covered prefixes text

abbrev pub is_asked : Asked → List ℕ → Bool
is_asked asked text = begins asked.only text

-- ---- where an error is

-- a text after the name of its class
abbrev pub of_class : Name → List ℕ → List ℕ
of_class name text = shown name ++ codes ": " ++ text

-- a method, by its number: its class, its name and its descriptor; only the class if it has no such method
abbrev pub method_text : Facts → ℕ → List ℕ
method_text f number = option_map_or (λ m. member_text f.name (key_of m)) (slice_get f.methods number) (shown f.name)

-- a text after the class, name and descriptor of a method
abbrev pub of_method : Facts → ℕ → List ℕ → List ℕ
of_method f number text = method_text f number ++ codes ": " ++ text

-- ---- loading, and faults

abbrev pub load_error : Name → Loading → List ℕ
load_error name loading.Loaded = []
load_error name loading.Outside = []
load_error name (loading.Fails error fault) = of_class name (error_text error fault ++ codes "\n")

abbrev pub code_text : CodeFault → List ℕ
code_text fault = codes "code S" ++ decimal (rule_number fault.rule) ++ codes " " ++ decimal fault.place ++ codes "\n"

-- a fault of the code of a method, which is given by its number
abbrev pub code_error : Facts → ℕ × CodeFault → List ℕ
code_error f fault = of_method f fault.0 (code_text fault.1)

-- ---- instructions that do not link

abbrev pub mnemonic : LinkKind → List ℕ
mnemonic kinds.GetStatic = codes "getstatic"
mnemonic kinds.PutStatic = codes "putstatic"
mnemonic kinds.GetField = codes "getfield"
mnemonic kinds.PutField = codes "putfield"
mnemonic kinds.InvokeVirtual = codes "invokevirtual"
mnemonic kinds.InvokeSpecial = codes "invokespecial"
mnemonic kinds.InvokeStatic = codes "invokestatic"
mnemonic kinds.InvokeInterface = codes "invokeinterface"
mnemonic kinds.New = codes "new"

abbrev pub is_at : (method place : ℕ) → MethodUse → Bool
is_at method place u = u.method == method && u.place == place

-- the instruction at an offset of a method
abbrev pub use_at : List MethodUse → (method place : ℕ) → Option MethodUse
use_at uses method place = find (is_at method place) uses

-- the reference of the constant at an index
abbrev pub reference_at : List Reference → ℕ → Option Reference
reference_at references index = find (λ r. r.index == index) references

-- the mnemonic of an instruction, and its reference
abbrev pub use_text : Facts → MethodUse → List ℕ
use_text f u = mnemonic u.kind ++ codes " " ++ option_map_or reference_text (reference_at f.references u.index) []

abbrev pub instruction_text : Facts → LinkError → List ℕ
instruction_text f link = option_map_or (use_text f) (use_at f.uses link.method link.place) []

abbrev pub link_error : Facts → LinkError → List ℕ
link_error f link =
    of_method f link.method
    (decimal link.place ++ codes ": " ++ instruction_text f link ++ codes " -> " ++ error_text link.error link.class ++ codes "\n")

-- ---- inheritance

abbrev pub final_superclass_error : Facts → List ℕ
final_superclass_error f = of_class f.name (codes "extends FINAL " ++ shown (unwrap_or f.superclass []) ++ codes "\n")

-- a method of the class overrides the FINAL method of the same name and descriptor
abbrev pub overridden_error : Name → Inherited → List ℕ
overridden_error name i = member_text name i.key ++ codes ": overrides FINAL " ++ member_text i.home i.key ++ codes "\n"

-- the class has no body for the ABSTRACT method
abbrev pub unimplemented_error : Name → Inherited → List ℕ
unimplemented_error name i = of_class name (codes "no body for " ++ member_text i.home i.key ++ codes "\n")

abbrev pub inheritance_errors : Facts → InheritanceErrors → List Inherited → List ℕ
inheritance_errors f e methods =
    cond e.extends_final (final_superclass_error f) []
    ++ flat_map (overridden_error f.name) e.overridden
    ++ flat_map (unimplemented_error f.name) methods

-- ---- references that do not resolve

-- what uses a reference, which is given by its number
abbrev pub user_at : Facts → ℕ → User
user_at f number = unwrap_or (slice_get f.users number) user.Nothing

abbrev pub is_used : User → Bool
is_used (user.Method number) = true
is_used user.Other = true
is_used user.Nothing = false

-- the answer is an error that is listed; with `used_only`, only if something uses the reference
abbrev pub is_listed : (used_only : Bool) → User → Answer → Bool
is_listed false u a = is_error a
is_listed true u a = is_error a && is_used u

-- the first method that uses the reference, or the class if no method does
abbrev pub user_text : Facts → User → List ℕ
user_text f (user.Method number) = method_text f number
user_text f user.Other = shown f.name
user_text f user.Nothing = shown f.name

-- the mark of a reference that nothing uses, and that no code resolves therefore
abbrev pub use_mark : User → List ℕ
use_mark u = cond (is_used u) [] (codes " (unused)")

abbrev pub answered_text : Facts → Reference → User → Answer → List ℕ
answered_text f r u a =
    user_text f u ++ codes ": " ++ reference_text r ++ codes " -> " ++ answer_text a ++ use_mark u ++ codes "\n"

abbrev pub answer_error : (used_only : Bool) → Facts → Reference → User → Answer → List ℕ
answer_error used_only f r u a = cond (is_listed used_only u a) (answered_text f r u a) []

-- the lines of the listed errors among the answers to these references, the first of which has this number
abbrev pub answer_errors : (used_only : Bool) → Facts → ℕ → List Reference → List Answer → List ℕ
answer_errors used_only f number [] answers = []
answer_errors used_only f number (r ∷ rs) [] = []
answer_errors used_only f number (r ∷ rs) (a ∷ answers) =
    answer_error used_only f r (user_at f number) a ++ answer_errors used_only f (number + 1) rs answers

-- ---- all of a report

-- the lines of a class in the order of the lines of its part; the errors of inheritance and the methods without a body are
-- before the references
unfoldable pub part_errors : (used_only : Bool) → Facts → Part → InheritanceErrors → List Inherited → List ℕ
part_errors used_only f p e methods =
    load_error f.name p.load
    ++ flat_map (λ fault. of_class f.name (format_line fault)) p.format_faults
    ++ flat_map (code_error f) p.code_faults
    ++ flat_map (link_error f) p.links
    ++ inheritance_errors f e methods
    ++ answer_errors used_only f 0 f.references p.answers

abbrev pub class_errors : Asked → Class → InheritanceErrors → List Inherited → List ℕ
class_errors asked c e methods = cond (is_asked asked (name_of c)) (part_errors asked.used_only c.facts c.part e methods) []

-- the first list, or no methods
abbrev pub first_methods : List (List Inherited) → List Inherited
first_methods ls = slice_index_or ls 0 []

-- the lines of each class, with its errors of inheritance and the methods for which it has no body
abbrev pub classes_errors : Asked → List Class → List InheritanceErrors → List (List Inherited) → List ℕ
classes_errors asked [] es ls = []
classes_errors asked (c ∷ cs) [] ls = []
classes_errors asked (c ∷ cs) (e ∷ es) ls = class_errors asked c e (first_methods ls) ++ classes_errors asked cs es (drop 1 ls)

-- an unreadable file that is asked for
abbrev pub is_wrong_file : Asked → FileRow → Bool
is_wrong_file asked row = is_asked asked row.path && is_unreadable row

-- the row of such a file
abbrev pub file_error : Asked → FileRow → List ℕ
file_error asked row = cond (is_wrong_file asked row) (row_text row) []

-- the whole text of the errors that are asked for
unfoldable pub errors_text : Asked → TreeErrors → List ℕ
errors_text asked e = flat_map (file_error asked) e.report.files ++ classes_errors asked e.report.classes e.inheritance e.unimplemented

-- ---- whether there are any

-- one of the answers is an error that is listed; the first answer is that to the reference of this number
abbrev pub has_listed_error : (used_only : Bool) → Facts → ℕ → List Answer → Bool
has_listed_error used_only f number [] = false
has_listed_error used_only f number (a ∷ answers) = is_listed used_only (user_at f number) a || has_listed_error used_only f (number + 1) answers

-- the class has a fault, does not load, or has an instruction that does not link or an answer that is a listed error
abbrev pub is_wrong_listed : (used_only : Bool) → Facts → Part → Bool
is_wrong_listed used_only f p =
    not (length p.format_faults == 0) || not (length p.code_faults == 0) || is_load_error p.load
    || not (length p.links == 0) || has_listed_error used_only f 0 p.answers

-- the class is asked for, and is wrong in one of these ways
abbrev pub is_wrong_class : Asked → Class → Bool
is_wrong_class asked c = is_asked asked (name_of c) && is_wrong_listed asked.used_only c.facts c.part

-- whether a file or a class that is asked for is wrong
abbrev pub is_wrong_among : Asked → Report → Bool
is_wrong_among asked r = list_any (is_wrong_file asked) r.files || list_any (is_wrong_class asked) r.classes

-- whether a class that is asked for has an error of inheritance, or no body for a method
abbrev pub has_inheritance_error : Asked → List Class → List InheritanceErrors → List (List Inherited) → Bool
has_inheritance_error asked [] es ls = false
has_inheritance_error asked (c ∷ cs) [] ls = false
has_inheritance_error asked (c ∷ cs) (e ∷ es) ls =
    (is_asked asked (name_of c) && is_any e (first_methods ls)) || has_inheritance_error asked cs es (drop 1 ls)

-- whether a file or a class that is asked for is wrong, or such a class has an error of inheritance or no body for a method
abbrev pub has_error_among : Asked → TreeErrors → Bool
has_error_among asked e = is_wrong_among asked e.report || has_inheritance_error asked e.report.classes e.inheritance e.unimplemented
