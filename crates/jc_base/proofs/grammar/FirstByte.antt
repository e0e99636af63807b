-- What the first byte leaves of an entry of the stack.
use Rattle.std.proofs.Common.{◌≡◌, ◌≢◌, ℕ, List, [], ◌∷◌, ◌++◌, Option, Some, None, refl, sym, subst, arith}
use Rattle.std.specs.List.{Contains}
use Rattle.jc_base.specs.declared.signatures.Owed.{Owed}
use Rattle.jc_base.specs.declared.signatures.Owed.TheVariants as entry
use Rattle.jc_base.specs.declared.signatures.After.{After}
use Rattle.jc_base.specs.Descriptors.{base_types}
use Rattle.jc_base.specs.Signatures.{Symbol, Mark, Maybe, Many, Result, Throws, Thrown, JavaType, ReferenceType, ClassType, Suffix, Arguments, Argument, Params, Param, absent, present, no_more, one_more, result_type, result_void, throws, thrown_class, thrown_variable, base_type, reference_type, class_reference, variable_reference, array_reference, type_variable, class_type, suffix, arguments, any_type, exact_type, extends_type, super_type, params, Derives, reads, expands}
use Rattle.jc_base.specs.inside.Owed.{before, Leaves, Refuses, GivesEntry, GivesAfter}
use Rattle.jc_base.proofs.types.FieldsInFront.{no_base}
use Rattle.jc_base.proofs.grammar.WaysToDerive.{mark_of, maybe_of, many_of, class_type_of, reference_of, java_of, result_of, params_of, throws_of, thrown_of, suffixes_of, arguments_of, argument_of}

-- a derivation from what begins with a byte that is known
from_byte : (symbols : List Symbol) (c m : ℕ) (rest : List ℕ) → c ≡ m → Derives symbols (m ∷ rest) → Derives symbols (c ∷ rest)
from_byte symbols c m rest e d = subst (λ x. Derives symbols (x ∷ rest)) (sym e) d

-- ---- types

pub reference_class : (c : ℕ) → c ≡ 76 → Leaves (ReferenceType ∷ []) c (before (Some entry.ClassName))
reference_class c e owed rest = (
  λ d. reference_of owed c rest (λ _ d. d) (λ f _. absurd (omega arith)) (λ f _. absurd (omega arith)) d,
  λ d. from_byte (ReferenceType ∷ owed) c 76 rest e (expands _ _ _ _ class_reference (expands _ _ _ _ class_type (reads 76 _ _ d))),
)

pub reference_variable : (c : ℕ) → c ≡ 84 → Leaves (ReferenceType ∷ []) c (before (Some entry.VariableName))
reference_variable c e owed rest = (
  λ d. reference_of owed c rest (λ f _. absurd (omega arith)) (λ _ d. d) (λ f _. absurd (omega arith)) d,
  λ d. from_byte (ReferenceType ∷ owed) c 84 rest e (expands _ _ _ _ variable_reference (expands _ _ _ _ type_variable (reads 84 _ _ d))),
)

pub reference_array : (c : ℕ) → c ≡ 91 → Leaves (ReferenceType ∷ []) c (before (Some entry.Java))
reference_array c e owed rest = (
  λ d. reference_of owed c rest (λ f _. absurd (omega arith)) (λ f _. absurd (omega arith)) (λ _ d. d) d,
  λ d. from_byte (ReferenceType ∷ owed) c 91 rest e (expands _ _ _ _ array_reference (reads 91 _ _ d)),
)

pub reference_refused : (c : ℕ) → c ≢ 76 → c ≢ 84 → c ≢ 91 → Refuses (ReferenceType ∷ []) c
reference_refused c p q r owed rest d = reference_of owed c rest (λ f _. p (sym f)) (λ f _. q (sym f)) (λ f _. r (sym f)) d

pub java_base : (c : ℕ) → Contains base_types c → Leaves (JavaType ∷ []) c (before None)
java_base c has owed rest = (
  λ d. java_of owed c rest (λ _ d. d) (λ d. absurd (reference_refused c (no_base c 76 refl has) (no_base c 84 refl has) (no_base c 91 refl has) owed rest d)) d,
  λ d. expands _ _ _ _ (base_type c has) (reads c _ _ d),
)

pub java_other : (c : ℕ) (answer : Option (Option Owed)) → (Contains base_types c → ⊥) → GivesEntry (ReferenceType ∷ []) c answer → GivesEntry (JavaType ∷ []) c answer
java_other c None other h = λ owed rest d. java_of owed c rest (λ has _. other has) (λ d. h owed rest d) d
java_other c (Some entry) other h = λ owed rest. (
  λ d. java_of owed c rest (λ has _. absurd (other has)) (λ d. (h owed rest).0 d) d,
  λ d. expands _ _ _ _ reference_type ((h owed rest).1 d),
)

java_is_no_void : Refuses (JavaType ∷ []) 86
java_is_no_void owed rest d = java_of owed 86 rest (λ has _. no_base 86 86 refl has refl) (λ d. reference_refused 86 (omega arith) (omega arith) (omega arith) owed rest d) d

pub result_is_void : (c : ℕ) → c ≡ 86 → Leaves (Result ∷ []) c (before None)
result_is_void c e owed rest = (
  λ d. result_of owed c rest (λ _ d. d) (λ d. absurd (java_is_no_void owed rest (from_byte (JavaType ∷ owed) 86 c rest (sym e) d))) d,
  λ d. from_byte (Result ∷ owed) c 86 rest e (expands _ _ _ _ result_void (reads 86 _ _ d)),
)

pub result_is_java : (c : ℕ) (answer : Option (Option Owed)) → c ≢ 86 → GivesEntry (JavaType ∷ []) c answer → GivesEntry (Result ∷ []) c answer
result_is_java c None other h = λ owed rest d. result_of owed c rest (λ e _. other (sym e)) (λ d. h owed rest d) d
result_is_java c (Some entry) other h = λ owed rest. (
  λ d. result_of owed c rest (λ e _. absurd (other (sym e))) (λ d. (h owed rest).0 d) d,
  λ d. expands _ _ _ _ result_type ((h owed rest).1 d),
)

pub class_begins : (c : ℕ) → c ≡ 76 → Leaves (ClassType ∷ []) c (before (Some entry.ClassName))
class_begins c e owed rest = (
  λ d. class_type_of owed c rest (λ _ d. d) d,
  λ d. from_byte (ClassType ∷ owed) c 76 rest e (expands _ _ _ _ class_type (reads 76 _ _ d)),
)

pub class_refused : (c : ℕ) → c ≢ 76 → Refuses (ClassType ∷ []) c
class_refused c other owed rest d = class_type_of owed c rest (λ e _. other (sym e)) d

pub thrown_is_class : (c : ℕ) → c ≡ 76 → Leaves (Thrown ∷ []) c (before (Some entry.ClassName))
thrown_is_class c e owed rest = (
  λ d. thrown_of owed c rest (λ _ d. d) (λ f _. absurd (omega arith)) d,
  λ d. from_byte (Thrown ∷ owed) c 76 rest e (expands _ _ _ _ thrown_class (expands _ _ _ _ class_type (reads 76 _ _ d))),
)

pub thrown_is_variable : (c : ℕ) → c ≡ 84 → Leaves (Thrown ∷ []) c (before (Some entry.VariableName))
thrown_is_variable c e owed rest = (
  λ d. thrown_of owed c rest (λ f _. absurd (omega arith)) (λ _ d. d) d,
  λ d. from_byte (Thrown ∷ owed) c 84 rest e (expands _ _ _ _ thrown_variable (expands _ _ _ _ type_variable (reads 84 _ _ d))),
)

pub thrown_refused : (c : ℕ) → c ≢ 76 → c ≢ 84 → Refuses (Thrown ∷ []) c
thrown_refused c p q owed rest d = thrown_of owed c rest (λ f _. p (sym f)) (λ f _. q (sym f)) d

pub throws_begins : (c : ℕ) → c ≡ 94 → Leaves (Throws ∷ []) c (before (Some entry.Thrown))
throws_begins c e owed rest = (
  λ d. throws_of owed c rest (λ _ d. d) d,
  λ d. from_byte (Throws ∷ owed) c 94 rest e (expands _ _ _ _ throws (reads 94 _ _ d)),
)

pub throws_refused : (c : ℕ) → c ≢ 94 → Refuses (Throws ∷ []) c
throws_refused c other owed rest d = throws_of owed c rest (λ e _. other (sym e)) d

-- ---- marks and lists

pub mark_begins : (symbols : List Symbol) (m c : ℕ) → c ≡ m → Leaves (Mark m ∷ symbols) c (λ owed. symbols ++ owed)
mark_begins symbols m c e owed rest = (
  λ d. mark_of m (symbols ++ owed) c rest (λ _ d. d) d,
  λ d. from_byte (Mark m ∷ (symbols ++ owed)) c m rest e (reads m _ _ d),
)

pub mark_refused : (symbols : List Symbol) (m c : ℕ) → c ≢ m → Refuses (Mark m ∷ symbols) c
mark_refused symbols m c other owed rest d = mark_of m (symbols ++ owed) c rest (λ e _. other (sym e)) d

-- a list of s ends where the mark stands, unless an s may begin with it
pub many_ends : (s : Symbol) (symbols : List Symbol) (m c : ℕ) → Refuses (s ∷ []) m → c ≡ m → Leaves (Many s ∷ Mark m ∷ symbols) c (λ owed. symbols ++ owed)
many_ends s symbols m c other e owed rest = (
  λ d. many_of s (Mark m ∷ (symbols ++ owed)) (c ∷ rest) (λ d. (mark_begins symbols m c e owed rest).0 d) (λ d. absurd (other (Many s ∷ Mark m ∷ (symbols ++ owed)) rest (from_byte (s ∷ Many s ∷ Mark m ∷ (symbols ++ owed)) m c rest (sym e) d))) d,
  λ d. expands _ _ _ _ (no_more s) ((mark_begins symbols m c e owed rest).1 d),
)

pub many_goes_on : (s : Symbol) (symbols : List Symbol) (m c : ℕ) (answer : Option After) → c ≢ m → GivesAfter (s ∷ Many s ∷ Mark m ∷ symbols) c answer → GivesAfter (Many s ∷ Mark m ∷ symbols) c answer
many_goes_on s symbols m c None other h = λ owed rest d.
    many_of s (Mark m ∷ (symbols ++ owed)) (c ∷ rest) (λ d. mark_refused symbols m c other owed rest d) (λ d. h owed rest d) d
many_goes_on s symbols m c (Some after) other h = λ owed rest. (
  λ d. many_of s (Mark m ∷ (symbols ++ owed)) (c ∷ rest) (λ d. absurd (mark_refused symbols m c other owed rest d)) (λ d. (h owed rest).0 d) d,
  λ d. expands _ _ _ _ (one_more s) ((h owed rest).1 d),
)

-- ---- what may stand in front of a signature

pub params_begin : (symbols : List Symbol) (c : ℕ) → Refuses symbols 60 → c ≡ 60 → Leaves (Maybe Params ∷ symbols) c (λ owed. Param ∷ Many Param ∷ Mark 62 ∷ (symbols ++ owed))
params_begin symbols c other e owed rest = (
  λ d. maybe_of Params (symbols ++ owed) (c ∷ rest) (λ d. absurd (other owed rest (from_byte (symbols ++ owed) 60 c rest (sym e) d))) (params_of (symbols ++ owed) c rest (λ _ d. d)) d,
  λ d. from_byte (Maybe Params ∷ (symbols ++ owed)) c 60 rest e (expands _ _ _ _ (present Params) (expands _ _ _ _ params (reads 60 _ _ d))),
)

pub no_params : (symbols : List Symbol) (c : ℕ) (answer : Option After) → c ≢ 60 → GivesAfter symbols c answer → GivesAfter (Maybe Params ∷ symbols) c answer
no_params symbols c None other h = λ owed rest d.
    maybe_of Params (symbols ++ owed) (c ∷ rest) (λ d. h owed rest d) (params_of (symbols ++ owed) c rest (λ e _. other (sym e))) d
no_params symbols c (Some after) other h = λ owed rest. (
  λ d. maybe_of Params (symbols ++ owed) (c ∷ rest) (λ d. (h owed rest).0 d) (params_of (symbols ++ owed) c rest (λ e _. absurd (other (sym e)))) d,
  λ d. expands _ _ _ _ (absent Params) ((h owed rest).1 d),
)

-- ---- after the name of a class

pub suffix_begins : (c : ℕ) → c ≡ 46 → Leaves (Many Suffix ∷ Mark 59 ∷ []) c (before (Some entry.SimpleName))
suffix_begins c e owed rest = (
  λ d. suffixes_of owed c rest (λ f _. absurd (omega arith)) (λ _ d. d) d,
  λ d. from_byte (Many Suffix ∷ Mark 59 ∷ owed) c 46 rest e (expands _ _ _ _ (one_more Suffix) (expands _ _ _ _ suffix (reads 46 _ _ d))),
)

pub suffixes_end : (c : ℕ) → c ≡ 59 → Leaves (Many Suffix ∷ Mark 59 ∷ []) c (before None)
suffixes_end c e owed rest = (
  λ d. suffixes_of owed c rest (λ _ d. d) (λ f _. absurd (omega arith)) d,
  λ d. from_byte (Many Suffix ∷ Mark 59 ∷ owed) c 59 rest e (expands _ _ _ _ (no_more Suffix) (reads 59 _ _ d)),
)

pub suffixes_refused : (c : ℕ) → c ≢ 46 → c ≢ 59 → Refuses (Many Suffix ∷ Mark 59 ∷ []) c
suffixes_refused c p q owed rest d = suffixes_of owed c rest (λ e _. q (sym e)) (λ e _. p (sym e)) d

pub arguments_begin : (c : ℕ) → c ≡ 60 → Leaves (Maybe Arguments ∷ Many Suffix ∷ Mark 59 ∷ []) c (before (Some entry.FirstArgument))
arguments_begin c e owed rest = (
  λ d. maybe_of Arguments (Many Suffix ∷ Mark 59 ∷ owed) (c ∷ rest) (suffixes_of owed c rest (λ f _. absurd (omega arith)) (λ f _. absurd (omega arith))) (arguments_of (Many Suffix ∷ Mark 59 ∷ owed) c rest (λ _ d. d)) d,
  λ d. from_byte (Maybe Arguments ∷ Many Suffix ∷ Mark 59 ∷ owed) c 60 rest e (expands _ _ _ _ (present Arguments) (expands _ _ _ _ arguments (reads 60 _ _ d))),
)

pub no_arguments : (c : ℕ) (answer : Option (Option Owed)) → c ≢ 60 → GivesEntry (Many Suffix ∷ Mark 59 ∷ []) c answer → GivesEntry (Maybe Arguments ∷ Many Suffix ∷ Mark 59 ∷ []) c answer
no_arguments c None other h = λ owed rest d.
    maybe_of Arguments (Many Suffix ∷ Mark 59 ∷ owed) (c ∷ rest) (λ d. h owed rest d) (arguments_of (Many Suffix ∷ Mark 59 ∷ owed) c rest (λ e _. other (sym e))) d
no_arguments c (Some entry) other h = λ owed rest. (
  λ d. maybe_of Arguments (Many Suffix ∷ Mark 59 ∷ owed) (c ∷ rest) (λ d. (h owed rest).0 d) (arguments_of (Many Suffix ∷ Mark 59 ∷ owed) c rest (λ e _. absurd (other (sym e)))) d,
  λ d. expands _ _ _ _ (absent Arguments) ((h owed rest).1 d),
)

-- ---- arguments

pub argument_is_any : (c : ℕ) → c ≡ 42 → Leaves (Argument ∷ []) c (before None)
argument_is_any c e owed rest = (
  λ d. argument_of owed c rest (λ _ d. d) (λ f _. absurd (omega arith)) (λ f _. absurd (omega arith)) (λ d. absurd (reference_refused c (λ f. omega arith) (λ f. omega arith) (λ f. omega arith) owed rest d)) d,
  λ d. from_byte (Argument ∷ owed) c 42 rest e (expands _ _ _ _ any_type (reads 42 _ _ d)),
)

pub argument_extends : (c : ℕ) → c ≡ 43 → Leaves (Argument ∷ []) c (before (Some entry.Reference))
argument_extends c e owed rest = (
  λ d. argument_of owed c rest (λ f _. absurd (omega arith)) (λ _ d. d) (λ f _. absurd (omega arith)) (λ d. absurd (reference_refused c (λ f. omega arith) (λ f. omega arith) (λ f. omega arith) owed rest d)) d,
  λ d. from_byte (Argument ∷ owed) c 43 rest e (expands _ _ _ _ extends_type (reads 43 _ _ d)),
)

pub argument_super : (c : ℕ) → c ≡ 45 → Leaves (Argument ∷ []) c (before (Some entry.Reference))
argument_super c e owed rest = (
  λ d. argument_of owed c rest (λ f _. absurd (omega arith)) (λ f _. absurd (omega arith)) (λ _ d. d) (λ d. absurd (reference_refused c (λ f. omega arith) (λ f. omega arith) (λ f. omega arith) owed rest d)) d,
  λ d. from_byte (Argument ∷ owed) c 45 rest e (expands _ _ _ _ super_type (reads 45 _ _ d)),
)

pub argument_other : (c : ℕ) (answer : Option (Option Owed)) → c ≢ 42 → c ≢ 43 → c ≢ 45 → GivesEntry (ReferenceType ∷ []) c answer → GivesEntry (Argument ∷ []) c answer
argument_other c None p q r h = λ owed rest d. argument_of owed c rest (λ e _. p (sym e)) (λ e _. q (sym e)) (λ e _. r (sym e)) (λ d. h owed rest d) d
argument_other c (Some entry) p q r h = λ owed rest. (
  λ d. argument_of owed c rest (λ e _. absurd (p (sym e))) (λ e _. absurd (q (sym e))) (λ e _. absurd (r (sym e))) (λ d. (h owed rest).0 d) d,
  λ d. expands _ _ _ _ exact_type ((h owed rest).1 d),
)

pub java_refused : (c : ℕ) → (Contains base_types c → ⊥) → Refuses (ReferenceType ∷ []) c → Refuses (JavaType ∷ []) c
java_refused c other h owed rest d = java_of owed c rest (λ has _. other has) (λ d. h owed rest d) d

pub close_refused : Refuses (JavaType ∷ []) 41
close_refused owed rest d = java_refused 41 (λ has. no_base 41 41 refl has refl) (reference_refused 41 (omega arith) (omega arith) (omega arith)) owed rest d

pub argument_refuses_end : Refuses (Argument ∷ []) 62
argument_refuses_end owed rest d = argument_other 62 None (omega arith) (omega arith) (omega arith) (reference_refused 62 (omega arith) (omega arith) (omega arith)) owed rest d

pub class_refuses_params : Refuses (ClassType ∷ []) 60
class_refuses_params owed rest d = class_refused 60 (omega arith) owed rest d

pub method_refuses_params : Refuses (Mark 40 ∷ Many JavaType ∷ Mark 41 ∷ Result ∷ []) 60
method_refuses_params owed rest d = mark_refused (Many JavaType ∷ Mark 41 ∷ Result ∷ []) 40 60 (omega arith) owed rest d
