-- What a symbol in front derives, way by way: each lemma goes on with what every way leaves.
use Rattle.std.proofs.Common.{◌≡◌, ℕ, List, [], ◌∷◌, ◌++◌, refl, subst}
use Rattle.std.specs.List.{Contains}
use Rattle.jc_base.specs.Descriptors.{base_types}
use Rattle.jc_base.specs.Signatures.{Symbol, Mark, Identifier, Maybe, Many, Result, Throws, Thrown, JavaType, ReferenceType, TypeVariable, ClassType, Package, SimpleClass, Suffix, Arguments, Argument, Params, Param, Bound, absent, present, no_more, one_more, result_type, result_void, throws, thrown_class, thrown_variable, base_type, reference_type, class_reference, variable_reference, array_reference, type_variable, class_type, package_name, simple_class, suffix, arguments, any_type, exact_type, extends_type, super_type, params, param, bound, Derives, reads, names, expands, IsIdentifier}

pub mark_of : {P : Type 0} → (m : ℕ) (owed : List Symbol) (c : ℕ) (rest : List ℕ) → (m ≡ c → Derives owed rest → P) → Derives (Mark m ∷ owed) (c ∷ rest) → P
mark_of m owed c rest k (reads _ _ _ d) = k refl d
mark_of m owed c rest k (expands _ _ _ _ made d) = elim made [ ]

pub maybe_of : {P : Type 0} → (s : Symbol) (owed : List Symbol) (b : List ℕ) → (Derives owed b → P) → (Derives (s ∷ owed) b → P) → Derives (Maybe s ∷ owed) b → P
maybe_of s owed b k l (expands _ _ _ _ (absent _) d) = k d
maybe_of s owed b k l (expands _ _ _ _ (present _) d) = l d

pub many_of : {P : Type 0} → (s : Symbol) (owed : List Symbol) (b : List ℕ) → (Derives owed b → P) → (Derives (s ∷ Many s ∷ owed) b → P) → Derives (Many s ∷ owed) b → P
many_of s owed b k l (expands _ _ _ _ (no_more _) d) = k d
many_of s owed b k l (expands _ _ _ _ (one_more _) d) = l d

pub class_type_of : {P : Type 0} → (owed : List Symbol) (c : ℕ) (rest : List ℕ) → (76 ≡ c → Derives (Many Package ∷ SimpleClass ∷ Many Suffix ∷ Mark 59 ∷ owed) rest → P) → Derives (ClassType ∷ owed) (c ∷ rest) → P
class_type_of owed c rest k (expands _ _ _ _ class_type d) = mark_of 76 (Many Package ∷ SimpleClass ∷ Many Suffix ∷ Mark 59 ∷ owed) c rest k d

pub variable_of : {P : Type 0} → (owed : List Symbol) (c : ℕ) (rest : List ℕ) → (84 ≡ c → Derives (Identifier ∷ Mark 59 ∷ owed) rest → P) → Derives (TypeVariable ∷ owed) (c ∷ rest) → P
variable_of owed c rest k (expands _ _ _ _ type_variable d) = mark_of 84 (Identifier ∷ Mark 59 ∷ owed) c rest k d

pub reference_of : {P : Type 0} → (owed : List Symbol) (c : ℕ) (rest : List ℕ) → (76 ≡ c → Derives (Many Package ∷ SimpleClass ∷ Many Suffix ∷ Mark 59 ∷ owed) rest → P) → (84 ≡ c → Derives (Identifier ∷ Mark 59 ∷ owed) rest → P) → (91 ≡ c → Derives (JavaType ∷ owed) rest → P)
    → Derives (ReferenceType ∷ owed) (c ∷ rest) → P
reference_of owed c rest k l m (expands _ _ _ _ class_reference d) = class_type_of owed c rest k d
reference_of owed c rest k l m (expands _ _ _ _ variable_reference d) = variable_of owed c rest l d
reference_of owed c rest k l m (expands _ _ _ _ array_reference d) = mark_of 91 (JavaType ∷ owed) c rest m d

pub java_of : {P : Type 0} → (owed : List Symbol) (c : ℕ) (rest : List ℕ) → (Contains base_types c → Derives owed rest → P) → (Derives (ReferenceType ∷ owed) (c ∷ rest) → P) → Derives (JavaType ∷ owed) (c ∷ rest) → P
java_of owed c rest k l (expands _ _ _ _ (base_type m has) d) = mark_of m owed c rest (λ e rests. k (subst (Contains base_types) e has) rests) d
java_of owed c rest k l (expands _ _ _ _ reference_type d) = l d

pub result_of : {P : Type 0} → (owed : List Symbol) (c : ℕ) (rest : List ℕ) → (86 ≡ c → Derives owed rest → P) → (Derives (JavaType ∷ owed) (c ∷ rest) → P) → Derives (Result ∷ owed) (c ∷ rest) → P
result_of owed c rest k l (expands _ _ _ _ result_void d) = mark_of 86 owed c rest k d
result_of owed c rest k l (expands _ _ _ _ result_type d) = l d

pub params_of : {P : Type 0} → (owed : List Symbol) (c : ℕ) (rest : List ℕ) → (60 ≡ c → Derives (Param ∷ Many Param ∷ Mark 62 ∷ owed) rest → P) → Derives (Params ∷ owed) (c ∷ rest) → P
params_of owed c rest k (expands _ _ _ _ params d) = mark_of 60 (Param ∷ Many Param ∷ Mark 62 ∷ owed) c rest k d

pub throws_of : {P : Type 0} → (owed : List Symbol) (c : ℕ) (rest : List ℕ) → (94 ≡ c → Derives (Thrown ∷ owed) rest → P) → Derives (Throws ∷ owed) (c ∷ rest) → P
throws_of owed c rest k (expands _ _ _ _ throws d) = mark_of 94 (Thrown ∷ owed) c rest k d

pub thrown_of : {P : Type 0} → (owed : List Symbol) (c : ℕ) (rest : List ℕ) → (76 ≡ c → Derives (Many Package ∷ SimpleClass ∷ Many Suffix ∷ Mark 59 ∷ owed) rest → P) → (84 ≡ c → Derives (Identifier ∷ Mark 59 ∷ owed) rest → P) → Derives (Thrown ∷ owed) (c ∷ rest) → P
thrown_of owed c rest k l (expands _ _ _ _ thrown_class d) = class_type_of owed c rest k d
thrown_of owed c rest k l (expands _ _ _ _ thrown_variable d) = variable_of owed c rest l d

pub suffix_of : {P : Type 0} → (owed : List Symbol) (c : ℕ) (rest : List ℕ) → (46 ≡ c → Derives (SimpleClass ∷ owed) rest → P) → Derives (Suffix ∷ owed) (c ∷ rest) → P
suffix_of owed c rest k (expands _ _ _ _ suffix d) = mark_of 46 (SimpleClass ∷ owed) c rest k d

pub suffixes_of : {P : Type 0} → (owed : List Symbol) (c : ℕ) (rest : List ℕ) → (59 ≡ c → Derives owed rest → P) → (46 ≡ c → Derives (SimpleClass ∷ Many Suffix ∷ Mark 59 ∷ owed) rest → P) → Derives (Many Suffix ∷ Mark 59 ∷ owed) (c ∷ rest) → P
suffixes_of owed c rest k l d =
    many_of Suffix (Mark 59 ∷ owed) (c ∷ rest) (mark_of 59 owed c rest k) (suffix_of (Many Suffix ∷ Mark 59 ∷ owed) c rest l) d

pub arguments_of : {P : Type 0} → (owed : List Symbol) (c : ℕ) (rest : List ℕ) → (60 ≡ c → Derives (Argument ∷ Many Argument ∷ Mark 62 ∷ owed) rest → P) → Derives (Arguments ∷ owed) (c ∷ rest) → P
arguments_of owed c rest k (expands _ _ _ _ arguments d) = mark_of 60 (Argument ∷ Many Argument ∷ Mark 62 ∷ owed) c rest k d

pub argument_of : {P : Type 0} → (owed : List Symbol) (c : ℕ) (rest : List ℕ) → (42 ≡ c → Derives owed rest → P) → (43 ≡ c → Derives (ReferenceType ∷ owed) rest → P) → (45 ≡ c → Derives (ReferenceType ∷ owed) rest → P) → (Derives (ReferenceType ∷ owed) (c ∷ rest) → P)
    → Derives (Argument ∷ owed) (c ∷ rest) → P
argument_of owed c rest k l m n (expands _ _ _ _ any_type d) = mark_of 42 owed c rest k d
argument_of owed c rest k l m n (expands _ _ _ _ extends_type d) = mark_of 43 (ReferenceType ∷ owed) c rest l d
argument_of owed c rest k l m n (expands _ _ _ _ super_type d) = mark_of 45 (ReferenceType ∷ owed) c rest m d
argument_of owed c rest k l m n (expands _ _ _ _ exact_type d) = n d

pub bound_of : {P : Type 0} → (owed : List Symbol) (c : ℕ) (rest : List ℕ) → (58 ≡ c → Derives (ReferenceType ∷ owed) rest → P) → Derives (Bound ∷ owed) (c ∷ rest) → P
bound_of owed c rest k (expands _ _ _ _ bound d) = mark_of 58 (ReferenceType ∷ owed) c rest k d

pub simple_class_of : (owed : List Symbol) (b : List ℕ) → Derives (SimpleClass ∷ owed) b → Derives (Identifier ∷ Maybe Arguments ∷ owed) b
simple_class_of owed b (expands _ _ _ _ simple_class d) = d

pub package_of : (owed : List Symbol) (b : List ℕ) → Derives (Package ∷ owed) b → Derives (Identifier ∷ Mark 47 ∷ owed) b
package_of owed b (expands _ _ _ _ package_name d) = d

pub param_of : (owed : List Symbol) (b : List ℕ) → Derives (Param ∷ owed) b → Derives (Identifier ∷ Mark 58 ∷ Maybe ReferenceType ∷ Many Bound ∷ owed) b
param_of owed b (expands _ _ _ _ param d) = d

pub identifier_of : {P : Type 0} → (owed : List Symbol) (text : List ℕ) → ((name rest : List ℕ) → IsIdentifier name → text ≡ name ++ rest → Derives owed rest → P) → Derives (Identifier ∷ owed) text → P
identifier_of owed text k (names name _ _ rest is split d) = k name rest is split d
identifier_of owed text k (expands _ _ _ _ made d) = elim made [ ]

pub nothing_of : (c : ℕ) (rest : List ℕ) → Derives [] (c ∷ rest) → ⊥
nothing_of c rest d = elim d [ ]
