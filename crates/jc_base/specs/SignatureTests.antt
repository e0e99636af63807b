-- A function that decides whether a text is a signature. The law `signatures_are_decided` says that it does. It tries
-- each production of each symbol, and each prefix that may be an identifier.
use Rattle.std.specs.Prelude.{ℕ, zero, suc, ◌+◌, ◌*◌, Bool, false, ◌&&◌, ◌==◌}
use Rattle.std.specs.Prelude.{not, List, [], ◌∷◌, ◌++◌, length, take, drop, map, is_some}
use Rattle.std.specs.List.{list_any, range_with_len}
use Rattle.jc_base.specs.declared.signatures.SigKind.{SigKind}
use Rattle.jc_base.specs.Descriptors.{base_types}
use Rattle.jc_base.specs.DescriptorTests.{begins_with}
use Rattle.jc_base.specs.Signatures.{identifier_stops, Symbol, Mark, Identifier, Maybe, Many, ClassSignature, MethodSignature}
use Rattle.jc_base.specs.Signatures.{Result, Throws, Thrown, JavaType, ReferenceType, TypeVariable, ClassType, Package}
use Rattle.jc_base.specs.Signatures.{SimpleClass, Suffix, Arguments, Argument, Params, Param, Bound, start}
use Rattle.jc_base.specs.TextTests.{units_of, has_none_of}

-- the name of a class, a type variable or a package in a signature
abbrev pub is_identifier : List ℕ → Bool
is_identifier b = is_some (units_of b) && (not (length b == 0) && has_none_of identifier_stops b)

-- the right-hand sides of the productions of a symbol
abbrev pub productions : Symbol → List (List Symbol)
productions (Mark c) = []
productions Identifier = []
productions (Maybe s) = [] ∷ (s ∷ []) ∷ []
productions (Many s) = [] ∷ (s ∷ Many s ∷ []) ∷ []
productions ClassSignature = (Maybe Params ∷ ClassType ∷ Many ClassType ∷ []) ∷ []
productions MethodSignature = (Maybe Params ∷ Mark 40 ∷ Many JavaType ∷ Mark 41 ∷ Result ∷ Many Throws ∷ []) ∷ []
productions Result = (JavaType ∷ []) ∷ (Mark 86 ∷ []) ∷ []
productions Throws = (Mark 94 ∷ Thrown ∷ []) ∷ []
productions Thrown = (ClassType ∷ []) ∷ (TypeVariable ∷ []) ∷ []
productions JavaType = (ReferenceType ∷ []) ∷ map (λ c. Mark c ∷ []) base_types
productions ReferenceType = (ClassType ∷ []) ∷ (TypeVariable ∷ []) ∷ (Mark 91 ∷ JavaType ∷ []) ∷ []
productions TypeVariable = (Mark 84 ∷ Identifier ∷ Mark 59 ∷ []) ∷ []
productions ClassType = (Mark 76 ∷ Many Package ∷ SimpleClass ∷ Many Suffix ∷ Mark 59 ∷ []) ∷ []
productions Package = (Identifier ∷ Mark 47 ∷ []) ∷ []
productions SimpleClass = (Identifier ∷ Maybe Arguments ∷ []) ∷ []
productions Suffix = (Mark 46 ∷ SimpleClass ∷ []) ∷ []
productions Arguments = (Mark 60 ∷ Argument ∷ Many Argument ∷ Mark 62 ∷ []) ∷ []
productions Argument =
    (Mark 42 ∷ []) ∷ (ReferenceType ∷ []) ∷ (Mark 43 ∷ ReferenceType ∷ []) ∷ (Mark 45 ∷ ReferenceType ∷ []) ∷ []
productions Params = (Mark 60 ∷ Param ∷ Many Param ∷ Mark 62 ∷ []) ∷ []
productions Param = (Identifier ∷ Mark 58 ∷ Maybe ReferenceType ∷ Many Bound ∷ []) ∷ []
productions Bound = (Mark 58 ∷ ReferenceType ∷ []) ∷ []

-- the symbols derive the text in at most n steps. A step reads or replaces the first symbol, or finds that nothing is
-- left.
unfoldable pub derives_within : ℕ → List Symbol → List ℕ → Bool
derives_within zero owed b = false
derives_within (suc fuel) [] b = length b == 0
derives_within (suc fuel) (Mark c ∷ owed) b = begins_with c b && derives_within fuel owed (drop 1 b)
derives_within (suc fuel) (Identifier ∷ owed) b =
    list_any (λ n. is_identifier (take n b) && derives_within fuel owed (drop n b)) (range_with_len 0 (length b + 1))
derives_within (suc fuel) (s ∷ owed) b = list_any (λ made. derives_within fuel (made ++ owed) b) (productions s)

-- a signature of this kind; its derivation has at most four steps for each byte
unfoldable pub is_signature : SigKind → List ℕ → Bool
is_signature kind b = derives_within (4 * length b) (start kind ∷ []) b
