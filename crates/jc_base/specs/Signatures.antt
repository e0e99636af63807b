-- The grammar of signatures (JVMS 4.7.9.1).
use Rattle.std.specs.Prelude.{◌≡◌, ◌≢◌, ℕ, List, [], ◌∷◌, ◌++◌, Contains, codes}
use Rattle.jc_base.specs.declared.signatures.SigKind.{SigKind}
use Rattle.jc_base.specs.declared.signatures.SigKind.TheVariants as kind
use Rattle.jc_base.specs.ModifiedUtf8.{IsWellSpelled}
use Rattle.jc_base.specs.Names.{Lacks}
use Rattle.jc_base.specs.Descriptors.{base_types}

-- the characters that an identifier must not contain
abbrev pub identifier_stops : List ℕ
identifier_stops = codes ".;[/<>:"

-- the name of a class, a type variable or a package in a signature
abbrev pub IsIdentifier : List ℕ → Type 0
IsIdentifier b = IsWellSpelled b × (b ≢ []) × Lacks b identifier_stops

-- The symbols of the grammar. `Mark` is a character that denotes itself. `Maybe` is [ ] and `Many` is { } in the
-- notation of the standard. The names of the standard are longer: `Params` is TypeParameters, for example.
pub data Symbol : Type 0 where
  Mark : ℕ → Symbol
  Identifier : Symbol
  Maybe : Symbol → Symbol
  Many : Symbol → Symbol
  ClassSignature : Symbol
  MethodSignature : Symbol
  Result : Symbol
  Throws : Symbol
  Thrown : Symbol
  JavaType : Symbol
  ReferenceType : Symbol
  TypeVariable : Symbol
  ClassType : Symbol
  Package : Symbol
  SimpleClass : Symbol
  Suffix : Symbol
  Arguments : Symbol
  Argument : Symbol
  Params : Symbol
  Param : Symbol
  Bound : Symbol

-- the productions of the grammar. Marks are ASCII codes: 40 is `(`, 41 `)`, 42 `*`, 43 `+`, 45 `-`, 46 `.` and 47 `/`.
-- Further marks are 58 `:`, 59 `;`, 60 `<`, 62 `>`, 76 `L`, 84 `T`, 86 `V`, 91 `[` and 94 `^`
pub data Produces : Symbol → List Symbol → Type 0 where
  absent : (s : Symbol) → Produces (Maybe s) []
  present : (s : Symbol) → Produces (Maybe s) (s ∷ [])
  no_more : (s : Symbol) → Produces (Many s) []
  one_more : (s : Symbol) → Produces (Many s) (s ∷ Many s ∷ [])
  class_signature : Produces ClassSignature (Maybe Params ∷ ClassType ∷ Many ClassType ∷ [])
  method_signature : Produces MethodSignature (Maybe Params ∷ Mark 40 ∷ Many JavaType ∷ Mark 41 ∷ Result ∷ Many Throws ∷ [])
  result_type : Produces Result (JavaType ∷ [])
  result_void : Produces Result (Mark 86 ∷ [])
  throws : Produces Throws (Mark 94 ∷ Thrown ∷ [])
  thrown_class : Produces Thrown (ClassType ∷ [])
  thrown_variable : Produces Thrown (TypeVariable ∷ [])
  base_type : (c : ℕ) → Contains base_types c → Produces JavaType (Mark c ∷ [])
  reference_type : Produces JavaType (ReferenceType ∷ [])
  class_reference : Produces ReferenceType (ClassType ∷ [])
  variable_reference : Produces ReferenceType (TypeVariable ∷ [])
  array_reference : Produces ReferenceType (Mark 91 ∷ JavaType ∷ [])
  type_variable : Produces TypeVariable (Mark 84 ∷ Identifier ∷ Mark 59 ∷ [])
  class_type : Produces ClassType (Mark 76 ∷ Many Package ∷ SimpleClass ∷ Many Suffix ∷ Mark 59 ∷ [])
  package_name : Produces Package (Identifier ∷ Mark 47 ∷ [])
  simple_class : Produces SimpleClass (Identifier ∷ Maybe Arguments ∷ [])
  suffix : Produces Suffix (Mark 46 ∷ SimpleClass ∷ [])
  arguments : Produces Arguments (Mark 60 ∷ Argument ∷ Many Argument ∷ Mark 62 ∷ [])
  any_type : Produces Argument (Mark 42 ∷ [])
  exact_type : Produces Argument (ReferenceType ∷ [])
  extends_type : Produces Argument (Mark 43 ∷ ReferenceType ∷ [])
  super_type : Produces Argument (Mark 45 ∷ ReferenceType ∷ [])
  params : Produces Params (Mark 60 ∷ Param ∷ Many Param ∷ Mark 62 ∷ [])
  param : Produces Param (Identifier ∷ Mark 58 ∷ Maybe ReferenceType ∷ Many Bound ∷ [])
  bound : Produces Bound (Mark 58 ∷ ReferenceType ∷ [])

-- The symbols derive the text, which is read from the left. The first symbol is replaced by what it produces, unless it
-- is a mark or an identifier.
pub data Derives : List Symbol → List ℕ → Type 0 where
  ends : Derives [] []
  reads : (c : ℕ) (owed : List Symbol) (b : List ℕ) → Derives owed b → Derives (Mark c ∷ owed) (c ∷ b)
  names : (name : List ℕ) (owed : List Symbol) (text rest : List ℕ) → IsIdentifier name → text ≡ name ++ rest
      → Derives owed rest → Derives (Identifier ∷ owed) text
  expands : (s : Symbol) (made owed : List Symbol) (b : List ℕ) → Produces s made
      → Derives (made ++ owed) b → Derives (s ∷ owed) b

-- the start symbol of signatures of a kind
abbrev pub start : SigKind → Symbol
start kind.Class = ClassSignature
start kind.Method = MethodSignature
start kind.Field = ReferenceType

-- a signature of this kind
abbrev pub IsSignature : SigKind → List ℕ → Type 0
IsSignature kind b = Derives (start kind ∷ []) b
