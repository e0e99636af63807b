-- What must still follow in a signature: each entry of the parser's stack, as symbols of the grammar.
use Rattle.std.specs.Prelude.{◌≡◌, ℕ, ◌<◌, ◌↔◌, List, [], ◌∷◌, ◌++◌}
use Rattle.std.specs.Prelude.{length, Contains, Option, Some, None, MatchOption, fold}
use Rattle.jc_base.specs.declared.signatures.SigKind.{SigKind}
use Rattle.jc_base.specs.declared.signatures.SigKind.TheVariants as kind
use Rattle.jc_base.specs.declared.signatures.Owed.{Owed}
use Rattle.jc_base.specs.declared.signatures.Owed.TheVariants as entry
use Rattle.jc_base.specs.declared.signatures.After.{After}
use Rattle.jc_base.specs.declared.signatures.Step.{Step}
use Rattle.jc_base.specs.Names.{Lacks}
use Rattle.jc_base.specs.Signatures.{Symbol, Mark, Identifier, Maybe, Many, Result, Throws, Thrown, JavaType}
use Rattle.jc_base.specs.Signatures.{ReferenceType, ClassType, Package, SimpleClass, Suffix, Argument}
use Rattle.jc_base.specs.Signatures.{Params, Param, Bound, Derives, IsIdentifier, identifier_stops}

abbrev pub symbols_of : Owed → List Symbol
symbols_of entry.Class = Maybe Params ∷ ClassType ∷ []
symbols_of entry.Method = Maybe Params ∷ Mark 40 ∷ Many JavaType ∷ Mark 41 ∷ Result ∷ []
symbols_of entry.MethodTypes = Mark 40 ∷ Many JavaType ∷ Mark 41 ∷ Result ∷ []
symbols_of entry.Parameters = Many JavaType ∷ Mark 41 ∷ Result ∷ []
symbols_of entry.Result = Result ∷ []
symbols_of entry.Java = JavaType ∷ []
symbols_of entry.Reference = ReferenceType ∷ []
symbols_of entry.ClassType = ClassType ∷ []
symbols_of entry.Throws = Throws ∷ []
symbols_of entry.Thrown = Thrown ∷ []
symbols_of entry.VariableName = Identifier ∷ Mark 59 ∷ []
symbols_of entry.ClassName = Many Package ∷ SimpleClass ∷ Many Suffix ∷ Mark 59 ∷ []
symbols_of entry.SimpleName = SimpleClass ∷ Many Suffix ∷ Mark 59 ∷ []
symbols_of entry.Suffixes = Many Suffix ∷ Mark 59 ∷ []
symbols_of entry.FirstArgument = Argument ∷ Many Argument ∷ Mark 62 ∷ Many Suffix ∷ Mark 59 ∷ []
symbols_of entry.Arguments = Many Argument ∷ Mark 62 ∷ Many Suffix ∷ Mark 59 ∷ []
symbols_of entry.FirstParam = Param ∷ Many Param ∷ Mark 62 ∷ []
symbols_of entry.ClassBound = Maybe ReferenceType ∷ Many Bound ∷ Many Param ∷ Mark 62 ∷ []
symbols_of entry.Bounds = Many Bound ∷ Many Param ∷ Mark 62 ∷ []

-- the symbols that may follow any number of times when the stack is empty
abbrev pub tail_of : SigKind → List Symbol
tail_of kind.Class = Many ClassType ∷ []
tail_of kind.Method = Many Throws ∷ []
tail_of kind.Field = []

-- the symbols of an entry, if there is one, before other symbols
abbrev pub before : Option Owed → List Symbol → List Symbol
before None owed = owed
before (Some entry) owed = symbols_of entry ++ owed

-- the symbols of two entries, before other symbols
abbrev pub both_before : After → List Symbol → List Symbol
both_before after owed = before after.0 (before after.1 owed)

-- the symbols of the stack, its top first, before other symbols
abbrev pub stack_before : List Owed → List Symbol → List Symbol
stack_before stack owed = fold (λ w entry. symbols_of entry ++ w) owed stack

-- the symbols, before others, derive c and a rest if and only if `after` of the others derives the rest
abbrev pub Leaves : List Symbol → ℕ → (List Symbol → List Symbol) → Type 0
Leaves symbols c after =
    (owed : List Symbol) (rest : List ℕ) → Derives (symbols ++ owed) (c ∷ rest) ↔ Derives (after owed) rest

-- the symbols derive no text that begins with the byte c
abbrev pub Refuses : List Symbol → ℕ → Type 0
Refuses symbols c = (owed : List Symbol) (rest : List ℕ) → Derives (symbols ++ owed) (c ∷ rest) → ⊥

-- the result for the byte c: the entry that is left after c, or `None` if the symbols derive no text that begins with c
abbrev pub GivesEntry : List Symbol → ℕ → Option (Option Owed) → Type 0
GivesEntry symbols c answer = MatchOption answer (Refuses symbols c) (λ entry. Leaves symbols c (before entry))

-- the result for the byte c, if two entries are left
abbrev pub GivesAfter : List Symbol → ℕ → Option After → Type 0
GivesAfter symbols c answer = MatchOption answer (Refuses symbols c) (λ after. Leaves symbols c (both_before after))

-- no identifier contains this character
abbrev pub IsStop : ℕ → Type 0
IsStop c = Contains identifier_stops c

-- the text is a name, then the first character that no identifier contains, then the rest
pub record IsCut (text name : List ℕ) (c : ℕ) (rest : List ℕ) : Type 0 where
  pub split : text ≡ name ++ c ∷ rest
  pub lacks : Lacks name identifier_stops
  pub stop : IsStop c

-- the text begins with an identifier, then the byte c, which no identifier contains
pub record BeginsWithName (text : List ℕ) (c : ℕ) (rest : List ℕ) : Type 0 where
  pub name : List ℕ
  pub is : IsIdentifier name
  pub cut : IsCut text name c rest

-- all texts that the symbols derive begin with a character that no identifier contains
pub record BeginsWithStop (owed : List Symbol) : Type 0 where
  pub next : (c : ℕ) (rest : List ℕ) → Derives owed (c ∷ rest) → IsStop c
  pub some : ¬ Derives owed []

-- the text does not begin with an identifier that ends at such a character
abbrev pub BeginsWithNoName : List ℕ → Type 0
BeginsWithNoName text = (owed : List Symbol) → BeginsWithStop owed → ¬ Derives (Identifier ∷ owed) text

-- the first character of the text that no identifier contains is `:`
abbrev pub EndsAtColon : List ℕ → Type 0
EndsAtColon text = (name : List ℕ) × (rest : List ℕ) × IsCut text name 58 rest

-- the same as `Leaves`, if the text begins with an identifier and the byte c
abbrev pub LeavesNamed : List Symbol → ℕ → (List Symbol → List Symbol) → Type 0
LeavesNamed symbols c after =
    (owed : List Symbol) (text rest : List ℕ) → BeginsWithName text c rest
    → Derives (symbols ++ owed) text ↔ Derives (after owed) rest

-- the symbols derive no text that begins with an identifier and the byte c
abbrev pub RefusesNamed : List Symbol → ℕ → Type 0
RefusesNamed symbols c =
    (owed : List Symbol) (text rest : List ℕ) → BeginsWithName text c rest → Derives (symbols ++ owed) text → ⊥

-- the result for an identifier and the byte c
abbrev pub GivesNamed : List Symbol → ℕ → Option (Option Owed) → Type 0
GivesNamed symbols c answer =
    MatchOption answer (RefusesNamed symbols c) (λ entry. LeavesNamed symbols c (before entry))

-- the symbols derive the text if and only if `after` derives the rest, which is shorter
pub record LeavesRest (symbols : List Symbol) (text : List ℕ) (after : After) (rest : List ℕ) : Type 0 where
  pub less : length rest < length text
  pub same : (owed : List Symbol) → Derives (symbols ++ owed) text ↔ Derives (both_before after owed) rest

-- the result of a step on a text, or `None` if the symbols do not derive it, before any others
abbrev pub GivesStep : List Symbol → List ℕ → Option Step → Type 0
GivesStep symbols text answer =
    MatchOption answer ((owed : List Symbol) → ¬ Derives (symbols ++ owed) text)
    (λ step. LeavesRest symbols text step.after step.rest.now)

-- the result of the same step, with its entries and the rest of the text given separately
abbrev pub GivesRest : List Symbol → List ℕ → List ℕ → Option After → Type 0
GivesRest symbols text rest answer =
    MatchOption answer ((owed : List Symbol) → ¬ Derives (symbols ++ owed) text)
    (λ after. LeavesRest symbols text after rest)

-- the result of popping the stack: the entry at its top, or if it is empty, the entry that may be repeated
abbrev pub GivesTop : SigKind → List Owed → List Owed → Option Owed → Type 0
GivesTop kind old new answer =
    MatchOption answer ((c : ℕ) (rest : List ℕ) → ¬ Derives (stack_before old (tail_of kind)) (c ∷ rest))
    (λ entry. (c : ℕ) (rest : List ℕ) →
    Derives (stack_before old (tail_of kind)) (c ∷ rest)
    ↔ Derives (symbols_of entry ++ stack_before new (tail_of kind)) (c ∷ rest))

-- the result for an empty stack: the entry that may be repeated, if there is one
abbrev pub GivesRepeated : SigKind → Option Owed → Type 0
GivesRepeated kind answer =
    MatchOption answer ((c : ℕ) (rest : List ℕ) → ¬ Derives (tail_of kind) (c ∷ rest))
    (λ entry. (c : ℕ) (rest : List ℕ)
    → Derives (tail_of kind) (c ∷ rest) ↔ Derives (symbols_of entry ++ tail_of kind) (c ∷ rest))

-- one step of the parser, with its stack
pub record StackStep (kind : SigKind) (old new : List Owed) (text : List ℕ) (step : Step) : Type 0 where
  pub less : length step.rest.now < length text
  pub same :
      Derives (stack_before old (tail_of kind)) text
      ↔ Derives (both_before step.after (stack_before new (tail_of kind))) step.rest.now

-- the result of a step on a stack and a text
abbrev pub GivesStackStep : SigKind → List Owed → List Owed → List ℕ → Option Step → Type 0
GivesStackStep kind old new text answer =
    MatchOption answer (¬ Derives (stack_before old (tail_of kind)) text) (StackStep kind old new text)
