-- The stack of the judge of signatures: each entry takes a byte or more.
use Rattle.std.proofs.Common.{◌≡◌, ◌≢◌, ℕ, ◌+◌, ◌<◌, ◌≤◌, List, [], ◌∷◌, ◌++◌, length, Option, Some, None, ◌↔◌, refl, sym, ap, subst, arith, lit≤, length-append}
use Rattle.jc_base.specs.declared.signatures.SigKind.{SigKind}
use Rattle.jc_base.specs.declared.signatures.SigKind.TheVariants as kind
use Rattle.jc_base.specs.declared.signatures.Owed.{Owed}
use Rattle.jc_base.specs.declared.signatures.Owed.TheVariants as entry
use Rattle.jc_base.specs.declared.signatures.Step.{Step}
use Rattle.jc_base.specs.Signatures.{Symbol, Mark, Maybe, Many, ClassSignature, MethodSignature, Result, Throws, JavaType, ClassType, Params, Produces, absent, present, no_more, one_more, class_signature, method_signature, result_type, result_void, throws, thrown_class, thrown_variable, base_type, reference_type, class_reference, variable_reference, array_reference, type_variable, class_type, package_name, simple_class, suffix, arguments, any_type, exact_type, extends_type, super_type, params, param, bound, Derives, ends, reads, names, expands, IsSignature, start}
use Rattle.jc_base.specs.inside.Owed.{symbols_of, tail_of, both_before, stack_before, GivesStep, GivesTop, GivesStackStep, StackStep}
use Rattle.jc_base.proofs.grammar.WaysToDerive.{many_of, nothing_of}

-- the fewest bytes that a symbol derives, 0 or 1
abbrev weight : Symbol → ℕ
weight (Maybe s) = 0
weight (Many s) = 0
weight _ = 1

abbrev total : List Symbol → ℕ
total [] = 0
total (s ∷ ss) = weight s + total ss

total-append : (xs ys : List Symbol) → total (xs ++ ys) ≡ total xs + total ys
total-append [] ys = omega arith
total-append (x ∷ xs) ys = omega (arith, total-append xs ys)

makes : (s : Symbol) (made : List Symbol) → Produces s made → weight s ≤ total made
makes _ _ (absent s) = omega arith
makes _ _ (present s) = omega arith
makes _ _ (no_more s) = omega arith
makes _ _ (one_more s) = omega arith
makes _ _ class_signature = lit≤ tt
makes _ _ method_signature = lit≤ tt
makes _ _ result_type = lit≤ tt
makes _ _ result_void = lit≤ tt
makes _ _ throws = lit≤ tt
makes _ _ thrown_class = lit≤ tt
makes _ _ thrown_variable = lit≤ tt
makes _ _ (base_type c has) = lit≤ tt
makes _ _ reference_type = lit≤ tt
makes _ _ class_reference = lit≤ tt
makes _ _ variable_reference = lit≤ tt
makes _ _ array_reference = lit≤ tt
makes _ _ type_variable = lit≤ tt
makes _ _ class_type = lit≤ tt
makes _ _ package_name = lit≤ tt
makes _ _ simple_class = lit≤ tt
makes _ _ suffix = lit≤ tt
makes _ _ arguments = lit≤ tt
makes _ _ any_type = lit≤ tt
makes _ _ exact_type = lit≤ tt
makes _ _ extends_type = lit≤ tt
makes _ _ super_type = lit≤ tt
makes _ _ params = lit≤ tt
makes _ _ param = lit≤ tt
makes _ _ bound = lit≤ tt

some_length : (b : List ℕ) → b ≢ [] → 1 ≤ length b
some_length [] some = absurd (some refl)
some_length (x ∷ b) some = omega arith

pub least : (ss : List Symbol) (b : List ℕ) → Derives ss b → total ss ≤ length b
least _ _ ends = omega arith
least _ _ (reads c owed b d) = omega (arith, least owed b d)
least _ _ (names name owed text rest is split d) =
    omega (arith, least owed rest d, ap length split, length-append name rest, some_length name is.1)
least _ _ (expands s made owed b makes_them d) =
    omega (arith, least (made ++ owed) b d, total-append made owed, makes s made makes_them)

entry_takes : (o : Owed) → 1 ≤ total (symbols_of o)
entry_takes entry.Class = lit≤ tt
entry_takes entry.Method = lit≤ tt
entry_takes entry.MethodTypes = lit≤ tt
entry_takes entry.Parameters = lit≤ tt
entry_takes entry.Result = lit≤ tt
entry_takes entry.Java = lit≤ tt
entry_takes entry.Reference = lit≤ tt
entry_takes entry.ClassType = lit≤ tt
entry_takes entry.Throws = lit≤ tt
entry_takes entry.Thrown = lit≤ tt
entry_takes entry.VariableName = lit≤ tt
entry_takes entry.ClassName = lit≤ tt
entry_takes entry.SimpleName = lit≤ tt
entry_takes entry.Suffixes = lit≤ tt
entry_takes entry.FirstArgument = lit≤ tt
entry_takes entry.Arguments = lit≤ tt
entry_takes entry.FirstParam = lit≤ tt
entry_takes entry.ClassBound = lit≤ tt
entry_takes entry.Bounds = lit≤ tt

pub nothing_left : (o : Owed) (text : List ℕ) → length text ≡ 0 → (owed : List Symbol) → Derives (symbols_of o ++ owed) text → ⊥
nothing_left o text none owed d = omega (arith, least (symbols_of o ++ owed) text d, total-append (symbols_of o) owed, entry_takes o)

stack_takes : (stack : List Owed) (owed : List Symbol) → length stack + total owed ≤ total (stack_before stack owed)
stack_takes [] owed = omega arith
stack_takes (o ∷ stack) owed = omega (arith, stack_takes stack (symbols_of o ++ owed), total-append (symbols_of o) owed, entry_takes o)

pub stack_fits : (stack : List Owed) (owed : List Symbol) (b : List ℕ) → Derives (stack_before stack owed) b → length stack ≤ length b
stack_fits stack owed b d = omega (arith, stack_takes stack owed, least (stack_before stack owed) b d)

-- ---- the beginning and the end

pub class_starts : (text : List ℕ) → Derives (ClassSignature ∷ []) text ↔ Derives (Maybe Params ∷ ClassType ∷ Many ClassType ∷ []) text
class_starts text = (λ d. class_of text d, λ d. expands _ _ _ _ class_signature d)
  where
    class_of : (text : List ℕ) → Derives (ClassSignature ∷ []) text → Derives (Maybe Params ∷ ClassType ∷ Many ClassType ∷ []) text
    class_of text (expands _ _ _ _ class_signature d) = d

pub method_starts : (text : List ℕ) → Derives (MethodSignature ∷ []) text ↔ Derives (Maybe Params ∷ Mark 40 ∷ Many JavaType ∷ Mark 41 ∷ Result ∷ Many Throws ∷ []) text
method_starts text = (λ d. method_of text d, λ d. expands _ _ _ _ method_signature d)
  where
    method_of : (text : List ℕ) → Derives (MethodSignature ∷ []) text → Derives (Maybe Params ∷ Mark 40 ∷ Many JavaType ∷ Mark 41 ∷ Result ∷ Many Throws ∷ []) text
    method_of text (expands _ _ _ _ method_signature d) = d

pub repeats : (s : Symbol) (c : ℕ) (rest : List ℕ) → Derives (Many s ∷ []) (c ∷ rest) ↔ Derives (s ∷ Many s ∷ []) (c ∷ rest)
repeats s c rest = (
  λ d. many_of s [] (c ∷ rest) (λ d. absurd (nothing_of c rest d)) (λ d. d) d,
  λ d. expands _ _ _ _ (one_more s) d,
)

pub tail_ends : (k : SigKind) → Derives (tail_of k) []
tail_ends kind.Class = expands _ _ _ _ (no_more ClassType) ends
tail_ends kind.Method = expands _ _ _ _ (no_more Throws) ends
tail_ends kind.Field = ends

pub stack_step : (k : SigKind) (old new : List Owed) (text : List ℕ) (o : Owed) (answer : Option Step) → 0 < length text → GivesTop k old new (Some o) → GivesStep (symbols_of o) text answer → GivesStackStep k old new text answer
stack_step k old new [] o answer some top h = absurd (omega arith)
stack_step k old new (c ∷ rest) o None some top h = λ d. h (stack_before new (tail_of k)) ((top c rest).0 d)
stack_step k old new (c ∷ rest) o (Some step) some top h = record {
  less = h.less;
  same = (
    λ d. (h.same (stack_before new (tail_of k))).0 ((top c rest).0 d),
    λ d. (top c rest).1 ((h.same (stack_before new (tail_of k))).1 d),
  );
}

pub no_top : (k : SigKind) (old new : List Owed) (text : List ℕ) → 0 < length text → GivesTop k old new None → Derives (stack_before old (tail_of k)) text → ⊥
no_top k old new [] some top d = omega arith
no_top k old new (c ∷ rest) some top d = top c rest d

-- ---- the judge

-- whether the text is a signature hangs on the stack and on what is left alone, and each entry of
-- the stack has a byte that is left
pub record IsJudged (kind : SigKind) (text : List ℕ) (stack : List Owed) (rest : List ℕ) : Type 0 where
  pub same : IsSignature kind text ↔ Derives (stack_before stack (tail_of kind)) rest
  pub room : length stack ≤ length rest

pub judge_refuses : (k : SigKind) (text : List ℕ) (old mid new : List Owed) (rest : List ℕ) (step : Step) → IsJudged k text old rest → StackStep k old mid rest step
    → ((owed : List Symbol) → stack_before new owed ≡ both_before step.after (stack_before mid owed)) → length step.rest.now < length new → IsSignature k text → ⊥
judge_refuses k text old mid new rest step judged stepped pushed room is =
    omega (arith, stack_fits new (tail_of k) step.rest.now (subst (λ w. Derives w step.rest.now) (sym (pushed (tail_of k))) (stepped.same.0 (judged.same.0 is))))

pub judge_ends : (k : SigKind) (text : List ℕ) (stack : List Owed) (rest : List ℕ) → IsJudged k text stack rest → length rest ≡ 0 → IsSignature k text ↔ (length stack ≡ 0)
judge_ends k text stack (c ∷ rest) judged none = absurd (omega arith)
judge_ends k text [] [] judged none = (λ _. refl, λ _. judged.same.1 (tail_ends k))
judge_ends k text (o ∷ stack) [] judged none = absurd (omega (arith, judged.room))

start_takes : (k : SigKind) → 1 ≤ weight (start k)
start_takes kind.Class = lit≤ tt
start_takes kind.Method = lit≤ tt
start_takes kind.Field = lit≤ tt

pub no_empty_signature : (k : SigKind) (text : List ℕ) → length text ≡ 0 → IsSignature k text → ⊥
no_empty_signature k text none d = omega (arith, least (start k ∷ []) text d, start_takes k)
