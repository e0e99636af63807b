-- Faults against rules that are appended one after the other.
use Rattle.std.proofs.Common.{◌≡◌, ◌∙◌, ℕ, Bool, true, false, cond, not, ◌&&◌, List, [], ◌∷◌, ◌++◌, ap, sym, append-nil, append_assoc}
use Rattle.std.proofs.lemmas.Bool.{false≢true}
use Rattle.jc_code.specs.declared.code_fault.CodeFault.{CodeFault}
use Rattle.jc_code.specs.declared.code_fault.CodeRule.{CodeRule}
use Rattle.jc_code.specs.declared.code_fault.CodeRule.TheVariants as rules
use Rattle.jc_code.specs.CodeFaults.{fault_at}

-- a fault, if the rule is broken
abbrev pub one : ℕ → CodeRule → Bool → List CodeFault
one place rule is_broken = cond is_broken (fault_at rule place ∷ []) []

-- of one rule
pub only_one : (place : ℕ) (r : CodeRule) (a t : Bool) (old new : List CodeFault) → a ≡ t → new ≡ old ++ one place r a → new ≡ old ++ (one place r t ++ [])
only_one place r a t old new e is = is ∙ ap (λ b. old ++ one place r b) e ∙ ap (λ l. old ++ l) (sym (append-nil (one place r t)))

-- behind those that were appended before
pub one_more : (place : ℕ) (r : CodeRule) (a t : Bool) (old before mid new : List CodeFault) → a ≡ t → mid ≡ old ++ before → new ≡ mid ++ one place r a → new ≡ old ++ (before ++ one place r t)
one_more place r a t old before mid new e so_far is =
    is
    ∙ ap (λ b. mid ++ one place r b) e
    ∙ ap (λ m. m ++ one place r t) so_far
    ∙ append_assoc old before (one place r t)

pub two : (place : ℕ) (r s : CodeRule) (a t b u : Bool) (old mid new : List CodeFault) → a ≡ t → b ≡ u → mid ≡ old ++ one place r a → new ≡ mid ++ one place s b
    → new ≡ old ++ (one place r t ++ (one place s u ++ []))
two place r s a t b u old mid new e f is then =
    one_more place s b u old (one place r t) mid new f (is ∙ ap (λ x. old ++ one place r x) e) then
    ∙ ap (λ l. old ++ (one place r t ++ l)) (sym (append-nil (one place s u)))

pub three : (place : ℕ) (q r s : CodeRule) (a t b u c v : Bool) (old first mid new : List CodeFault) → a ≡ t → b ≡ u → c ≡ v
    → first ≡ old ++ one place q a → mid ≡ first ++ one place r b → new ≡ mid ++ one place s c
    → new ≡ old ++ (one place q t ++ (one place r u ++ (one place s v ++ [])))
three place q r s a t b u c v old first mid new e f g is then last =
    one_more place s c v old (one place q t ++ one place r u) mid new g (one_more place r b u old (one place q t) first mid f (is ∙ ap (λ x. old ++ one place q x) e) then) last
    ∙ ap (λ l. old ++ l) (append_assoc (one place q t) (one place r u) (one place s v))
    ∙ ap (λ l. old ++ (one place q t ++ (one place r u ++ l))) (sym (append-nil (one place s v)))

pub four : (place : ℕ) (p q r s : CodeRule) (a t b u c v d w : Bool) (old first next mid new : List CodeFault) → a ≡ t → b ≡ u → c ≡ v → d ≡ w
    → first ≡ old ++ one place p a → next ≡ first ++ one place q b → mid ≡ next ++ one place r c → new ≡ mid ++ one place s d
    → new ≡ old ++ (one place p t ++ (one place q u ++ (one place r v ++ (one place s w ++ []))))
four place p q r s a t b u c v d w old first next mid new e f g h is then later last =
    one_more place s d w old (one place p t ++ (one place q u ++ (one place r v ++ []))) mid new h (three place p q r a t b u c v old first next mid e f g is then later) last
    ∙ ap (λ l. old ++ l) (append_assoc (one place p t) (one place q u ++ (one place r v ++ [])) (one place s w))
    ∙ ap (λ l. old ++ (one place p t ++ l)) (append_assoc (one place q u) (one place r v ++ []) (one place s w))
    ∙ ap (λ l. old ++ (one place p t ++ (one place q u ++ l))) (append_assoc (one place r v) [] (one place s w))
    ∙ ap (λ l. old ++ (one place p t ++ (one place q u ++ (one place r v ++ l)))) (sym (append-nil (one place s w)))

-- ---- an invocation, by its entry

pub right_entry : (place : ℕ) (n m bad : Bool) (old new : List CodeFault) → not n && not m ≡ true → new ≡ old ++ one place rules.S16 bad
    → new ≡ old ++ (one place rules.S9 n ++ (one place rules.S10 m ++ (one place rules.S16 ((not n && not m) && bad) ++ [])))
right_entry place true m bad old new right is = absurd (false≢true right)
right_entry place false true bad old new right is = absurd (false≢true right)
right_entry place false false bad old new right is = is ∙ ap (λ l. old ++ l) (sym (append-nil (one place rules.S16 bad)))

-- by whether it is invokevirtual
pub wrong_virtual : (place : ℕ) (is_virtual lacks other bad : Bool) (old new : List CodeFault) → is_virtual ≡ true → not (is_virtual && lacks) && not (not is_virtual && other) ≡ false
    → new ≡ old ++ one place rules.S9 true
    → new ≡ old ++ (one place rules.S9 (is_virtual && lacks) ++ (one place rules.S10 (not is_virtual && other) ++ (one place rules.S16 ((not (is_virtual && lacks) && not (not is_virtual && other)) && bad) ++ [])))
wrong_virtual place false lacks other bad old new e wrong is = absurd (false≢true e)
wrong_virtual place true true other bad old new e wrong is = is
wrong_virtual place true false other bad old new e wrong is = absurd (false≢true (sym wrong))

pub wrong_other : (place : ℕ) (is_virtual lacks other bad : Bool) (old new : List CodeFault) → is_virtual ≡ false → not (is_virtual && lacks) && not (not is_virtual && other) ≡ false
    → new ≡ old ++ one place rules.S10 true
    → new ≡ old ++ (one place rules.S9 (is_virtual && lacks) ++ (one place rules.S10 (not is_virtual && other) ++ (one place rules.S16 ((not (is_virtual && lacks) && not (not is_virtual && other)) && bad) ++ [])))
wrong_other place true lacks other bad old new e wrong is = absurd (false≢true (sym e))
wrong_other place false lacks true bad old new e wrong is = is
wrong_other place false lacks false bad old new e wrong is = absurd (false≢true (sym wrong))
