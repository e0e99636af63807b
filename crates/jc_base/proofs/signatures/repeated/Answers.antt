use Rattle.std.proofs.Common.{sym, subst, ◌↔◌, ◌∷◌, ◌++◌, List, ℕ}
use Rattle.jc_base.specs.Signatures.{Derives, ClassType, Throws}
use Rattle.jc_base.specs.inside.Owed.{symbols_of, tail_of}
use Rattle.jc_base.specs.declared.signatures.SigKind.{SigKind}
use Rattle.jc_base.specs.declared.signatures.Owed.TheVariants as entry
use Rattle.jc_base.proofs.grammar.Stack.{repeats}
use Rattle.jc_base.proofs.signatures.repeated.Goals as goal

pub returns-in-Class : goal.returns-in-Class
returns-in-Class c = subst (λ (k : SigKind). (c : ℕ) (rest : List ℕ) → Derives (tail_of k) (c ∷ rest) ↔ Derives (symbols_of entry.ClassType ++ tail_of k) (c ∷ rest)) (sym c.in-Class.is) (repeats ClassType)

pub returns-in-Method : goal.returns-in-Method
returns-in-Method c = subst (λ (k : SigKind). (c : ℕ) (rest : List ℕ) → Derives (tail_of k) (c ∷ rest) ↔ Derives (symbols_of entry.Throws ++ tail_of k) (c ∷ rest)) (sym c.in-Method.is) (repeats Throws)
