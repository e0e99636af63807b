use Rattle.std.proofs.Common.{sym, subst, ◌↔◌, ◌++◌, List, ℕ}
use Rattle.jc_base.specs.Signatures.{Derives, IsSignature}
use Rattle.jc_base.specs.inside.Owed.{symbols_of, tail_of}
use Rattle.jc_base.specs.declared.signatures.SigKind.{SigKind}
use Rattle.jc_base.specs.declared.signatures.Owed.TheVariants as entry
use Rattle.jc_base.proofs.grammar.Stack.{class_starts, method_starts}
use Rattle.jc_base.proofs.signatures.start.Goals as goal

pub returns-in-Class : goal.returns-in-Class
returns-in-Class c = subst (λ (k : SigKind). (text : List ℕ) → IsSignature k text ↔ Derives (symbols_of entry.Class ++ tail_of k) text) (sym c.in-Class.is) class_starts

pub returns-in-Method : goal.returns-in-Method
returns-in-Method c = subst (λ (k : SigKind). (text : List ℕ) → IsSignature k text ↔ Derives (symbols_of entry.Method ++ tail_of k) text) (sym c.in-Method.is) method_starts
