-- The faults of the code of methods, and their uses, one method on.
use Rattle.std.proofs.Common.{◌≡◌, ◌∙◌, ℕ, ◌+◌, List, ◌∷◌, ◌++◌, map, ap, sym}
use Rattle.jc_view.specs.ClassFile.{ClassFile}
use Rattle.jc_view.specs.Places.{PlacedMember}
use Rattle.jc_file.proofs.kinds.PlacedMembers.{members_of}
use Rattle.jc_code.specs.MethodFaults.{code_faults_from, method_faults}
use Rattle.jc_code.specs.MethodUses.{method_uses, uses_from}

pub next_method : (c : ClassFile) (count number next : ℕ) (left rest : List PlacedMember) (m : PlacedMember) → left ≡ m ∷ rest → number ≡ count → next ≡ count + 1
    → code_faults_from c count (members_of left) ≡ map (λ fault. (number, fault)) (method_faults c m.member) ++ code_faults_from c next (members_of rest)
next_method c count number next left rest m is at goes =
    ap (λ ms. code_faults_from c count (members_of ms)) is
    ∙ ap (λ n. map (λ fault. (n, fault)) (method_faults c m.member) ++ code_faults_from c (count + 1) (members_of rest)) (sym at)
    ∙ ap (λ n. map (λ fault. (number, fault)) (method_faults c m.member) ++ code_faults_from c n (members_of rest)) (sym goes)

pub next_uses : (c : ClassFile) (count number next : ℕ) (left rest : List PlacedMember) (m : PlacedMember) → left ≡ m ∷ rest → number ≡ count → next ≡ count + 1
    → uses_from c count (members_of left) ≡ method_uses c number m.member ++ uses_from c next (members_of rest)
next_uses c count number next left rest m is at goes =
    ap (λ ms. uses_from c count (members_of ms)) is
    ∙ ap (λ n. method_uses c n m.member ++ uses_from c (count + 1) (members_of rest)) (sym at)
    ∙ ap (λ n. method_uses c number m.member ++ uses_from c n (members_of rest)) (sym goes)
