-- The faults of the codes of the methods, one method after the other.
use Rattle.std.proofs.Common.{◌≡◌, ◌∙◌, ℕ, ◌+◌, Bool, true, false, not, ◌||◌, ◌==◌, List, [], ◌∷◌, ◌++◌, length, map, Option, Some, None, option_map, refl, ap, sym, arith}
use Rattle.std.specs.List.{flat_map}
use Rattle.std.specs.Option.{option_map_or}
use Rattle.std.proofs.lemmas.List.Folds.{flat_map-map}
use Rattle.std.proofs.lemmas.Grind.{flat_map-append}
use Rattle.std.proofs.lemmas.Bool.Decides.{nat_tests}
use Rattle.jc_view.specs.ClassFile.{ClassFile, Member}
use Rattle.jc_view.specs.Places.{PlacedMember}
use Rattle.jc_view.specs.Attributes.{Code}
use Rattle.jc_view.specs.Lent.{LentCode}
use Rattle.jc_file.proofs.kinds.PlacedMembers.{members_of}
use Rattle.jc_code.specs.declared.code_fault.CodeFault.{CodeFault}
use Rattle.jc_code.specs.CodeFaults.{code_of_member, faults_of}
use Rattle.jc_list.specs.FaultLines.{code_fault_line}
use Rattle.jc_code.specs.MethodFaults.{code_faults_from, method_faults}

abbrev code_in : Option LentCode → Option Code
code_in r = option_map (λ lent. lent.code) r

-- ---- of one method

no_code : (c : ClassFile) (r : Option LentCode) (o : Option Code) → code_in r ≡ o → r ≡ None → [] ≡ option_map_or (faults_of c) o []
no_code c r o same none = ap (λ k. option_map_or (faults_of c) (code_in k) []) (sym none) ∙ ap (λ k. option_map_or (faults_of c) k []) same

pub none_of_method : (c : ClassFile) (m : Member) (r : Option LentCode) → code_in r ≡ code_of_member c m → r ≡ None → [] ≡ method_faults c m
none_of_method c m r same none = no_code c r (code_of_member c m) same none

pub all_of_method : (c : ClassFile) (m : Member) (r : Option LentCode) (k : LentCode) → code_in r ≡ code_of_member c m → r ≡ Some k → faults_of c k.code ≡ method_faults c m
all_of_method c m r k same some = ap (λ o. option_map_or (faults_of c) (code_in o) []) (sym some) ∙ ap (λ o. option_map_or (faults_of c) o []) same

-- the lines of a method
pub lines_of_method : (number : ℕ) (found : List CodeFault) → flat_map code_fault_line (map (λ fault. (number, fault)) found) ≡ flat_map (λ fault. code_fault_line (number, fault)) found
lines_of_method number found = flat_map-map code_fault_line (λ fault. (number, fault)) found

-- ---- one method on

pub next_method : (c : ClassFile) (count number next : ℕ) (left rest : List PlacedMember) (m : PlacedMember) → left ≡ m ∷ rest → number ≡ count → next ≡ count + 1
    → code_faults_from c count (members_of left) ≡ map (λ fault. (number, fault)) (method_faults c m.member) ++ code_faults_from c next (members_of rest)
next_method c count number next left rest m is at goes =
    ap (λ ms. code_faults_from c count (members_of ms)) is
    ∙ ap (λ n. map (λ fault. (n, fault)) (method_faults c m.member) ++ code_faults_from c (count + 1) (members_of rest)) (sym at)
    ∙ ap (λ n. map (λ fault. (number, fault)) (method_faults c m.member) ++ code_faults_from c n (members_of rest)) (sym goes)

pub next_lines : (c : ClassFile) (count number next : ℕ) (left rest : List PlacedMember) (m : PlacedMember) → left ≡ m ∷ rest → number ≡ count → next ≡ count + 1
    → flat_map code_fault_line (code_faults_from c count (members_of left))
    ≡ flat_map code_fault_line (map (λ fault. (number, fault)) (method_faults c m.member)) ++ flat_map code_fault_line (code_faults_from c next (members_of rest))
next_lines c count number next left rest m is at goes =
    ap (flat_map code_fault_line) (next_method c count number next left rest m is at goes)
    ∙ flat_map-append code_fault_line (map (λ fault. (number, fault)) (method_faults c m.member)) (code_faults_from c next (members_of rest))

-- ---- whether there is one

abbrev pub some_in : {X : Type 0} → List X → Bool
some_in xs = not (length xs == 0)

some_in_first : {X : Type 0} (x : X) (xs : List X) → some_in (x ∷ xs) ≡ true
some_in_first x xs = grind (arith, nat_tests)

or_assoc : (a b d : Bool) → (a || b) || d ≡ a || (b || d)
or_assoc true b d = refl
or_assoc false b d = refl

or_none : (a : Bool) → a || false ≡ a
or_none true = refl
or_none false = refl

some_in_both : {X Y : Type 0} (f : X → Y) (xs : List X) (ys : List Y) → some_in (map f xs ++ ys) ≡ some_in xs || some_in ys
some_in_both f [] ys = refl
some_in_both f (x ∷ xs) ys = some_in_first (f x) (map f xs ++ ys) ∙ ap (λ b. b || some_in ys) (sym (some_in_first x xs))

-- found before, or in what is left
pub next_some : (c : ClassFile) (count number next : ℕ) (left rest : List PlacedMember) (m : PlacedMember) (before here after all : Bool) → left ≡ m ∷ rest → number ≡ count → next ≡ count + 1
    → here ≡ some_in (method_faults c m.member) → after ≡ before || here
    → before || some_in (code_faults_from c count (members_of left)) ≡ all → after || some_in (code_faults_from c next (members_of rest)) ≡ all
next_some c count number next left rest m before here after all is at goes found adds so_far =
    let others = some_in (code_faults_from c next (members_of rest)) in
    ap (λ b. b || others) (adds ∙ ap (λ b. before || b) found)
    ∙ or_assoc before (some_in (method_faults c m.member)) others
    ∙ ap (λ b. before || b) (sym (some_in_both (λ fault. (number, fault)) (method_faults c m.member) (code_faults_from c next (members_of rest))))
    ∙ ap (λ fs. before || some_in fs) (sym (next_method c count number next left rest m is at goes))
    ∙ so_far

pub last_some : (c : ClassFile) (count : ℕ) (left : List PlacedMember) (some all : Bool) → left ≡ [] → some || some_in (code_faults_from c count (members_of left)) ≡ all → some ≡ all
last_some c count left some all none so_far = sym (or_none some) ∙ ap (λ ms. some || some_in (code_faults_from c count (members_of ms))) (sym none) ∙ so_far
