-- The method of a number, behind those that are passed over.
use Rattle.std.proofs.Common.{◌≡◌, ◌∙◌, ℕ, zero, suc, ◌+◌, ◌-◌, ◌≤◌, List, [], ◌∷◌, length, drop, Option, Some, None, refl, ap, sym, subst, arith}
use Rattle.std.specs.Prelude.{slice_get}
use Rattle.std.specs.Iterator.{SkipsThenYields, Yields}
use Rattle.std.specs.Option.{MatchOption, option_and_then}
use Rattle.std.proofs.lemmas.List.{length-drop}
use Rattle.std.proofs.lemmas.Option.{same_Some, slice_get_past}
use Rattle.jc_view.specs.declared.attribute_kind.Holder.{Holder}
use Rattle.jc_view.specs.declared.attribute_kind.Holder.TheVariants as holders
use Rattle.jc_view.specs.ClassFile.{ClassFile, Member, member_bytes}
use Rattle.jc_view.specs.Places.{PlacedMember, members_from, methods_in, methods_place}
use Rattle.jc_view.specs.Lent.{GivesMember, LentMember, MembersLeft}
use Rattle.jc_code.specs.declared.code_fault.CodeFault.{CodeFault}
use Rattle.jc_code.specs.CodeFaults.{AreFaultsOf, AreFaultsOfMethod, code_of_member, code_of_method}

passed : (given : List LentMember) (old new : MembersLeft) → Yields GivesMember old given new → (new.class ≡ old.class) × (new.left ≡ drop (length given) old.left)
passed [] old new e = (ap (λ s. s.class) (sym e), ap (λ s. s.left) (sym e))
passed (m ∷ given) old new (next, step, rest) =
    let others = passed given next new rest in
    (others.0 ∙ step.0, others.1 ∙ ap (drop (suc (length given))) (sym step.1.0))

first_left : {X : Type 0} (xs : List X) (n : ℕ) (x : X) (ys : List X) → x ∷ ys ≡ drop n xs → slice_get xs n ≡ Some x
first_left [] zero x ys e = absurd cc
first_left [] (suc n) x ys e = absurd cc
first_left (z ∷ zs) zero x ys e = ap (λ s. slice_get s 0) (sym e)
first_left (z ∷ zs) (suc n) x ys e = first_left zs n x ys e

placed_at : (holder : Holder) (place : ℕ) (members : List Member) (n : ℕ) (m : PlacedMember) → slice_get (members_from holder place members) n ≡ Some m → (m.holder ≡ holder) × (slice_get members n ≡ Some m.member)
unfolding members_from
placed_at holder place [] n m e = absurd cc
placed_at holder place (x ∷ xs) zero m e =
    let same = same_Some (record { holder = holder; place = place; member = x }) m e in
    (ap (λ p. p.holder) (sym same), ap (λ p. Some p.member) same)
placed_at holder place (x ∷ xs) (suc n) m e = placed_at holder (place + length (member_bytes x)) xs n m e

length-members_from : (holder : Holder) (place : ℕ) (members : List Member) → length (members_from holder place members) ≡ length members
unfolding members_from
length-members_from holder place [] = refl
length-members_from holder place (x ∷ xs) = ap suc (length-members_from holder (place + length (member_bytes x)) xs)

-- what a member that was given is
pub record IsMethod (c : ClassFile) (n : ℕ) (m : LentMember) : Type 0 where
  pub class : m.class ≡ c
  pub holder : m.member.holder ≡ holders.Method
  pub member : slice_get c.methods n ≡ Some m.member.member

module _ (c : ClassFile) (n : ℕ) (it new : MembersLeft) (all : it ≡ record { class = c; left = methods_in c }) where
  pub method_given : (r : Option LentMember) (m : LentMember) → r ≡ Some m → SkipsThenYields GivesMember it n r new → IsMethod c n m
  method_given r m is ran =
      let given : SkipsThenYields GivesMember it n (Some m) new = subst (λ o. SkipsThenYields GivesMember it n o new) is ran in
      let at = given.1.0 in
      let before = passed given.0 it at given.1.1 in
      let step = given.1.2 in
      let here : m.member ∷ new.left ≡ drop n (methods_in c) = sym step.1.0 ∙ before.1 ∙ ap (λ k. drop k it.left) given.2 ∙ ap (λ s. drop n s.left) all in
      let there = placed_at holders.Method (methods_place c + 2) c.methods n m.member (first_left (methods_in c) n m.member new.left here) in
      record { class = step.1.1 ∙ before.0 ∙ ap (λ s. s.class) all; holder = there.0; member = there.1 }

  pub none_given : (r : Option LentMember) → r ≡ None → SkipsThenYields GivesMember it n r new → slice_get c.methods n ≡ None
  none_given r is ran =
      let given : SkipsThenYields GivesMember it n None new = subst (λ o. SkipsThenYields GivesMember it n o new) is ran in
      let at = given.1.0 in
      let before = passed given.0 it at given.1.1 in
      let step = given.1.2 in
      let none : [] ≡ drop (length given.0) (methods_in c) = sym step.1.0 ∙ before.1 ∙ ap (λ s. drop (length given.0) s.left) all in
      let size : 0 ≡ length (methods_in c) - length given.0 = ap length none ∙ length-drop (length given.0) (methods_in c) in
      let most : length given.0 ≤ n = given.2 in
      slice_get_past c.methods n (omega (arith, size, most, length-members_from holders.Method (methods_place c + 2) c.methods))

-- the faults of the method are those of the member
pub faults_of_given : (c : ClassFile) (n : ℕ) (m : LentMember) (found : List CodeFault) → IsMethod c n m → MatchOption (code_of_member c m.member.member) (found ≡ []) (λ k. AreFaultsOf c k found) → AreFaultsOfMethod c n found
faults_of_given c n m found is are =
    let same : code_of_member c m.member.member ≡ code_of_method c n = ap (option_and_then (code_of_member c)) (sym is.member) in
    subst (λ o. MatchOption o (found ≡ []) (λ k. AreFaultsOf c k found)) same are

-- where there is no such method
pub no_faults : (c : ClassFile) (n : ℕ) (found : List CodeFault) → slice_get c.methods n ≡ None → found ≡ [] → AreFaultsOfMethod c n found
no_faults c n found none e =
    subst (λ o. MatchOption o (found ≡ []) (λ k. AreFaultsOf c k found)) (sym (ap (option_and_then (code_of_member c)) none)) e
