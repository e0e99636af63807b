-- The keys of the members that are left.
use Rattle.std.proofs.Common.{◌≡◌, ◌∙◌, List, [], ◌∷◌, map, Some, refl, ap, sym}
use Rattle.jc_view.specs.declared.attribute_kind.Holder.{Holder}
use Rattle.jc_view.specs.ClassFile.{ClassFile, Member, member_bytes}
use Rattle.std.specs.Prelude.{ℕ, suc, ◌+◌, length}
use Rattle.jc_view.specs.Places.{PlacedMember, members_from}
use Rattle.jc_view.specs.Lent.{MembersLeft, LentMember, GivesMember}
use Rattle.jc_file.specs.Faults.{key_of, repeated}
use Rattle.jc_file.specs.inside.Repeated.{keys_left}

-- the first that is left, and the others
pub keys_next : (old new : MembersLeft) (item : LentMember) → GivesMember old (Some item) new → keys_left old ≡ key_of item.class item.member.member ∷ keys_left new
keys_next old new item gives =
    ap (map (λ (m : PlacedMember). key_of old.class m.member)) gives.1.0
    ∙ ap (λ (c : ClassFile). key_of c item.member.member ∷ map (λ (m : PlacedMember). key_of c m.member) new.left) (sym gives.0)
    ∙ ap (λ (c : ClassFile). key_of c item.member.member ∷ keys_left new) (gives.0 ∙ sym gives.1.1)

keys_of_members : (c : ClassFile) (members : List PlacedMember) → map (λ (m : PlacedMember). key_of c m.member) members ≡ map (key_of c) (map (λ (m : PlacedMember). m.member) members)
keys_of_members c [] = refl
keys_of_members c (m ∷ members) = ap (λ keys. key_of c m.member ∷ keys) (keys_of_members c members)

-- as those of members without their places
pub keys_left-members : (members : MembersLeft) → keys_left members ≡ map (key_of members.class) (map (λ (m : PlacedMember). m.member) members.left)
keys_left-members members = keys_of_members members.class members.left

-- members with their places are the members
members_placed : (holder : Holder) (place : ℕ) (members : List Member) → map (λ (m : PlacedMember). m.member) (members_from holder place members) ≡ members
unfolding members_from
members_placed holder place [] = refl
members_placed holder place (m ∷ members) = ap (λ (ms : List Member). m ∷ ms) (members_placed holder (place + length (member_bytes m)) members)

-- as many
length-members_from : (holder : Holder) (place : ℕ) (members : List Member) → length (members_from holder place members) ≡ length members
unfolding members_from
length-members_from holder place [] = refl
length-members_from holder place (m ∷ members) = ap suc (length-members_from holder (place + length (member_bytes m)) members)

-- the members of a class, as an iterator has them at the start
pub repeated-members : (members : MembersLeft) (c : ClassFile) (holder : Holder) (place : ℕ) (ms : List Member) → members ≡ record { class = c; left = members_from holder place ms } → repeated members.class (map (λ (m : PlacedMember). m.member) members.left) ≡ repeated c ms
repeated-members members c holder place ms e =
    ap (λ (m : MembersLeft). repeated m.class (map (λ (p : PlacedMember). p.member) m.left)) e ∙ ap (repeated c) (members_placed holder place ms)

pub length-members : (members : MembersLeft) (c : ClassFile) (holder : Holder) (place : ℕ) (ms : List Member) → members ≡ record { class = c; left = members_from holder place ms } → length members.left ≡ length ms
length-members members c holder place ms e = ap (λ (m : MembersLeft). length m.left) e ∙ length-members_from holder place ms
