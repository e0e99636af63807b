-- Members with their places and without.
use Rattle.std.proofs.Common.{◌≡◌, ℕ, suc, ◌+◌, ◌<◌, ◌^◌, List, [], ◌∷◌, length, map, refl, ap}
use Rattle.std.specs.List.{AllByRecursion}
use Rattle.jc_view.specs.declared.attribute_kind.Holder.{Holder}
use Rattle.jc_view.specs.ClassFile.{Member, ClassFile, member_bytes}
use Rattle.jc_view.specs.Places.{PlacedMember, members_from}
use Rattle.jc_view.specs.Lent.{MembersLeft}

-- the members without their places
abbrev pub members_of : List PlacedMember → List Member
members_of placed = map (λ m. m.member) placed

-- all are of this holder
abbrev pub AreOf : Holder → List PlacedMember → Type 0
AreOf holder placed = AllByRecursion (λ m. m.holder ≡ holder) placed

pub members_of_all : (holder : Holder) (place : ℕ) (members : List Member) → members_of (members_from holder place members) ≡ members
unfolding members_from
members_of_all holder place [] = refl
members_of_all holder place (m ∷ members) = ap (λ ms. m ∷ ms) (members_of_all holder (place + length (member_bytes m)) members)

pub are_of_all : (holder : Holder) (place : ℕ) (members : List Member) → AreOf holder (members_from holder place members)
unfolding members_from
are_of_all holder place [] = tt
are_of_all holder place (m ∷ members) = (refl, are_of_all holder (place + length (member_bytes m)) members)

pub length_members_from : (holder : Holder) (place : ℕ) (members : List Member) → length (members_from holder place members) ≡ length members
unfolding members_from
length_members_from holder place [] = refl
length_members_from holder place (m ∷ members) = ap suc (length_members_from holder (place + length (member_bytes m)) members)

-- no more of them stand there than there are
pub few_placed : (holder : Holder) (place : ℕ) (members : List Member) (it : MembersLeft) (c : ClassFile) → it ≡ record { class = c; left = members_from holder place members } → length members < 2 ^ 16 → length it.left < 2 ^ 16
few_placed holder place members it c e few = rw (e, length_members_from holder place members) few
