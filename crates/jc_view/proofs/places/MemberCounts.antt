-- How many members stand from a place on.
use Rattle.std.proofs.Common.{◌≡◌, ℕ, suc, ◌+◌, List, [], ◌∷◌, length, refl, ap}
use Rattle.jc_view.specs.declared.attribute_kind.Holder.{Holder}
use Rattle.jc_view.specs.ClassFile.{Member, member_bytes}
use Rattle.jc_view.specs.Places.{members_from}

pub members_counted : (holder : Holder) (place : ℕ) (members : List Member) → length (members_from holder place members) ≡ length members
unfolding members_from
members_counted holder place [] = refl
members_counted holder place (m ∷ members) = ap suc (members_counted holder (place + length (member_bytes m)) members)
