-- Those of a holder's attributes that are recognised as of a kind, with their places and without.
use Rattle.std.proofs.Common.{◌≡◌, ℕ, ◌+◌, Bool, true, false, cond, ◌&&◌, ◌||◌, List, [], ◌∷◌, length, refl, ap}
use Rattle.std.specs.List.{list_any}
use Rattle.jc_view.specs.declared.attribute_kind.AttributeKind.{AttributeKind}
use Rattle.jc_view.specs.declared.attribute_kind.Holder.{Holder}
use Rattle.jc_view.specs.ClassFile.{Attribute, ClassFile, attribute_bytes}
use Rattle.jc_view.specs.Attributes.{is_recognised, of_kind}
use Rattle.jc_view.specs.Places.{PlacedMember, attributes_from, member_attributes}
use Rattle.jc_file.specs.inside.Recognised.{any_of}

any_step : {X : Type 0} (test : X → Bool) (b : Bool) (x : X) (xs : List X) (rest : Bool) → rest ≡ list_any test xs → ((b && test x) || rest) ≡ list_any test (cond b (x ∷ xs) xs)
any_step test true x xs rest e = ap (λ r. test x || r) e
any_step test false x xs rest e = e

-- one passes, of those with places and of those without
pub any_of_kind : (c : ClassFile) (kind : AttributeKind) (test : Attribute → Bool) (holder : Holder) (place : ℕ) (attributes : List Attribute) → any_of c kind test (attributes_from holder place attributes) ≡ list_any test (of_kind c kind holder attributes)
unfolding attributes_from
any_of_kind c kind test holder place [] = refl
any_of_kind c kind test holder place (a ∷ attributes) =
    any_step test (is_recognised c kind holder a) a (of_kind c kind holder attributes) _ (any_of_kind c kind test holder (place + length (attribute_bytes a)) attributes)

-- those of a member
pub any_of_member : (c : ClassFile) (kind : AttributeKind) (test : Attribute → Bool) (holder : Holder) (m : PlacedMember) → m.holder ≡ holder → any_of c kind test (member_attributes m) ≡ list_any test (of_kind c kind holder m.member.attributes)
any_of_member c kind test holder m same = rw same (any_of_kind c kind test holder (m.place + 8) m.member.attributes)
