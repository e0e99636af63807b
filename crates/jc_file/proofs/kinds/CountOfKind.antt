-- Whether a member has one attribute of a kind, or two, as they are found one after the other.
use Rattle.std.proofs.Common.{◌≡◌, ◌∙◌, ℕ, suc, ◌+◌, true, false, length, Option, Some, None, is_some, nat_lt, nat_le, refl, ap, sym, arith}
use Rattle.std.proofs.lemmas.Bool.{lt-ltb, le-leb}
use Rattle.std.proofs.lemmas.List.{length-map}
use Rattle.jc_view.specs.declared.attribute_kind.AttributeKind.{AttributeKind}
use Rattle.jc_view.specs.ClassFile.{ClassFile}
use Rattle.jc_view.specs.Places.{PlacedMember, member_attributes}
use Rattle.jc_view.specs.Attributes.{of_kind}
use Rattle.jc_view.specs.Lent.{AttributesLeft, LentAttribute}
use Rattle.jc_file.specs.inside.Recognised.{of_kind_left, GivesOfKind}
use Rattle.jc_file.proofs.kinds.AttributesOfKind.{in_place, of_kind_placed}

-- the attributes of a member, as a loop begins to go over them
abbrev pub all_of : ClassFile → PlacedMember → AttributesLeft
all_of c m = record { class = c; left = member_attributes m }

module _ (kind : AttributeKind) where
  count : AttributesLeft → ℕ
  count it = length (of_kind_left kind it)

  one : (old new : AttributesLeft) (result : Option LentAttribute) → GivesOfKind kind old result new → is_some result ≡ nat_lt 0 (count old)
  unfolding count
  one old new None gives = rw gives.1 refl
  one old new (Some item) gives = rw gives.1.0 (sym (lt-ltb 0 (suc (count new)) (omega arith)))

  two : (old mid new : AttributesLeft) (first second : Option LentAttribute) → GivesOfKind kind old first mid → is_some first ≡ true → GivesOfKind kind mid second new → is_some second ≡ nat_le 2 (count old)
  unfolding count
  two old mid new None second found is_found next = absurd cc
  two old mid new (Some item) None found is_found next = rw (found.1.0, next.1) refl
  two old mid new (Some item) (Some other) found is_found next = rw (found.1.0, next.1.0) (sym (le-leb 2 (suc (suc (count new))) (omega arith)))

  none : (old mid : AttributesLeft) (first : Option LentAttribute) → GivesOfKind kind old first mid → is_some first ≡ false → false ≡ nat_le 2 (count old)
  unfolding count
  none old mid None found is_found = rw found.1 refl
  none old mid (Some item) found is_found = absurd cc

  module _ (c : ClassFile) (m : PlacedMember) where
    same : count (all_of c m) ≡ length (of_kind c kind m.holder m.member.attributes)
    unfolding count
    same = sym (length-map (of_kind_left kind (all_of c m)) in_place) ∙ ap length (of_kind_placed c kind m.holder (m.place + 8) m.member.attributes)

    pub has_one : (new : AttributesLeft) (result : Option LentAttribute) → GivesOfKind kind (all_of c m) result new → is_some result ≡ nat_lt 0 (length (of_kind c kind m.holder m.member.attributes))
    has_one new result gives = one (all_of c m) new result gives ∙ ap (nat_lt 0) same

    pub has_two : (mid new : AttributesLeft) (first second : Option LentAttribute) → GivesOfKind kind (all_of c m) first mid → is_some first ≡ true → GivesOfKind kind mid second new → is_some second ≡ nat_le 2 (length (of_kind c kind m.holder m.member.attributes))
    has_two mid new first second found is_found next = two (all_of c m) mid new first second found is_found next ∙ ap (nat_le 2) same

    pub has_none : (mid : AttributesLeft) (first : Option LentAttribute) → GivesOfKind kind (all_of c m) first mid → is_some first ≡ false → false ≡ nat_le 2 (length (of_kind c kind m.holder m.member.attributes))
    has_none mid first found is_found = none (all_of c m) mid first found is_found ∙ ap (nat_le 2) same
