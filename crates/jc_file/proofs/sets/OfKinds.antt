-- The attributes of a kind, counted in one pass over all.
use Rattle.std.proofs.Common.{◌≡◌, ◌∙◌, ℕ, ◌+◌, min, Bool, true, false, cond, ◌&&◌, ◌||◌, List, [], ◌∷◌, length, filter, Option, Some, None, is_none, is_some, not, option_map, if◌then◌else◌, refl, sym, ap, arith, zero-add}
use Rattle.std.specs.List.{list_any}
use Rattle.std.proofs.lemmas.List.{length-map}
use Rattle.jc_view.specs.declared.attribute_kind.AttributeKind.{AttributeKind}
use Rattle.jc_view.specs.declared.attribute_kind.Holder.{Holder}
use Rattle.jc_view.specs.ClassFile.{Attribute, ClassFile}
use Rattle.jc_view.specs.Places.{PlacedAttribute, PlacedMember, member_attributes}
use Rattle.jc_view.specs.Attributes.{is_recognised, of_kind}
use Rattle.jc_view.specs.Lent.{LentAttribute}
use Rattle.jc_file.specs.inside.Recognised.{any_of}
use Rattle.jc_file.proofs.kinds.AnyOfKind.{any_of_member}
use Rattle.jc_file.proofs.kinds.AttributesOfKind.{in_place, of_kind_placed}
use Rattle.jc_file.specs.declared.method_attributes.OfKind.{OfKind}
use Rattle.jc_file.specs.FormatRules.{lacks_classes}
use Rattle.jc_view.specs.AttributeReading.{code_in, code_of}
use Rattle.jc_view.specs.Attributes.{Code}
use Rattle.jc_view.specs.Lent.{LentCode, lent_code}
use Rattle.jc_view.specs.declared.attribute_kind.AttributeKind.TheVariants as kinds
use Rattle.jc_file.specs.inside.MemberAttributes.{AddsIf, Counts}

abbrev pub is_bad_code : Attribute → Bool
is_bad_code a = is_none (code_in a.bytes)

abbrev pub are_bad_exceptions : ClassFile → Attribute → Bool
are_bad_exceptions c a = lacks_classes c a.bytes

abbrev pub is_of_kind : LentAttribute → AttributeKind → Bool
is_of_kind lent kind = is_recognised lent.class kind lent.attribute.holder lent.attribute.attribute

-- how many of a kind are left
abbrev pub left_of : ClassFile → AttributeKind → List PlacedAttribute → ℕ
left_of c kind left = length (filter (λ a. is_recognised c kind a.holder a.attribute) left)

-- those that were found and those that are left are all
pub record AreLeft (c : ClassFile) (kind : AttributeKind) (test : Attribute → Bool) (found : OfKind) (left : List PlacedAttribute) (all : List Attribute) : Type 0 where
  pub count : min 2 (found.count + left_of c kind left) ≡ min 2 (length all)
  pub bad : (found.has_bad || any_of c kind test left) ≡ list_any test all

module _ (c : ClassFile) (kind : AttributeKind) (test : Attribute → Bool) where
  pub all_left : (holder : Holder) (m : PlacedMember) (none : OfKind) → m.holder ≡ holder → none.count ≡ 0 → none.has_bad ≡ false
      → AreLeft c kind test none (member_attributes m) (of_kind c kind holder m.member.attributes)
  all_left holder m none same zero good =
      let whole : left_of c kind (member_attributes m) ≡ length (of_kind c kind holder m.member.attributes) =
      sym (length-map (filter (λ a. is_recognised c kind a.holder a.attribute) (member_attributes m)) in_place)
      ∙ rw same (ap length (of_kind_placed c kind holder (m.place + 8) m.member.attributes)) in
      record {
        count = ap (min 2) (ap (λ n. n + left_of c kind (member_attributes m)) zero ∙ zero-add (left_of c kind (member_attributes m)) ∙ whole);
        bad = ap (λ b. b || any_of c kind test (member_attributes m)) good ∙ any_of_member c kind test holder m same;
      }

  first_of : (b : Bool) (a : PlacedAttribute) (rest : List PlacedAttribute) → length (cond b (a ∷ rest) rest) ≡ cond b 1 0 + length rest
  first_of true a rest = omega arith
  first_of false a rest = omega arith

  counted : (old new one rest n : ℕ) → min 2 new ≡ min 2 (old + one) → min 2 (old + (one + rest)) ≡ min 2 n → min 2 (new + rest) ≡ min 2 n
  counted old new one rest n e f = omega (arith, e, f)

  regrouped : (a b d : Bool) → ((a || b) || d) ≡ (a || (b || d))
  regrouped true b d = refl
  regrouped false b d = refl

  pub one_less : (lent : LentAttribute) (is_one is_bad : Bool) (old new : OfKind) (left rest : List PlacedAttribute) (all : List Attribute) → left ≡ lent.attribute ∷ rest → lent.class ≡ c
      → is_one ≡ is_of_kind lent kind → (is_of_kind lent kind && is_bad) ≡ (is_of_kind lent kind && test lent.attribute.attribute)
      → AddsIf is_one is_bad old new → AreLeft c kind test old left all → AreLeft c kind test new rest all
  one_less lent is_one is_bad old new left rest all is_left same one bad added so_far =
      let a = lent.attribute in
      let r = is_recognised c kind a.holder a.attribute in
      let there : left_of c kind left ≡ cond r 1 0 + left_of c kind rest =
      ap (left_of c kind) is_left ∙ first_of r a (filter (λ x. is_recognised c kind x.holder x.attribute) rest) in
      let same_r : is_of_kind lent kind ≡ r = ap (λ k. is_recognised k kind a.holder a.attribute) same in
      let more : min 2 new.count ≡ min 2 (old.count + cond r 1 0) = added.count ∙ ap (λ b. min 2 (old.count + cond b 1 0)) (one ∙ same_r) in
      let worse : new.has_bad ≡ (old.has_bad || r && test a.attribute) =
      added.has_bad ∙ ap (λ b. old.has_bad || b && is_bad) one ∙ ap (λ b. old.has_bad || b) bad ∙ ap (λ b. old.has_bad || b && test a.attribute) same_r in
      record {
        count = counted old.count new.count (cond r 1 0) (left_of c kind rest) (length all) more (ap (λ n. min 2 (old.count + n)) (sym there) ∙ so_far.count);
        bad = ap (λ b. b || any_of c kind test rest) worse ∙ regrouped old.has_bad (r && test a.attribute) (any_of c kind test rest)
            ∙ ap (λ l. old.has_bad || any_of c kind test l) (sym is_left) ∙ so_far.bad;
      }

  -- at the end
  pub none_left_count : (found : OfKind) (left : List PlacedAttribute) (all : List Attribute) → left ≡ [] → AreLeft c kind test found left all → Counts found.count all
  none_left_count found left all none so_far =
      let nothing : left_of c kind left ≡ 0 = ap (left_of c kind) none in
      omega (arith, nothing, so_far.count)

  or_nothing : (b : Bool) → (b || false) ≡ b
  or_nothing true = refl
  or_nothing false = refl

  pub none_left_bad : (found : OfKind) (left : List PlacedAttribute) (all : List Attribute) → left ≡ [] → AreLeft c kind test found left all → found.has_bad ≡ list_any test all
  none_left_bad found left all none so_far =
      sym (or_nothing found.has_bad) ∙ ap (λ l. found.has_bad || any_of c kind test l) (sym none) ∙ so_far.bad

-- ---- a Code that was lent

with_code : (b : Bool) (lent : LentAttribute) (o : Option Code) → (b && is_none (option_map (lent_code lent) (if b then o else None))) ≡ (b && is_none o)
with_code true lent None = refl
with_code true lent (Some k) = refl
with_code false lent o = refl

pub bad_code : (lent : LentAttribute) (code : Option LentCode) → code ≡ option_map (lent_code lent) (code_of lent.class lent.attribute)
    → (is_of_kind lent kinds.Code && is_none code) ≡ (is_of_kind lent kinds.Code && is_bad_code lent.attribute.attribute)
bad_code lent code e = ap (λ o. is_of_kind lent kinds.Code && is_none o) e ∙ with_code (is_of_kind lent kinds.Code) lent (code_in lent.attribute.attribute.bytes)

pub none_of : {X : Type 0} (o : Option X) (b : Bool) → is_some o ≡ not b → b ≡ is_none o
none_of None true e = refl
none_of None false e = absurd cc
none_of (Some x) true e = absurd cc
none_of (Some x) false e = refl
