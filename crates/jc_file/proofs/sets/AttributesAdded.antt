-- The places of attributes, while they are looked at one after the other, each with those inside it.
use Rattle.std.proofs.Common.{◌≡◌, ◌∙◌, ℕ, List, [], ◌∷◌, ◌++◌, filter, map, Option, Some, None, ap, sym, append_assoc}
use Rattle.std.specs.List.{flat_map}
use Rattle.std.specs.Option.{option_map, option_map_or}
use Rattle.std.proofs.lemmas.List.Concat.{flat_map-append}
use Rattle.std.proofs.lemmas.List.{map-append}
use Rattle.std.proofs.lemmas.List.Elements.{filter-append}
use Rattle.jc_view.specs.Attributes.{Code, code_attributes}
use Rattle.jc_view.specs.AttributeReading.{code_of, with_inner}
use Rattle.jc_view.specs.ClassFile.{ClassFile}
use Rattle.jc_view.specs.Lent.{AttributesLeft, LentAttribute, LentCode, lent_code}
use Rattle.jc_view.specs.Places.{PlacedAttribute, PlacedMember, member_attributes}
use Rattle.jc_file.specs.declared.fault.FormatRule.{FormatRule}
use Rattle.jc_file.specs.inside.AttributePlaces.{places_among}
use Rattle.jc_file.specs.inside.RuleTables.{attribute_tests, breaks_in}

module _ (rule : FormatRule) (c : ClassFile) where
  places_parted : (xs ys : List PlacedAttribute) → places_among rule c (xs ++ ys) ≡ places_among rule c xs ++ places_among rule c ys
  places_parted xs ys =
      ap (map (λ a. a.place)) (filter-append (λ a. breaks_in (attribute_tests c a) rule) xs ys)
      ∙ map-append (λ a. a.place) (filter (λ a. breaks_in (attribute_tests c a) rule) xs) (filter (λ a. breaks_in (attribute_tests c a) rule) ys)

  -- those of three parts are those of all
  pub three_parts : (xs ys zs : List PlacedAttribute) → (places_among rule c xs ++ places_among rule c ys) ++ places_among rule c zs ≡ places_among rule c ((xs ++ ys) ++ zs)
  three_parts xs ys zs = sym (places_parted (xs ++ ys) zs ∙ ap (λ v. v ++ places_among rule c zs) (places_parted xs ys))

  -- those of a part are added, and the rest is left
  pub part_added : (k : ClassFile) (part rest left : List PlacedAttribute) (before after all : List ℕ) → k ≡ c → left ≡ part ++ rest → after ≡ before ++ places_among rule k part
      → before ++ places_among rule c left ≡ all → after ++ places_among rule c rest ≡ all
  part_added k part rest left before after all same is_left added so_far =
      ap (λ v. v ++ places_among rule c rest) (added ∙ ap (λ t. before ++ places_among rule t part) same)
      ∙ append_assoc before (places_among rule c part) (places_among rule c rest)
      ∙ ap (λ v. before ++ v) (sym (places_parted part rest))
      ∙ ap (λ l. before ++ places_among rule c l) (sym is_left)
      ∙ so_far

  -- those of a member are added
  pub member_added : (k : ClassFile) (m : PlacedMember) (rest left : List PlacedMember) (before after all : List ℕ) → k ≡ c → left ≡ m ∷ rest
      → after ≡ before ++ places_among rule k (flat_map (with_inner k) (member_attributes m))
      → before ++ places_among rule c (flat_map (with_inner c) (flat_map member_attributes left)) ≡ all
      → after ++ places_among rule c (flat_map (with_inner c) (flat_map member_attributes rest)) ≡ all
  member_added k m rest left before after all same is_left added so_far =
      part_added k (flat_map (with_inner c) (member_attributes m)) (flat_map (with_inner c) (flat_map member_attributes rest)) (flat_map (with_inner c) (flat_map member_attributes left))
      before after all same
      (ap (λ l. flat_map (with_inner c) (flat_map member_attributes l)) is_left ∙ flat_map-append (with_inner c) (member_attributes m) (flat_map member_attributes rest))
      (added ∙ ap (λ x. before ++ places_among rule k (flat_map (with_inner x) (member_attributes m))) same)
      so_far

  -- an attribute's own, and then those inside it
  pub own_and_inner : (a : PlacedAttribute) (inner : List PlacedAttribute) (before own after : List ℕ) → own ≡ before ++ places_among rule c (a ∷ []) → after ≡ own ++ places_among rule c inner
      → after ≡ before ++ places_among rule c (a ∷ inner)
  own_and_inner a inner before own after first then =
      then ∙ ap (λ v. v ++ places_among rule c inner) first
      ∙ append_assoc before (places_among rule c (a ∷ [])) (places_among rule c inner)
      ∙ ap (λ v. before ++ v) (sym (places_parted (a ∷ []) inner))

-- what is inside, where it was lent
inside : (lent : LentAttribute) (o : Option Code) (k : LentCode) → option_map (lent_code lent) o ≡ Some k → (option_map_or (code_attributes lent.attribute) o [] ≡ code_attributes k.attribute k.code) × (lent.class ≡ k.class)
inside lent None k e = absurd cc
inside lent (Some code) k e =
    let same : lent_code lent code ≡ k = cc in
    (ap (λ (k : LentCode). code_attributes k.attribute k.code) same, ap (λ (k : LentCode). k.class) same)

-- the attributes of a Code that was lent are those inside it
pub inner_of : (lent : LentAttribute) (k : LentCode) (it : AttributesLeft) → option_map (lent_code lent) (code_of lent.class lent.attribute) ≡ Some k → it ≡ record { class = k.class; left = code_attributes k.attribute k.code }
    → (with_inner lent.class lent.attribute ≡ lent.attribute ∷ it.left) × (it.class ≡ lent.class)
inner_of lent k it e is =
    let i = inside lent (code_of lent.class lent.attribute) k e in
    (ap (λ l. lent.attribute ∷ l) (i.0 ∙ sym (ap (λ (t : AttributesLeft). t.left) is)), ap (λ (t : AttributesLeft). t.class) is ∙ sym i.1)
