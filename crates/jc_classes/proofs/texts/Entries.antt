-- What entries show.
use Rattle.std.proofs.Common.{◌≡◌, ℕ, List, ◌++◌, map, Option, Some, None, refl, sym, ap, ◌∙◌}
use Rattle.std.specs.Prelude.{option_map}
use Rattle.std.specs.Option.{option_to_list}
use Rattle.std.proofs.lemmas.List.{map-append}
use Rattle.std.specs.List.{flat_map}
use Rattle.std.proofs.lemmas.List.Folds.{flat_map-map}
use Rattle.jc_view.specs.declared.attribute_kind.Holder.{Holder}
use Rattle.jc_view.specs.ClassFile.{ClassFile, Member}
use Rattle.jc_view.specs.Places.{PlacedMember, members_from}
use Rattle.jc_file.proofs.kinds.PlacedMembers.{members_of_all}
use Rattle.jc_classes.specs.FactsOf.{member_of, members_in}
use Rattle.jc_classes.specs.Facts.{Facts}

shown_to_list : {A B : Type 0} (f : A → B) (a : Option A) → map f (option_to_list a) ≡ option_to_list (option_map f a)
shown_to_list f None = refl
shown_to_list f (Some x) = refl

-- one more entry, where there is one
pub shown_some : {A B : Type 0} (f : A → B) (new old : List A) (a : Option A) (b : Option B) → new ≡ old ++ option_to_list a → option_map f a ≡ b → map f new ≡ map f old ++ option_to_list b
shown_some f new old a b e g =
    ap (map f) e ∙ map-append f old (option_to_list a) ∙ ap (λ xs. map f old ++ xs) (shown_to_list f a ∙ ap option_to_list g)

pub facts_eta : (a b : Facts) → a.path ≡ b.path → a.name ≡ b.name → a.flags ≡ b.flags → a.superclass ≡ b.superclass → a.interfaces ≡ b.interfaces → a.fields ≡ b.fields → a.methods ≡ b.methods → a.references ≡ b.references → a.uses ≡ b.uses → a.users ≡ b.users
    → a.format_faults ≡ b.format_faults → a.code_faults ≡ b.code_faults → a ≡ b
facts_eta a b e1 e2 e3 e4 e5 e6 e7 e8 u w e9 e10 = λ i. record { path = e1 i; name = e2 i; flags = e3 i; superclass = e4 i; interfaces = e5 i; fields = e6 i; methods = e7 i; references = e8 i; uses = u i; users = w i; format_faults = e9 i; code_faults = e10 i }

-- members by their places and without
pub members_placed : (c : ClassFile) (holder : Holder) (place : ℕ) (members : List Member) → flat_map (λ (m : PlacedMember). option_to_list (member_of c m.member)) (members_from holder place members) ≡ members_in c members
members_placed c holder place members =
    sym (flat_map-map (λ m. option_to_list (member_of c m)) (λ (m : PlacedMember). m.member) (members_from holder place members))
    ∙ ap (flat_map (λ m. option_to_list (member_of c m))) (members_of_all holder place members)
