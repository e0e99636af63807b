-- The texts of a class file that were looked up, by number.
use Rattle.std.specs.Prelude.{◌≡◌, ℕ, suc, ◌+◌, ◌<◌, List, [], ◌∷◌}
use Rattle.std.specs.Prelude.{length, map, Option, Some, None, option_map, slice_index_or, ◌^◌}
use Rattle.std.specs.List.{flat_map}
use Rattle.std.specs.Option.{option_to_list}
use Rattle.jc_view.specs.ClassFile.{ClassFile, all_slots}
use Rattle.jc_view.specs.Places.{PlacedMember}
use Rattle.jc_code.specs.inside.Fronts.{BeginsWith}
use Rattle.jc_classes.specs.declared.facts.MemberEntry.{MemberEntry}
use Rattle.jc_classes.specs.declared.facts.ReferenceEntry.{ReferenceEntry}
use Rattle.jc_classes.specs.FactsOf.{member_of}
use Rattle.jc_classes.specs.inside.ConstantTexts.{texts_of}
use Rattle.jc_classes.specs.inside.FactsShown.{member_shown, reference_shown, text_at}

pub record KeptTexts : Type 0 where
  pub class : ClassFile
  pub texts : List (List ℕ)

-- the number of indexes that have a number
abbrev pub count_numbered : List (Option ℕ) → ℕ
count_numbered [] = 0
count_numbered (None ∷ numbers) = count_numbered numbers
count_numbered (Some number ∷ numbers) = suc (count_numbered numbers)

-- the texts are the empty text and one for each index that has a number
pub record AreNumbered (c : ClassFile) (numbers : List (Option ℕ)) (texts : List (List ℕ)) : Type 0 where
  pub size : length numbers ≡ 1 + all_slots c.constants
  pub few : length numbers < 2 ^ 16
  pub count : length texts ≡ suc (count_numbered numbers)
  pub empty : text_at texts 0 ≡ []
  pub text : (index number : ℕ) → slice_index_or numbers index None ≡ Some number
      → (number < length texts) × (text_at texts number ≡ text_at (texts_of c) index)

-- texts were only appended, and Holds is true of the texts, whatever texts are appended later
pub record Tells (old new : KeptTexts) (Holds : List (List ℕ) → Type 0) : Type 0 where
  pub class : new.class ≡ old.class
  pub front : BeginsWith new.texts old.texts
  pub holds : (texts : List (List ℕ)) → BeginsWith texts new.texts → Holds texts

-- ---- the number of a text, for the index of the text in the class file

abbrev pub TellsText : KeptTexts → KeptTexts → ℕ → ℕ → Type 0
TellsText old new index number = Tells old new (λ texts. text_at texts number ≡ text_at (texts_of old.class) index)

abbrev pub TellsSome : KeptTexts → KeptTexts → Option ℕ → Option ℕ → Type 0
TellsSome old new index number =
    Tells old new (λ texts. option_map (text_at texts) number ≡ option_map (text_at (texts_of old.class)) index)

abbrev pub TellsMember : KeptTexts → KeptTexts → Option MemberEntry → Option MemberEntry → Type 0
TellsMember old new entry numbered =
    Tells old new (λ texts. option_map (member_shown texts) numbered ≡ option_map (member_shown (texts_of old.class)) entry)

-- the members that have a name and a descriptor
abbrev pub TellsMembers : KeptTexts → KeptTexts → List PlacedMember → List MemberEntry → Type 0
TellsMembers old new members entries =
    Tells old new
    (λ texts. map (member_shown texts) entries ≡ flat_map (λ m. option_to_list (member_of old.class m.member)) members)

abbrev pub TellsReference : KeptTexts → KeptTexts → Option ReferenceEntry → Option ReferenceEntry → Type 0
TellsReference old new entry numbered =
    Tells old new
    (λ texts. option_map (reference_shown texts) numbered ≡ option_map (reference_shown (texts_of old.class)) entry)
