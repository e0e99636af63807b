-- The data by which instructions are judged.
use Rattle.std.specs.Prelude.{◌≡◌, ℕ, ◌&&◌, Bool, false, not, List, [], Option, Some, None, option_map, slice_get}
use Rattle.jc_classes.specs.Facts.{Member, Reference}
use Rattle.jc_classes.specs.LinkErrors as defs
use Rattle.jc_classes.specs.LinkErrors.{ErrorAt, final_error, is_init, link_error, member_error, site_of}
use Rattle.jc_classes.specs.Names.{Name, same_name}
use Rattle.jc_classes.specs.Resolution.{Answer}
use Rattle.jc_classes.specs.Resolution.{Answer as answer}
use Rattle.jc_classes.specs.declared.linkage_error.LinkageError.{LinkageError}
use Rattle.jc_resolve.specs.declared.answers.Found.{Found}
use Rattle.jc_resolve.specs.declared.answers.Found.TheVariants as found
use Rattle.jc_resolve.specs.declared.site.Site.{Site}

-- what an answer finds, by its access flags
abbrev pub found_of : Answer → Option Found
found_of (answer.ToClass c flags) = Some (found.Class flags)
found_of (answer.ToMember home x) = Some (found.Member x.flags)
found_of (answer.Outside n) = None
found_of answer.NotLoaded = None
found_of (answer.Error e n) = None

-- the class of an answer: the class that the reference names, or the class that declares the member
abbrev pub class_told : Answer → Name
class_told (answer.ToClass c flags) = c
class_told (answer.ToMember home x) = home
class_told (answer.Outside n) = []
class_told answer.NotLoaded = []
class_told (answer.Error e n) = []

-- the answer is a method `<init>` that another class than that of this name declares
abbrev pub is_other_init : Name → Answer → Bool
is_other_init text (answer.ToClass c flags) = false
is_other_init text (answer.ToMember home x) = is_init x && not (same_name home text)
is_other_init text (answer.Outside n) = false
is_other_init text answer.NotLoaded = false
is_other_init text (answer.Error e n) = false

-- ---- errors, without the class at fault

abbrev pub error_of : Option ErrorAt → Option LinkageError
error_of fault = option_map (λ (f : ErrorAt). f.0) fault

-- these are the reference of the site and its answer
pub record IsAt (s : Site) (r : Reference) (a : Answer) : Type 0 where
  pub reference : slice_get s.facts.now.references s.reference ≡ Some r
  pub answer : slice_get s.answers.now s.reference ≡ Some a

abbrev pub site_at : Site → Reference → defs.Site
site_at s r = site_of s.class.now s.facts.now s.one r

abbrev pub TellsError : Site → Option LinkageError → Type 0
TellsError s error = (r : Reference) (a : Answer) → IsAt s r a → error ≡ error_of (link_error (site_at s r) s.one.kind a)

-- the error for a member with these flags
abbrev pub TellsMemberError : Site → ℕ → Option LinkageError → Type 0
TellsMemberError s flags error = (r : Reference) (home : Name) (x : Member) → IsAt s r (answer.ToMember home x) → flags ≡ x.flags
    → error ≡ error_of (member_error (site_at s r) s.one.kind home x)

-- the error for a store into the member
abbrev pub TellsFinal : Site → ℕ → List ℕ → Option LinkageError → Type 0
TellsFinal s flags initializer error = (r : Reference) (home : Name) (x : Member) → IsAt s r (answer.ToMember home x) → flags ≡ x.flags
    → error ≡ error_of (final_error (site_at s r) initializer home x)
