-- A class that does not load has no errors of instructions, since all its answers are NotLoaded.
use Rattle.std.proofs.Common.{◌≡◌, ◌∙◌, Bool, true, false, ℕ, List, [], ◌∷◌, ◌++◌, Option, Some, None, refl, ap}
use Rattle.std.specs.Prelude.{◌==◌, if◌then◌else◌, option_and_then}
use Rattle.std.specs.List.{AllByRecursion, flat_map}
use Rattle.std.specs.Option.{option_to_list}
use Rattle.jc_code.specs.declared.method_use.MethodUse.{MethodUse}
use Rattle.jc_classes.specs.Facts.{Facts, Reference}
use Rattle.jc_classes.specs.LinkErrors.{answered, link_by, link_of, links_of}
use Rattle.jc_classes.specs.Loading.{Loading}
use Rattle.jc_classes.specs.Loading.Loading.{Loaded, Outside, Fails}
use Rattle.jc_classes.specs.Names.{Name}
use Rattle.jc_classes.specs.Parts.{AreAnswers, IsAnswer, IsPart, Part}
use Rattle.jc_classes.specs.Resolution.{Answer}
use Rattle.jc_classes.specs.Resolution.Answer.{NotLoaded}
use Rattle.jc_classes.specs.Worlds.{Stands, World, references_of}
use Rattle.jc_classes.specs.Worlds.{Stands as stands}

abbrev AreNotLoaded : List Answer → Type 0
AreNotLoaded answers = AllByRecursion (λ a. a ≡ NotLoaded) answers

not_loaded : (m : World) (d : Name) (load : Loading) → (load ≡ Loaded → ⊥) → (rs : List Reference) (answers : List Answer) → AreAnswers m d load rs answers → AreNotLoaded answers
not_loaded m d load unless [] [] h = tt
not_loaded m d load unless [] (a ∷ answers) h = absurd h
not_loaded m d load unless (r ∷ rs) [] h = absurd h
not_loaded m d load unless (r ∷ rs) (a ∷ answers) h = (one load unless h.0, not_loaded m d load unless rs answers h.1)
  where
    one : (load : Loading) → (load ≡ Loaded → ⊥) → IsAnswer m d load r a → a ≡ NotLoaded
    one Loaded unless h = absurd (unless refl)
    one Outside unless h = h
    one (Fails e x) unless h = h

module _ (d : Name) (f : Facts) (u : MethodUse) where
  none_by : (r : Reference) (a : Answer) → a ≡ NotLoaded → link_by d f u (r, a) ≡ None
  none_by r a e = ap (λ b. link_by d f u (r, b)) e

  none_found : (index : ℕ) (rs : List Reference) (answers : List Answer) → AreNotLoaded answers → option_and_then (link_by d f u) (answered index rs answers) ≡ None
  none_found index [] answers h = refl
  none_found index (r ∷ rs) [] h = refl
  none_found index (r ∷ rs) (a ∷ answers) h = by (none_found index rs answers h.1) (r.index == index)
    where
      by : option_and_then (link_by d f u) (answered index rs answers) ≡ None → (b : Bool) → option_and_then (link_by d f u) (if b then Some (r, a) else answered index rs answers) ≡ None
      by later true = none_by r a h.0
      by later false = later

none_picked : {X Y : Type 0} (g : X → Option Y) (xs : List X) → ((x : X) → g x ≡ None) → flat_map (λ x. option_to_list (g x)) xs ≡ []
none_picked g [] none = refl
none_picked g (x ∷ xs) none = ap (λ o. option_to_list o ++ flat_map (λ x. option_to_list (g x)) xs) (none x) ∙ none_picked g xs none

none_of : (d : Name) (s : Stands) (answers : List Answer) → AreNotLoaded answers → links_of d s answers ≡ []
none_of d (stands.Class f) answers h = none_picked (link_of d f answers) f.uses (λ u. none_found d f u u.index f.references answers h)
none_of d stands.Outside answers h = refl
none_of d stands.Absent answers h = refl

pub none_unless_loaded : (m : World) (d : Name) (p : Part) → IsPart m d p → (p.load ≡ Loaded → ⊥) → p.links ≡ []
none_unless_loaded m d p h unless = h.links ∙ none_of d (m d) p.answers (not_loaded m d p.load unless (references_of (m d)) p.answers h.answers)
