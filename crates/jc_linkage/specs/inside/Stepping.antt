-- Steps, and the steps that undo them.
use Rattle.std.specs.Prelude.{◌≡◌, Bool, false, ◌||◌, IsSome, cond}
use Rattle.std.specs.FinMap as map
use Rattle.jc_classes.specs.Names.{Name}
use Rattle.jc_link.specs.Tables.{Places, class_at}
use Rattle.jc_linkage.specs.Steps.{Classes, is_step, step_class, step_name}
use Rattle.jc_linkage.specs.declared.step.Step.{Step}

-- the classes after a step
abbrev pub stepped : Step → Classes → Classes
stepped s m n = cond (is_step s n) (step_class s) (m n)

-- the step that undoes another: at the same name, with the class that was there
pub record IsBack (back step : Step) (m : Classes) : Type 0 where
  pub name : step_name back ≡ step_name step
  pub class : step_class back ≡ m (step_name step)

-- if the step puts a class, its name has a place
abbrev pub IsThere : Step → Places → Type 0
IsThere s places = IsSome (step_class s) → IsSome (map.get places (step_name s))

-- each place has a class, except perhaps the places of these names
abbrev pub AreTaken : (vacant : Name → Bool) → Places → Type 0
AreTaken vacant places = (n : Name) → vacant n ≡ false → IsSome (map.get places n) → IsSome (class_at places n)

-- the places of names that pass the test may become vacant
abbrev pub MayVacate : (Name → Bool) → (old new : Places) → Type 0
MayVacate test old new = (vacant : Name → Bool) → AreTaken vacant old → AreTaken (λ n. vacant n || test n) new

-- the places of names that pass the test are filled or removed
abbrev pub Fills : (Name → Bool) → (old new : Places) → Type 0
Fills test old new = (vacant : Name → Bool) → AreTaken (λ n. vacant n || test n) old → AreTaken vacant new

-- each place has a class
abbrev pub NoneVacant : Places → Type 0
NoneVacant places = AreTaken (λ n. false) places
