-- The entries of classes and the links of a linkage.
use Rattle.std.specs.Prelude.{◌≡◌, ◌⊎◌, Bool, Decides, true, false, ◌||◌, if◌then◌else◌}
use Rattle.std.specs.Prelude.{List, Option, Some, None, IsSome, is_some, refl, OnOk, Result}
use Rattle.std.specs.FinMap as fin
use Rattle.std.specs.Coded.{Coded, code_by, coded×}
use Rattle.jc_classes.specs.Facts.{Facts}
use Rattle.jc_classes.specs.Names.{Name}
use Rattle.jc_link.specs.Tables.{Places, class_at, world}
use Rattle.jc_link.specs.declared.meter.Meter.{Meter}
use Rattle.jc_linkage.specs.Affected.{IsCounted, counts_of}
use Rattle.jc_linkage.specs.Linkages.{Linkage}
use Rattle.jc_linkage.specs.Steps.{Classes, at_step, is_class, step_class, step_name}
use Rattle.jc_linkage.specs.declared.dependants.Dependants.{Dependants}
use Rattle.jc_linkage.specs.declared.step.Step.{Step}
use Rattle.jc_linkage.specs.declared.step.Step.TheVariants.{Put}
use Rattle.jc_linkage.specs.inside.Kept.{AreLinked, IsKept, KeptMap}
use Rattle.jc_linkage.specs.inside.Stepping.{IsBack, IsThere, stepped}

abbrev pub given_in : Places → Name → Bool
given_in places n = is_some (class_at places n)

-- `kept` has the part and the reach of each class in the world of all classes, and `dependants` is its inverse
pub record IsHeld (places : Places) (prefixes : List Name) (kept : KeptMap) (dependants : Dependants) : Type 0 where
  pub parts : IsKept (given_in places) (world places prefixes) kept
  pub linked : AreLinked kept dependants

-- the meter counted the parts and the look-ups of an edit that touched these names
abbrev pub IsCountedOver : Places → (prefixes : List Name) → (touched : Name → Bool) → (old new : Meter) → Type 0
IsCountedOver places prefixes touched old new =
    IsCounted (given_in places) (world places prefixes) touched (counts_of old) (counts_of new)

-- each class is at its own name
abbrev pub AreNamed : Places → Type 0
AreNamed places = (name : Name) (facts : Facts) → class_at places name ≡ Some facts → facts.name ≡ name

abbrev pub linkage_code : Coded Places → Coded (List Name) → Coded Linkage
linkage_code places prefixes =
    code_by (Places × List Name) (coded× places prefixes)
    (λ a. (a.classes, a.prefixes)) (λ p. record { classes = p.0; prefixes = p.1 }) (λ _. refl)

-- ---- an optional step

abbrev pub name_of : Option Step → Option Name
name_of None = None
name_of (Some s) = Some (step_name s)

abbrev pub at_either : (first second : Option Step) → Name → Bool
at_either first second n = at_step first n || at_step second n

abbrev pub stepped_by : Option Step → Classes → Classes
stepped_by None m n = m n
stepped_by (Some s) m n = stepped s m n

-- the name of the class that the step removes
abbrev pub removed_name : Option Step → Option Name
removed_name None = None
removed_name (Some s) = if is_some (step_class s) then None else Some (step_name s)

-- the name of the step, if it has no entry
abbrev pub new_name : KeptMap → Option Step → Option Name
new_name kept None = None
new_name kept (Some s) = if is_some (fin.get kept (step_name s)) then None else Some (step_name s)

-- the step changes nothing: its name has no class, or is that of the put class, or has the step's class already
abbrev pub IsIdle : Classes → Option Facts → Step → Type 0
IsIdle m put s = (m (step_name s) ≡ None) ⊎ ((is_class put (step_name s) ≡ true) ⊎ (step_class s ≡ m (step_name s)))

-- the step, unless it changes nothing
abbrev pub IsCounting : Classes → Option Facts → (first result : Option Step) → Type 0
IsCounting m put None result = result ≡ None
IsCounting m put (Some s) result = (idle : Bool) × Decides idle (IsIdle m put s) × (result ≡ (if idle then None else Some s))

-- the step that puts a class, unless the class is at its name already
abbrev pub IsPutting : Classes → Option Facts → (result : Option Step) → Type 0
IsPutting m None result = result ≡ None
IsPutting m (Some f) result = (stands : Bool) × Decides stands (m f.name ≡ Some f) × (result ≡ (if stands then None else Some (Put f)))

-- the step is at the name of a class, and the other step is at another name
abbrev pub CountsStep : Classes → Option Step → Option Step → Type 0
CountsStep m None other = Unit {0}
CountsStep m (Some s) other = IsSome (m (step_name s)) × (at_step other (step_name s) ≡ false)

abbrev pub PutsClass : Option Step → Type 0
PutsClass None = Unit {0}
PutsClass (Some s) = IsSome (step_class s)

abbrev pub AreBack : (back step : Option Step) → Classes → Type 0
AreBack None None m = Unit {0}
AreBack (Some b) (Some s) m = IsBack b s m
AreBack None (Some s) m = ⊥
AreBack (Some b) None m = ⊥

abbrev pub AreThere : Option Step → Places → Type 0
AreThere None places = Unit {0}
AreThere (Some s) places = IsThere s places

-- if the call succeeds, it has updated the entries and links after two steps. `old` are any classes before the steps,
-- and the first step is at the name of one of them. If `kept` and `dependants` are right for `old`, then `kept_now` and
-- `dependants_now` are right for `now`. The meter counted the parts and the look-ups
abbrev pub Holds : {T E : Type 0} → Result T E → (first second : Option Step) → (prefixes : List Name) → (stepped now : Places)
    → (kept kept_now : KeptMap) → (dependants dependants_now : Dependants) → (before behind : Meter) → Type 0
Holds result first second prefixes stepped now kept kept_now dependants dependants_now before behind = OnOk result (
    (old : Places) → IsHeld old prefixes kept dependants
    → ((n : Name) → at_step first n ≡ true → given_in old n ≡ true)
    → ((n : Name) → at_either first second n ≡ false → class_at stepped n ≡ class_at old n)
    → IsHeld now prefixes kept_now dependants_now × IsCountedOver now prefixes (at_either first second) before behind)
