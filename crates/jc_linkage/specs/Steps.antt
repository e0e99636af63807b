-- What an edit changes: the class of a name, or the classes of two names.
use Rattle.std.specs.Prelude.{Bool, false, ◌&&◌, cond, Option, Some, None, is_some}
use Rattle.jc_classes.specs.Facts.{Facts}
use Rattle.jc_classes.specs.Names.{Name, same_name}
use Rattle.jc_linkage.specs.declared.step.Step.{Step}
use Rattle.jc_linkage.specs.declared.step.Step.TheVariants.{Put, Remove}

-- the class that files give for each name
abbrev pub Classes : Type 0
Classes = Name → Option Facts

abbrev pub step_name : Step → Name
step_name (Put f) = f.name
step_name (Remove name) = name.items

-- the class of the name after the step, or None if the step removes it
abbrev pub step_class : Step → Option Facts
step_class (Put f) = Some f
step_class (Remove name) = None

abbrev pub is_step : Step → Name → Bool
is_step s n = same_name n (step_name s)

-- ---- a step, and a class that is put after it

-- whether there is a class, and it has the name
abbrev pub is_class : Option Facts → Name → Bool
is_class None n = false
is_class (Some f) n = same_name n f.name

-- whether there is a step, and it is at the name
abbrev pub at_step : Option Step → Name → Bool
at_step None n = false
at_step (Some s) n = is_step s n

abbrev pub class_by : Option Step → Option Facts
class_by None = None
class_by (Some s) = step_class s

-- the classes after both. The step has an effect only if its name has a class and is not the name of the put class
abbrev pub changed : Classes → Option Step → Option Facts → Classes
changed m first put n = cond (is_class put n) put (cond (at_step first n && is_some (m n)) (class_by first) (m n))
