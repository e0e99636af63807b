-- Tables of classes, and the world that one makes with outside prefixes.
use Rattle.jc_classes.specs.Worlds.{Stands as stands}
use Rattle.std.specs.Prelude.{Bool, cond, List, Option, Some, None}
use Rattle.std.specs.FinMap as map
use Rattle.std.specs.List.{flat_map}
use Rattle.std.specs.Option.{option_to_list}
use Rattle.jc_classes.specs.Facts.{Facts}
use Rattle.jc_classes.specs.Names.{Name, name_cmp, same_name, object}
use Rattle.jc_classes.specs.Worlds.{Stands, World}
use Rattle.jc_classes.specs.BuiltIn.{object_facts}
use Rattle.jc_link.specs.Prefixes.{is_covered}

-- the places of a table by name, each with the facts of a file, or vacant
abbrev pub Places : Type 0
Places = map.FinMap name_cmp (Option Facts)

abbrev pub placed : Option (Option Facts) → Option Facts
placed None = None
placed (Some facts) = facts

-- the facts that a file gives for a name
abbrev pub class_at : Places → Name → Option Facts
class_at places name = placed (map.get places name)

-- the classes that files give, by name
abbrev pub classes_in : List (Name × Option Facts) → List Facts
classes_in places = flat_map (λ place. option_to_list place.1) places

abbrev pub classes_of : Places → List Facts
classes_of places = classes_in (map.entries places)

-- the facts of the built-in java/lang/Object
abbrev pub built_in : Name → Option Facts
built_in name = cond (same_name name object) (Some object_facts) None

abbrev pub or_built_in : Option Facts → Name → Option Facts
or_built_in (Some facts) name = Some facts
or_built_in None name = built_in name

-- the facts of a name: those that a file gives, or else the built-in ones
abbrev pub class_found : Places → Name → Option Facts
class_found places name = or_built_in (class_at places name) name

abbrev pub stands_by : Option Facts → Bool → Stands
stands_by (Some facts) outside = stands.Class facts
stands_by None outside = cond outside stands.Outside stands.Absent

-- what each name is: a class if it has facts, else outside if it begins with a prefix, else absent
abbrev pub world : Places → List Name → World
world places prefixes name = stands_by (class_found places name) (is_covered prefixes name)
