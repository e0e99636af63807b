-- Class graphs: classes with all that they reach.
use Rattle.std.specs.Prelude.{◌≡◌, List, map}
use Rattle.std.specs.List.{Contains}
use Rattle.jc_classes.specs.Facts.{Facts}
use Rattle.jc_classes.specs.Names.{Name}
use Rattle.jc_classes.specs.Numbers.{IsOnce}
use Rattle.jc_classes.specs.Parts.{Reach}
use Rattle.jc_classes.specs.Worlds.{Stands, World}

-- some classes, some names, and what each of these names is
pub record ClassGraph : Type 0 where
  -- in the order in which they were given
  pub classes : List Name
  pub names : List Name
  pub stands : List Stands

-- in the world m each name is what the graph says
abbrev pub IsIn : World → ClassGraph → Type 0
IsIn m g = g.stands ≡ map m g.names

-- one of these classes reaches the name
abbrev pub IsReached : World → (classes : List Name) → Name → Type 0
IsReached m classes x = (d : Name) × Contains classes d × Reach m d x

-- the graph is that of its classes in the world m: its names are those that its classes reach, each once. Without a
-- class it may have other names
pub record IsAround (m : World) (g : ClassGraph) : Type 0 where
  pub stands : IsIn m g
  pub once : IsOnce g.names
  pub reached : (d x : Name) → Contains g.classes d → Contains g.names x → IsReached m g.classes x
  pub whole : (x : Name) → IsReached m g.classes x → Contains g.names x

abbrev pub names_of_classes : List Facts → List Name
names_of_classes classes = map (λ (f : Facts). f.name) classes
