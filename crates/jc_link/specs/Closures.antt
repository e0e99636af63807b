-- The reach of a class, as it is read from a table.
use Rattle.jc_classes.specs.Worlds.{Stands as stands}
use Rattle.std.specs.Prelude.{◌≡◌, List, [], ◌∷◌, Option, Some, None}
use Rattle.jc_classes.specs.Facts.{Facts}
use Rattle.jc_classes.specs.NameLists.{Lists}
use Rattle.jc_classes.specs.Names.{Name}
use Rattle.jc_classes.specs.Parts.{Reach}
use Rattle.jc_classes.specs.Worlds.{Stands, World}
use Rattle.jc_link.specs.Graphs.{ClassGraph, IsIn}

-- the names of a reach, in ascending order, and the graph around its class
pub record Closure : Type 0 where
  pub names : List Name
  pub graph : ClassGraph

-- the names are the reach of the class d in the world m, and the graph has only this class and says what its names are
-- in m
pub record IsClosure (m : World) (d : Name) (c : Closure) : Type 0 where
  pub names : Lists c.names (Reach m d)
  pub class : c.graph.classes ≡ d ∷ []
  pub stands : IsIn m c.graph

-- the facts of a name, if it is a class
abbrev pub facts_standing : Stands → Option Facts
facts_standing (stands.Class r) = Some r
facts_standing stands.Outside = None
facts_standing stands.Absent = None
