-- The methods of a node.
use Rattle.std.specs.Prelude.{ℕ, Option}
use Rattle.jc_classes.specs.Facts.{Member, Key}
use Rattle.jc_classes.specs.MethodLookup.{declared}
use Rattle.jc_numbered.specs.inside.Indexed.{Indexed, indexed_name, standing_of}

-- the method that look-up finds in the class of the node itself
abbrev pub declared_at : Indexed → ℕ → Key → Option Member
declared_at x v k = declared (indexed_name x v) (standing_of x v) k
