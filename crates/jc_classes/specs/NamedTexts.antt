-- What the text of a Class constant names (JVMS 4.4.1): for an array, the text is its descriptor.
use Rattle.std.specs.Prelude.{ℕ, ◌==◌, List, [], ◌∷◌, length, take, Option, Some, None, if◌then◌else◌}
use Rattle.jc_classes.specs.Names.{Name}
use Rattle.jc_classes.specs.Facts.{Named}
use Rattle.jc_classes.specs.Facts.Named.{Class, Array}

-- a field descriptor without the `[` in front (JVMS 4.3.2)
abbrev pub without_dimensions : List ℕ → List ℕ
without_dimensions [] = []
without_dimensions (x ∷ xs) = if x == 91 then without_dimensions xs else x ∷ xs

-- the class in a descriptor that begins with `L`: the text before the last character, which is `;`
abbrev pub class_in_descriptor : List ℕ → Option Name
class_in_descriptor [] = None
class_in_descriptor (x ∷ []) = None
class_in_descriptor (x ∷ y ∷ ys) = if x == 76 then Some (take (length ys) (y ∷ ys)) else None

-- an array if the text begins with `[`, else a class
abbrev pub named_by : List ℕ → Named
named_by [] = Class []
named_by (x ∷ xs) = if x == 91 then Array (x ∷ xs) (class_in_descriptor (without_dimensions xs)) else Class (x ∷ xs)
