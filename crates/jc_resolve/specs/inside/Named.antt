-- What the text of a Class constant names, by the node of its class.
use Rattle.std.specs.Prelude.{◌≡◌, ℕ, Option, option_map}
use Rattle.jc_classes.specs.NamedTexts.{named_by}
use Rattle.jc_classes.specs.Names.{Name}
use Rattle.jc_classes.specs.Parts.{class_of}
use Rattle.jc_numbered.specs.inside.Indexed.{Indexed, indexed_name}
use Rattle.jc_resolve.specs.declared.resolve.NamedNode.{NamedNode}
use Rattle.jc_resolve.specs.inside.Resolved.{named_of, IsWithinAll, IsWithinSome}

-- the node is that of the class that the text names; for an array, of its innermost class
abbrev pub IsNodeOf : Indexed → Name → Option ℕ → Type 0
IsNodeOf x text node = class_of (named_by text) ≡ option_map (indexed_name x) node

abbrev pub TellsNamed : Name → Option ℕ → NamedNode → Type 0
TellsNamed text node named = (x : Indexed) → IsNodeOf x text node → named_of x named text ≡ named_by text

abbrev pub TellsNamedWithin : Name → Option ℕ → NamedNode → Type 0
TellsNamedWithin text node named = (x : Indexed) (count : ℕ)
    → IsNodeOf x text node → IsWithinSome count node → IsWithinAll count named
