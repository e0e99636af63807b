-- Selection of methods among numbered classes.
use Rattle.std.specs.Prelude.{ℕ, Bool, false, true, not, List, [], ◌∷◌, Option, Some, None}
use Rattle.jc_file.specs.AccessFlags.{abstract, has, static}
use Rattle.jc_classes.specs.Facts.{Key, Member}
use Rattle.jc_classes.specs.Names.{Name}
use Rattle.jc_classes.specs.Overriding.{is_open_to}
use Rattle.jc_classes.specs.Worlds.{member, methods_of}
use Rattle.jc_numbered.specs.inside.Indexed.{Indexed, indexed_name, standing_of}
use Rattle.jc_numbered.specs.inside.Picks.{gives}
use Rattle.jc_resolve.specs.inside.AbstractMethods.{member_in}
use Rattle.jc_resolve.specs.declared.abstract_methods.AbstractMethod.{AbstractMethod}

-- a subclass v can override the method
abbrev pub is_open_at : Indexed → ℕ → AbstractMethod → Bool
is_open_at x v e = is_open_to (indexed_name x v) (indexed_name x e.node) (member_in e)

abbrev pub is_instance : Option Member → Bool
is_instance None = false
is_instance (Some y) = not (has y.flags static)

-- v declares a method with this key that is not STATIC
abbrev pub declares_at : Indexed → Key → ℕ → Bool
declares_at x k v = is_instance (member (methods_of (standing_of x v)) k)

abbrev pub is_bare : List Name → Bool
is_bare [] = true
is_bare (i ∷ is) = false

abbrev pub is_abstract_member : Option Member → Bool
is_abstract_member None = false
is_abstract_member (Some y) = has y.flags abstract

-- the interface v declares an ABSTRACT method with this key
abbrev pub is_abstract_at : Indexed → Key → ℕ → Bool
is_abstract_at x k v = is_abstract_member (gives x k v)
