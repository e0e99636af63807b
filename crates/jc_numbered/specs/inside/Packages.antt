-- The length of the package of a name, and names in one package.
use Rattle.std.specs.Prelude.{ℕ, Bool, length}
use Rattle.jc_classes.specs.Names.{Name, package_of, same_name}
use Rattle.jc_numbered.specs.inside.Indexed.{Indexed, indexed_name}

abbrev pub package_end : Name → ℕ
package_end name = length (package_of name)

-- two nodes are in one package
abbrev pub same_package : Indexed → ℕ → ℕ → Bool
same_package x v w = same_name (package_of (indexed_name x v)) (package_of (indexed_name x w))
