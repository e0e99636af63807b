-- The outside prefixes, as the code keeps them.
use Rattle.std.specs.Prelude.{ℕ, List, ◌↔◌}
use Rattle.std.specs.List.{Contains}
use Rattle.jc_classes.specs.Names.{Name}
use Rattle.jc_classes.specs.Numbers.{IsOnce}
use Rattle.jc_link.specs.Prefixes.{standard_prefixes}
use Rattle.jc_link.specs.declared.outside.Prefixes.{Prefixes}
use Rattle.jc_link.specs.declared.outside.Prefixes.TheVariants.{Standard, Given}

abbrev pub prefixes_held : Prefixes → List (List ℕ)
prefixes_held Standard = standard_prefixes
prefixes_held (Given prefixes) = prefixes

-- the prefixes are the given ones, each once
pub record IsHeldOf (held given : List Name) : Type 0 where
  pub same : (p : Name) → Contains held p ↔ Contains given p
  pub once : IsOnce held
