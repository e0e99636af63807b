-- The chain of superclasses.
use Rattle.std.specs.Prelude.{◌≡◌, ℕ, Some}
use Rattle.jc_numbered.specs.inside.Indexed.{Indexed, superclass_at}

-- the node itself, or a node in its chain of superclasses
pub data ExtendsNode (x : Indexed) : ℕ → ℕ → Type 0 where
  itself : {v : ℕ} → ExtendsNode x v v
  through : {v s w : ℕ} → superclass_at x v ≡ Some s → ExtendsNode x s w → ExtendsNode x v w
