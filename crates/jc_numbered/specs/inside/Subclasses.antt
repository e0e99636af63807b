-- The subclasses of classes.
use Rattle.std.specs.Prelude.{◌≡◌, ℕ, ◌<◌, List, length, Option, Some, slice_get}
use Rattle.jc_numbered.specs.declared.subclasses.Subclasses.{Subclasses}

-- all that the list has are below the count
abbrev pub AreBelow : ℕ → List (Option ℕ) → Type 0
AreBelow count nodes = (i v : ℕ) → slice_get nodes i ≡ Some (Some v) → v < count

-- there is an entry for each class, and each is a class
pub record IsWithin (count : ℕ) (s : Subclasses) : Type 0 where
  pub first_size : length s.first.items ≡ count
  pub next_size : length s.next.items ≡ count
  pub first : AreBelow count s.first.items
  pub next : AreBelow count s.next.items
  pub root : (v : ℕ) → s.root ≡ Some v → v < count
