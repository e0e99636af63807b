-- Lists that are appended to.
use Rattle.std.specs.Prelude.{◌≡◌, ◌++◌, List}

-- the list begins with this front
abbrev pub BeginsWith : {A : Type 0} → (list front : List A) → Type 0
BeginsWith {A} list front = (more : List A) × (list ≡ front ++ more)
