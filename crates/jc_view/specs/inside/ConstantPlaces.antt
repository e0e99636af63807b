-- Bytes that are a class file, and the places of its constants.
use Rattle.std.specs.Prelude.{◌≡◌, ℕ, List, ◌∷◌, Option, None}
use Rattle.jc_view.specs.Places.{places_of}
use Rattle.jc_view.specs.declared.constant_pool.ConstantIndex.{ConstantIndex}
use Rattle.jc_view.specs.ClassFile.{ClassFile, layout, FitsClassFile}

-- the bytes are those of a class file whose constants begin at these places
pub record Holds (bytes : List ℕ) (places : List (Option ℕ)) (c : ClassFile) : Type 0 where
  pub fits : FitsClassFile c
  pub layout : layout c ≡ bytes
  pub are_places : places ≡ None ∷ places_of 10 c.constants

-- the same, and this index is its this_class
abbrev pub IsNamedAt : ClassFile → List ℕ → List (Option ℕ) → ConstantIndex → Type 0
IsNamedAt c bytes places index = Holds bytes places c × (c.this_class ≡ index)
