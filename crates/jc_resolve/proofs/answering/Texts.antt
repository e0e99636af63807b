-- What a Class constant names has its text.
use Rattle.std.proofs.Common.{◌≡◌, ◌==◌, Bool, true, false, if◌then◌else◌, List, ℕ, [], ◌∷◌, refl}
use Rattle.jc_classes.specs.Facts.Named.{Class, Array}
use Rattle.jc_classes.specs.NamedTexts.{named_by, class_in_descriptor, without_dimensions}
use Rattle.jc_classes.specs.Worlds.{text_of}

pub text_named : (text : List ℕ) → text_of (named_by text) ≡ text
text_named [] = refl
text_named (x ∷ xs) = by (x == 91)
  where
    by : (b : Bool) → text_of (if b then Array (x ∷ xs) (class_in_descriptor (without_dimensions xs)) else Class (x ∷ xs)) ≡ x ∷ xs
    by true = refl
    by false = refl
