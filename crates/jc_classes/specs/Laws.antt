-- The laws of parts: a class has at most one part, which depends only on the reach of the class.
use Rattle.std.specs.Prelude.{◌≡◌, Bool, true, false}
use Rattle.jc_classes.specs.Names.{Name}
use Rattle.jc_classes.specs.Worlds.{World}
use Rattle.jc_classes.specs.Parts.{Reach, Part, IsPart}

-- each name that is not touched is the same in both worlds, such as the worlds before and after an edit
abbrev pub Differ : (Name → Bool) → World → World → Type 0
Differ touched m k = (n : Name) → touched n ≡ false → m n ≡ k n

-- the reach of the class has no touched name
abbrev pub Avoids : (Name → Bool) → World → Name → Type 0
Avoids touched m d = (n : Name) → Reach m d n → touched n ≡ false

-- the reach of the class has a touched name
abbrev pub Hits : (Name → Bool) → World → Name → Type 0
Hits touched m d = (n : Name) × (touched n ≡ true) × Reach m d n

-- a class has at most one part in a world
abbrev pub PartIsOne : Type 0
PartIsOne = (m : World) (d : Name) (p q : Part) → IsPart m d p → IsPart m d q → p ≡ q

-- a class whose reach has no touched name has the same reach and the same part in both worlds
abbrev pub Locality : Type 0
Locality = (touched : Name → Bool) (m k : World) (d : Name) → Differ touched m k → Avoids touched m d
    → ((n : Name) → (Reach m d n → Reach k d n) × (Reach k d n → Reach m d n))
    × ((p : Part) → (IsPart m d p → IsPart k d p) × (IsPart k d p → IsPart m d p))

-- if the reach of a class has a touched name in the first world, it has one in the second
abbrev pub AffectedByEither : Type 0
AffectedByEither = (touched : Name → Bool) (m k : World) (d : Name) → Differ touched m k → Hits touched m d → Hits touched k d
