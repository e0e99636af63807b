-- Paths of the entries below a folder.
use Rattle.std.specs.Prelude.{◌≡◌, ℕ, List, [], ◌∷◌, ◌++◌, codes}
use Rattle.std.specs.String.{string_bytes}
use Rattle.std.specs.Str.{IsUtf8}
use Rattle.jc_session.specs.declared.walk.Entry.{Entry}
use Rattle.jc_session.specs.declared.walk.Entry.TheVariants.{At, Unnamed}

-- the path of a folder joined with a path relative to it; the empty path is the folder itself
abbrev pub below : (folder path : List ℕ) → List ℕ
below folder [] = folder
below folder (b ∷ path) = folder ++ codes "/" ++ b ∷ path

-- the path of a name in a folder; both paths are relative to the folder that is walked, whose own path is empty
abbrev pub inner_path : (folder name : List ℕ) → List ℕ
inner_path [] name = name
inner_path (b ∷ folder) name = below (b ∷ folder) name

-- the entry of a name in a folder: its path if the name is UTF-8, otherwise the path of the folder
abbrev pub IsEntry : (folder name : List ℕ) → Entry → Type 0
IsEntry folder name (At path) = IsUtf8 name × (string_bytes path ≡ inner_path folder name)
IsEntry folder name (Unnamed path) = ¬ (IsUtf8 name) × (string_bytes path ≡ folder)
