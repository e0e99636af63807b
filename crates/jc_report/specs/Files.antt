-- The files of a tree.
use Rattle.std.specs.Prelude.{ℕ, List}
use Rattle.std.specs.FinMap as map
use Rattle.jc_base.specs.Bytes.{bytes_cmp}

-- the bytes of each file, by path
abbrev pub Files : Type 0
Files = map.FinMap bytes_cmp (List ℕ)
