-- The invariant of the lists of an index.
use Rattle.std.specs.Prelude.{◌≢◌, [], Some}
use Rattle.std.specs.FinMap as map
use Rattle.jc_classes.specs.Names.{Name}
use Rattle.jc_index.specs.Indexes.{UserLists}

-- no name has an empty list
abbrev pub IsIndex : UserLists → Type 0
IsIndex lists = (name : Name) → map.get lists name ≢ Some []
