use Rattle.std.proofs.Common.{◌≡◌, ◌||◌, take}
use Rattle.std.specs.FinMap as map
use Rattle.jc_classes.specs.NameLists.{has}
use Rattle.jc_classes.specs.Names.{Name, names_of}
use Rattle.jc_linkage.proofs.prefixes.add_all.Given as goal

-- those so far are among them
abbrev pub invariant-loop-name : goal.invariant-loop-name
invariant-loop-name l = (d : Name) → map.contains_key l.found d ≡ (map.contains_key l.fn.found d || has (names_of (take l.name-index l.names)) d)
