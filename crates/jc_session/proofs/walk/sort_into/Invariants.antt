use Rattle.std.proofs.Common.{◌≡◌, ◌||◌, ◌&&◌}
use Rattle.std.proofs.Common.{map as map_each}
use Rattle.std.specs.List.{list_any}
use Rattle.std.specs.FinMap as map
use Rattle.jc_classes.specs.Names.{Name}
use Rattle.jc_base.specs.Bytes.{same_bytes}
use Rattle.jc_session.specs.inside.FolderNames.{is_entry_name}
use Rattle.jc_session.proofs.walk.sort_into.Given as goal

abbrev pub invariant-loop-name : goal.invariant-loop-name
invariant-loop-name l = (n : Name) → map.contains_key l.each n ≡ (map.contains_key l.initial.each n || (is_entry_name n && list_any (same_bytes n) (map_each (λ x. x.now) l.yielded)))
