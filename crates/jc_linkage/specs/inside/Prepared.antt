-- Parts that are computed before an edit is committed.
use Rattle.std.specs.Prelude.{◌≡◌, ℕ, List, ◌++◌, length, IfOk, Option, Result}
use Rattle.std.specs.Borrow.{Bor}
use Rattle.std.specs.FinMap as map
use Rattle.std.specs.Option.{option_copied, option_to_list}
use Rattle.std.specs.declared.alloc.Global.{Global}
use Rattle.std.specs.declared.vec.Vec.{Vec}
use Rattle.jc_classes.specs.Names.{Name, names_of}
use Rattle.jc_classes.specs.Worlds.{World}
use Rattle.jc_link.specs.Meters.{counted}
use Rattle.jc_link.specs.Graphs.{IsReached}
use Rattle.jc_link.specs.Tables.{Places, world}
use Rattle.jc_link.specs.declared.meter.Meter.{Meter}
use Rattle.jc_linkage.specs.Affected.{Enumerates}
use Rattle.jc_linkage.specs.declared.class_entry.NewEntry.{NewEntry}
use Rattle.jc_linkage.specs.inside.Kept.{AllFresh, KeptMap, fresh_at, fresh_names}

-- entries were computed for the names and for the added class. Only that of the added class is in the map
pub record IsPrepared (m : World) (names : List Name) (comes : Option Name) (kept now : KeptMap) (fresh : List NewEntry)
    (old new : Meter) : Type 0 where
  pub last : List NewEntry
  pub others : fresh_names fresh ≡ names
  pub newcomer : fresh_names last ≡ option_to_list comes
  pub parts : AllFresh m (fresh ++ last)
  pub at : (d : Name) → map.get now d ≡ fresh_at last d (map.get kept d)
  pub made : new.made ≡ counted old.made (length (fresh_names (fresh ++ last)))

-- each name that these classes reach was looked up once in a table
pub record HasAskedFor (m : World) (classes : List Name) (old new : Meter) : Type 0 where
  pub reached : List Name
  pub are_reached : Enumerates reached (IsReached m classes)
  pub asks : new.asks ≡ counted old.asks (length reached)

-- entries were computed over a table, in which the names that they reach were looked up
pub record IsPreparedOver (table : Places) (outside : List Name) (names : List (Vec ℕ Global)) (comes : Option (Bor (List ℕ)))
    (kept now : KeptMap) (fresh : List NewEntry) (old new : Meter) : Type 0 where
  pub ready : IsPrepared (world table outside) (names_of names) (option_copied comes) kept now fresh old new
  pub asked : HasAskedFor (world table outside) (fresh_names (fresh ++ ready.last)) old new

-- the entries that a successful call returns are prepared
abbrev pub Prepares : {E : Type 0} → Result (Vec NewEntry Global) E → (table : Places) → (outside : List Name)
    → List (Vec ℕ Global) → (comes : Option (Bor (List ℕ))) → (kept now : KeptMap) → (old new : Meter) → Type 0
Prepares result table outside names comes kept now old new =
    IfOk result (λ fresh. IsPreparedOver table outside names comes kept now fresh.items old new)
