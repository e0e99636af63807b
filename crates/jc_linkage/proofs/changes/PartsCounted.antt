-- A part is made of each affected class, and the table is asked for each name that they reach.
use Rattle.std.proofs.Common.{◌≡◌, Bool, true, List, [], ◌∷◌, length, map as list_map}
use Rattle.jc_classes.specs.NameLists.{has}
use Rattle.jc_classes.specs.Names.{Name}
use Rattle.jc_classes.specs.Worlds.{World}
use Rattle.jc_link.specs.Meters.{counted}
use Rattle.jc_link.specs.declared.meter.Meter.{Meter}
use Rattle.jc_linkage.specs.Affected.{AreReaches, IsAffected, IsCounted, NoRepeat, counts_of}
use Rattle.jc_linkage.specs.declared.class_entry.NewEntry.{NewEntry}
use Rattle.jc_linkage.specs.inside.Kept.{AllFresh, fresh_names}
use Rattle.jc_linkage.specs.inside.Prepared.{HasAskedFor}

fresh_reaches : List NewEntry → List (List Name)
fresh_reaches xs = list_map (λ (x : NewEntry). x.kept.reach) xs

reaches_of : (m : World) (xs : List NewEntry) → AllFresh m xs → AreReaches m (fresh_names xs) (fresh_reaches xs)
unfolding fresh_reaches
reaches_of m [] h = tt
reaches_of m (x ∷ xs) h = (h.0.reach, reaches_of m xs h.1)

pub counted_after : (touched h : Name → Bool) (v : World) (made : List NewEntry) (old new : Meter) → AllFresh v made → NoRepeat (fresh_names made)
    → ((d : Name) → has (fresh_names made) d ≡ true → IsAffected h v touched d) → ((d : Name) → IsAffected h v touched d → has (fresh_names made) d ≡ true)
    → new.made ≡ counted old.made (length (fresh_names made)) → HasAskedFor v (fresh_names made) old new → IsCounted h v touched (counts_of old) (counts_of new)
counted_after touched h v made old new all once sound complete parts asked = record {
  affected = fresh_names made;
  reaches = fresh_reaches made;
  reached = asked.reached;
  are_affected = record { once = once; sound = sound; complete = complete };
  are_reaches = reaches_of v made all;
  are_reached = asked.are_reached;
  made = parts;
  asks = asked.asks;
}
