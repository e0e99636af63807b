use Rattle.std.proofs.Common.{◌≡◌, ◌||◌, true, IsSome, vec_len}
use Rattle.std.specs.FinMap as map
use Rattle.jc_classes.specs.NameLists.{has}
use Rattle.jc_classes.specs.Names.{Name}
use Rattle.jc_linkage.specs.Affected.{NoRepeat}
use Rattle.jc_linkage.specs.inside.Kept.{Relation, fresh_at, fresh_has, fresh_names, held_in, linked}
use Rattle.jc_linkage.proofs.replacement.commit.Given as goal

abbrev pub invariant-loop-one : goal.invariant-loop-one
invariant-loop-one l = record {
  there : (d : Name) → has (fresh_names l.fresh.items) d ≡ true → IsSome (map.get l.kept d);
  apart : NoRepeat (fresh_names l.fresh.items);
  linked : (r : Relation) (n d : Name) → linked r l.dependants n d ≡ (held_in r l.kept d n || fresh_has r l.fresh.items d n);
  same : (d : Name) → fresh_at l.fresh.items d (map.get l.kept d) ≡ fresh_at l.fn.fresh.items d (map.get l.fn.kept d);
}

abbrev pub decreases-loop-one : goal.decreases-loop-one
decreases-loop-one l = vec_len l.fresh
