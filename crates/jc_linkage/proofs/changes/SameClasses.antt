-- Tables of the same classes.
use Rattle.std.proofs.Common.{◌≡◌, Bool, List, is_some, sym, subst}
use Rattle.jc_classes.specs.Names.{Name}
use Rattle.jc_classes.specs.Worlds.{World}
use Rattle.jc_link.specs.Meters.{Counts}
use Rattle.jc_link.specs.Prefixes.{is_covered}
use Rattle.jc_link.specs.Tables.{Places, class_at, or_built_in, stands_by, world}
use Rattle.jc_linkage.specs.Affected.{IsCounted}
use Rattle.jc_linkage.specs.declared.dependants.Dependants.{Dependants}
use Rattle.jc_linkage.specs.inside.Holding.{IsHeld, given_in}
use Rattle.jc_linkage.specs.inside.Kept.{IsKept, KeptMap}

same_given : (a b : Places) → ((n : Name) → class_at b n ≡ class_at a n) → given_in a ≡ given_in b
same_given a b h = λ i n. is_some (sym (h n) i)

same_world : (a b : Places) (prefixes : List Name) → ((n : Name) → class_at b n ≡ class_at a n) → world a prefixes ≡ world b prefixes
same_world a b prefixes h = λ i n. stands_by (or_built_in (sym (h n) i) n) (is_covered prefixes n)

pub held_same : (a b : Places) (prefixes : List Name) (kept : KeptMap) (dependants : Dependants) → ((n : Name) → class_at b n ≡ class_at a n) → IsHeld a prefixes kept dependants → IsHeld b prefixes kept dependants
held_same a b prefixes kept dependants h held = record {
  parts = subst (λ g. IsKept g (world b prefixes) kept) (same_given a b h) (subst (λ w. IsKept (given_in a) w kept) (same_world a b prefixes h) held.parts);
  linked = held.linked;
}

pub counted_same : (a b : Places) (prefixes : List Name) (touched : Name → Bool) (before behind : Counts) → ((n : Name) → class_at b n ≡ class_at a n)
    → IsCounted (given_in a) (world a prefixes) touched before behind → IsCounted (given_in b) (world b prefixes) touched before behind
counted_same a b prefixes touched before behind h counted =
    subst (λ g. IsCounted g (world b prefixes) touched before behind) (same_given a b h) (subst (λ w. IsCounted (given_in a) w touched before behind) (same_world a b prefixes h) counted)

pub counted_touch : (given : Name → Bool) (w : World) (touched other : Name → Bool) (before behind : Counts) → ((n : Name) → touched n ≡ other n)
    → IsCounted given w touched before behind → IsCounted given w other before behind
counted_touch given w touched other before behind h counted = subst (λ z. IsCounted given w z before behind) (λ i n. h n i) counted
