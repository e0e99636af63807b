-- Tables after a step.
use Rattle.std.proofs.Common.{◌≡◌, Bool, true, false, ◌||◌, cond, Option, Some, None, IsSome, is_some, refl, ap, subst, sym, ◌∙◌}
use Rattle.std.specs.Cmp.Lexicographic.{nat_list_cmp_total}
use Rattle.std.specs.FinMap as map
use Rattle.jc_classes.specs.Facts.{Facts}
use Rattle.jc_classes.specs.Names.{Name, same_name}
use Rattle.jc_classes.proofs.worlds.NameTests.{same_is}
use Rattle.jc_link.specs.Tables.{Places, class_at, placed}
use Rattle.jc_link.proofs.tables.Changes.{places_change}
use Rattle.jc_linkage.specs.inside.Stepping.{AreTaken}
use Rattle.jc_linkage.proofs.equations.Booleans.{or_no}

pub put_class : (places : Places) (name : Name) (place : Option Facts) (n : Name) → class_at (map.insert places name place) n ≡ cond (same_name n name) place (class_at places n)
put_class places name place n = (places_change places name place n).0

pub removed_class : (places : Places) (name n : Name) → class_at (map.remove places name) n ≡ cond (same_name n name) None (class_at places n)
removed_class places name n = (places_change places name None n).1

-- nothing stands there to be taken away
pub none_removed : (places : Places) (name n : Name) → class_at places name ≡ None → class_at places n ≡ cond (same_name n name) None (class_at places n)
none_removed places name n e = by (same_name n name) (λ s. ap (class_at places) (same_is n name s) ∙ e)
  where
    by : (b : Bool) → (b ≡ true → class_at places n ≡ None) → class_at places n ≡ cond b None (class_at places n)
    by true h = h refl
    by false h = refl

pub put_there : (places : Places) (name : Name) (place : Option Facts) (n : Name) → IsSome (map.get places n) → IsSome (map.get (map.insert places name place) n)
put_there places name place n h = ap is_some (map.get-insert nat_list_cmp_total places name place n) ∙ by (same_name n name)
  where
    by : (b : Bool) → is_some (cond b (Some place) (map.get places n)) ≡ true
    by true = refl
    by false = h

pub removed_there : (places : Places) (name n : Name) → same_name n name ≡ false → IsSome (map.get places n) → IsSome (map.get (map.remove places name) n)
removed_there places name n e h = ap is_some (map.get-remove nat_list_cmp_total places name n ∙ ap (λ b. cond b None (map.get places n)) e) ∙ h

-- ---- places that have a class

-- a place has a class, where there is one
abbrev IsTaken : Option (Option Facts) → Type 0
IsTaken place = IsSome place → IsSome (placed place)

-- a class was put
pub put_taken : (vacant : Name → Bool) (places : Places) (name : Name) (facts : Facts) → AreTaken (λ n. vacant n || same_name n name) places → AreTaken vacant (map.insert places name (Some facts))
put_taken vacant places name facts taken = λ n v. subst IsTaken (sym (map.get-insert nat_list_cmp_total places name (Some facts) n)) (by (map.get places n) (same_name n name) (vacant n) v (taken n))
  where
    by : (o : Option (Option Facts)) (s v : Bool) → v ≡ false → ((v || s) ≡ false → IsTaken o) → IsTaken (cond s (Some (Some facts)) o)
    by o true v e h = λ t. refl
    by o false v e h = h (ap (λ b. b || false) e)

-- a place was taken out
pub removed_taken : (vacant : Name → Bool) (places : Places) (name : Name) → AreTaken (λ n. vacant n || same_name n name) places → AreTaken vacant (map.remove places name)
removed_taken vacant places name taken = λ n v. subst IsTaken (sym (map.get-remove nat_list_cmp_total places name n)) (by (map.get places n) (same_name n name) (vacant n) v (taken n))
  where
    by : (o : Option (Option Facts)) (s v : Bool) → v ≡ false → ((v || s) ≡ false → IsTaken o) → IsTaken (cond s None o)
    by o true v e h = λ t. t
    by o false v e h = h (ap (λ b. b || false) e)

-- a place was given something else, or nothing
pub placed_taken : (vacant : Name → Bool) (places : Places) (name : Name) (place : Option Facts) → AreTaken vacant places → AreTaken (λ n. vacant n || same_name n name) (map.insert places name place)
placed_taken vacant places name place taken = λ n v. let p = or_no (vacant n) (same_name n name) v in
    subst IsTaken (sym (map.get-insert nat_list_cmp_total places name place n ∙ ap (λ b. cond b (Some place) (map.get places n)) p.1)) (taken n p.0)

-- nothing changed
pub still_taken : (vacant more : Name → Bool) (places : Places) → AreTaken vacant places → AreTaken (λ n. vacant n || more n) places
still_taken vacant more places taken = λ n v. taken n (or_no (vacant n) (more n) v).0
