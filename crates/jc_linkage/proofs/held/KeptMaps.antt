-- What is kept of one class, after it was put in.
use Rattle.std.proofs.Common.{◌≡◌, Bool, true, false, cond, Option, Some, IsSome, is_some, refl, ap, ◌∙◌, None}
use Rattle.std.specs.Cmp.Lexicographic.{nat_list_cmp_total}
use Rattle.std.specs.FinMap as map
use Rattle.jc_classes.specs.NameLists.{has}
use Rattle.jc_classes.specs.Names.{Name, same_name}
use Rattle.jc_classes.proofs.worlds.NameTests.{same_is, same_self}
use Rattle.jc_linkage.specs.declared.class_entry.ClassEntry.{ClassEntry}
use Rattle.jc_linkage.specs.inside.Kept.{KeptMap, Relation, held_in, names_by, names_kept}
use Rattle.jc_linkage.specs.inside.Kept.Relation.{Reaches, Requires}
use Rattle.std.proofs.lemmas.Bool.{false≢true}

pub by_relation : (P : Relation → Type 0) → P Reaches → P Requires → (r : Relation) → P r
by_relation P a b Reaches = a
by_relation P a b Requires = b

pub kept_by : (o : Option ClassEntry) (n : Name) → has (names_kept Reaches o) n ≡ true → (k : ClassEntry) × (o ≡ Some k)
kept_by None n h = absurd (false≢true h)
kept_by (Some k) n h = (k, refl)

pub kept_at : (kept : KeptMap) (x : Name) (k : ClassEntry) (d : Name) → map.get (map.insert kept x k) d ≡ cond (same_name d x) (Some k) (map.get kept d)
kept_at kept x k d = map.get-insert nat_list_cmp_total kept x k d

pub kept_there : (kept : KeptMap) (x : Name) (k : ClassEntry) → map.get (map.insert kept x k) x ≡ Some k
kept_there kept x k = kept_at kept x k x ∙ ap (λ b. cond b (Some k) (map.get kept x)) (same_self x)

pub kept_stays : (kept : KeptMap) (x : Name) (k : ClassEntry) (d : Name) → IsSome (map.get kept d) → IsSome (map.get (map.insert kept x k) d)
kept_stays kept x k d h = ap is_some (kept_at kept x k d) ∙ by (same_name d x)
  where
    by : (b : Bool) → is_some (cond b (Some k) (map.get kept d)) ≡ true
    by true = refl
    by false = h

pub held_insert : (r : Relation) (kept : KeptMap) (x : Name) (k : ClassEntry) (d n : Name) → held_in r (map.insert kept x k) d n ≡ cond (same_name d x) (has (names_by r k) n) (held_in r kept d n)
held_insert r kept x k d n = ap (λ o. has (names_kept r o) n) (kept_at kept x k d) ∙ by (same_name d x)
  where
    by : (b : Bool) → has (names_kept r (cond b (Some k) (map.get kept d))) n ≡ cond b (has (names_by r k) n) (held_in r kept d n)
    by true = refl
    by false = refl

-- of the class itself it is known what is kept
pub held_at : (r : Relation) (kept : KeptMap) (x : Name) (o : Option ClassEntry) (d n : Name) → map.get kept x ≡ o → same_name d x ≡ true → held_in r kept d n ≡ has (names_kept r o) n
held_at r kept x o d n e s = ap (λ z. held_in r kept z n) (same_is d x s) ∙ ap (λ p. has (names_kept r p) n) e
