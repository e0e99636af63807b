-- What stands at a name of a table, and what is kept there.
use Rattle.std.proofs.Common.{◌≡◌, ◌∙◌, Bool, true, false, Option, Some, None, IsSome, is_some, refl, sym, ap}
use Rattle.std.proofs.lemmas.Bool.{false≢true}
use Rattle.std.specs.FinMap as fin
use Rattle.jc_classes.specs.Facts.{Facts}
use Rattle.jc_classes.specs.NameLists.{has}
use Rattle.jc_classes.specs.Names.{Name}
use Rattle.jc_link.specs.Closures.{facts_standing}
use Rattle.jc_link.specs.Prefixes.{is_covered}
use Rattle.jc_link.specs.Tables.{class_at, or_built_in, stands_by}
use Rattle.jc_linkage.specs.Linkages.{Linkage, given, world_held}
use Rattle.jc_linkage.specs.declared.class_entry.ClassEntry.{ClassEntry}
use Rattle.jc_linkage.specs.inside.Kept.{IsKept, KeptMap, Relation, names_by, names_kept}

pub some_by : {X : Type 0} (o : Option X) → IsSome o → (x : X) × (o ≡ Some x)
some_by None h = absurd (false≢true h)
some_by (Some x) h = (x, refl)

pub some_one : {X : Type 0} {x y : X} → Some x ≡ Some y → x ≡ y
some_one e = cc

-- a name that is kept is kept of a class
pub kept_by : (r : Relation) (o : Option ClassEntry) (n : Name) → has (names_kept r o) n ≡ true → (k : ClassEntry) × (o ≡ Some k) × (has (names_by r k) n ≡ true)
kept_by r None n h = absurd (false≢true h)
kept_by r (Some k) n h = (k, refl, h)

-- the record of a class that files give is theirs
pub record_given : (a : Linkage) (d : Name) (f : Facts) → class_at a.classes d ≡ Some f → facts_standing (world_held a d) ≡ Some f
record_given a d f e = ap (λ o. facts_standing (stands_by (or_built_in o d) (is_covered a.prefixes d))) e

module _ (a : Linkage) (kept : KeptMap) (held : IsKept (given a) (world_held a) kept) where
  pub kept_of : (d : Name) (f : Facts) → class_at a.classes d ≡ Some f → (k : ClassEntry) × (fin.get kept d ≡ Some k)
  kept_of d f e = some_by (fin.get kept d) (held.complete d (ap is_some e))

  pub facts_of : (d : Name) (k : ClassEntry) → fin.get kept d ≡ Some k → (f : Facts) × (class_at a.classes d ≡ Some f)
  facts_of d k e = some_by (class_at a.classes d) (held.only d k e)

  -- files give those classes alone of which something is kept
  pub given_kept : (d : Name) → is_some (fin.get kept d) ≡ given a d
  given_kept d = by (fin.get kept d) (given a d) refl refl
    where
      by : (o : Option ClassEntry) (b : Bool) → fin.get kept d ≡ o → given a d ≡ b → is_some (fin.get kept d) ≡ given a d
      by (Some k) b e g = ap is_some e ∙ sym (held.only d k e)
      by None true e g = absurd (false≢true (sym (ap is_some e) ∙ held.complete d g))
      by None false e g = ap is_some e ∙ sym g
