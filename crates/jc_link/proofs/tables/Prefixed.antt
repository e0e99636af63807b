-- What a class reaches, by other prefixes.
use Rattle.std.proofs.Common.{◌≡◌, Bool, true, false, List, Option, Some, None, refl, subst}
use Rattle.std.specs.List.{Contains}
use Rattle.jc_classes.specs.Facts.{Facts, Reference}
use Rattle.jc_classes.specs.Names.{Name}
use Rattle.jc_classes.specs.Parts.{Reach, names_in}
use Rattle.jc_classes.specs.Parts.Reach.{itself, always, reference, upward}
use Rattle.jc_classes.specs.Worlds.{references_of, supertypes_of}
use Rattle.jc_link.specs.Prefixes.{is_covered}
use Rattle.jc_link.specs.Tables.{stands_by}

-- what is outside has no supertypes and no references, and neither has what is nowhere
supers_stay : (o : Option Facts) (a b : Bool) → supertypes_of (stands_by o a) ≡ supertypes_of (stands_by o b)
supers_stay (Some facts) a b = refl
supers_stay None true true = refl
supers_stay None true false = refl
supers_stay None false true = refl
supers_stay None false false = refl

references_stay : (o : Option Facts) (a b : Bool) → references_of (stands_by o a) ≡ references_of (stands_by o b)
references_stay (Some facts) a b = refl
references_stay None true true = refl
references_stay None true false = refl
references_stay None false true = refl
references_stay None false false = refl

pub reach_stays : (found : Name → Option Facts) (old new : List Name) {d n : Name}
    → Reach (λ x. stands_by (found x) (is_covered old x)) d n → Reach (λ x. stands_by (found x) (is_covered new x)) d n
reach_stays found old new itself = itself
reach_stays found old new always = always
reach_stays found old new {d = d} (reference {n = n} named) =
    reference (subst (λ (rs : List Reference). Contains (names_in rs) n) (references_stay (found d) (is_covered old d) (is_covered new d)) named)
reach_stays found old new (upward {mid = mid} {n = n} reached above) =
    upward (reach_stays found old new reached) (subst (λ (ns : List Name). Contains ns n) (supers_stay (found mid) (is_covered old mid) (is_covered new mid)) above)
