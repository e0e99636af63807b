-- What stands at a name, after a change of the table or of the prefixes.
use Rattle.std.proofs.Common.{◌≡◌, Bool, true, false, cond, Option, Some, None, refl, ap, ◌∙◌}
use Rattle.std.specs.FinMap as map
use Rattle.jc_base.proofs.maps.FiniteMaps.{bytes_cmp_total}
use Rattle.jc_classes.specs.Facts.{Facts}
use Rattle.jc_classes.specs.Names.{same_name}
use Rattle.jc_link.specs.Prefixes.{is_covered}
use Rattle.jc_link.specs.TableLaws.{PlacesChange, PrefixesDiffer, WorldsDiffer}
use Rattle.jc_link.specs.Tables.{placed, or_built_in, class_found, stands_by}

placed_cond : (b : Bool) (x y : Option (Option Facts)) → placed (cond b x y) ≡ cond b (placed x) (placed y)
placed_cond true x y = refl
placed_cond false x y = refl

pub places_change : PlacesChange
places_change = λ places name place n. (
  ap placed (map.get-insert bytes_cmp_total places name place n) ∙ placed_cond (same_name n name) (Some place) (map.get places n),
  ap placed (map.get-remove bytes_cmp_total places name n) ∙ placed_cond (same_name n name) None (map.get places n),
)

pub worlds_differ : WorldsDiffer
worlds_differ = λ touched old new prefixes same n e. ap (λ o. stands_by (or_built_in o n) (is_covered prefixes n)) (same n e)

by_record : (o : Option Facts) (a b : Bool) → (o ≡ None → a ≡ b) → stands_by o a ≡ stands_by o b
by_record (Some facts) a b h = refl
by_record None a b h = ap (stands_by None) (h refl)

pub prefixes_differ : PrefixesDiffer
prefixes_differ = λ touched places old new same n e. by_record (class_found places n) (is_covered old n) (is_covered new n) (same n e)
