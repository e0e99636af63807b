-- Members in the order in which they are searched, and the order of references and of uses.
use Rattle.std.specs.Prelude.{◌≡◌, ℕ, ◌<◌, ◌≤◌, false, cond, List, length}
use Rattle.std.specs.Prelude.{map, slice_get, slice_index, Option, Some, None, option_and_then}
use Rattle.std.specs.declared.cmp.Ordering.TheVariants.{Less}
use Rattle.std.specs.Ordering.{is_lt}
use Rattle.jc_classes.specs.Facts.{Key, Member}
use Rattle.jc_classes.specs.FactsOrder.{AreByIndex, AreByPlace}
use Rattle.jc_classes.specs.Names.{Name, same_name}
use Rattle.jc_classes.specs.MemberOrder.{IsOrder, key_at, key_cmp}
use Rattle.jc_classes.specs.declared.facts.FactsInside.{FactsInside}
use Rattle.jc_classes.specs.inside.FactsShown.{member_shown, reference_shown}

pub record AreOrdered (a : FactsInside) : Type 0 where
  pub fields : IsOrder (map (member_shown a.texts.value) a.fields.items) a.field_order.items
  pub methods : IsOrder (map (member_shown a.texts.value) a.methods.items) a.method_order.items
  pub references : AreByIndex (map (reference_shown a.texts.value) a.references.value.items)
  pub uses : AreByPlace a.uses.items

-- the key of the member at a place in the order
abbrev pub key_there : List Member → List ℕ → ℕ → Key
key_there members order place = key_at members (slice_index order place)

-- the members before `low` are less than the key, and those from `high` on are not
pub record IsNarrowed (members : List Member) (order : List ℕ) (key : Key) (low high : ℕ) : Type 0 where
  pub ordered : low ≤ high
  pub fits : high ≤ length order
  pub below : (place : ℕ) → place < low → key_cmp (key_there members order place) key ≡ Less
  pub above : (place : ℕ) → high ≤ place → place < length order → is_lt (key_cmp (key_there members order place) key) ≡ false

-- `place` is the number of members that are less than a key
abbrev pub IsPlace : List Member → List ℕ → Key → ℕ → Type 0
IsPlace members order key place = IsNarrowed members order key place place

-- the member at a place in the order
abbrev pub member_there : List Member → List ℕ → ℕ → Option Member
member_there members order place = option_and_then (slice_get members) (slice_get order place)

abbrev pub if_named : Name → Member → Option Member
if_named name x = cond (same_name x.name name) (Some x) None

-- the member at a place in the order, if it has this name
abbrev pub named_there : List Member → List ℕ → ℕ → Name → Option Member
named_there members order place name = option_and_then (if_named name) (member_there members order place)
