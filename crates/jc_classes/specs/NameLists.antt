-- Lists of names that represent sets of names.
use Rattle.std.specs.Prelude.{◌≡◌, Bool, true, List, length}
use Rattle.std.specs.List.{list_any}
use Rattle.std.specs.List.Sorted.{IsStrictlySortedBy}
use Rattle.jc_classes.specs.Names.{Name, name_cmp, same_name}

-- whether a list of names has this one
abbrev pub has : List Name → Name → Bool
has names n = list_any (same_name n) names

-- the names in ascending order; both lists have each name once
pub record IsRisingOf (rising names : List Name) : Type 0 where
  pub rises : IsStrictlySortedBy name_cmp rising
  pub same : (n : Name) → has rising n ≡ has names n
  pub count : length rising ≡ length names

-- the names that have the property P, in ascending order, each once
pub record Lists (names : List Name) (P : Name → Type 0) : Type 0 where
  pub rises : IsStrictlySortedBy name_cmp names
  pub sound : (n : Name) → has names n ≡ true → P n
  pub complete : (n : Name) → P n → has names n ≡ true
