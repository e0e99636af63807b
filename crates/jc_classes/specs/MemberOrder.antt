-- The order in which the fields or the methods of a class are searched, by their numbers in the file.
use Rattle.std.specs.Prelude.{ℕ, ◌<◌, List, [], length, slice_index_or}
use Rattle.std.specs.List.{Contains}
use Rattle.std.specs.List.Sorted.{IsStrictlySortedBy}
use Rattle.std.specs.declared.cmp.Ordering.{Ordering}
use Rattle.std.specs.Ordering.{nat_cmp, ordering_then}
use Rattle.jc_classes.specs.Facts.{Key, Member}
use Rattle.jc_classes.specs.Names.{name_cmp}
use Rattle.jc_classes.specs.Worlds.{key_of}

abbrev pub key_cmp : Key → Key → Ordering
key_cmp a b = ordering_then (name_cmp a.name b.name) (name_cmp a.descriptor b.descriptor)

-- the name and the descriptor of the member with this number
abbrev pub key_at : List Member → ℕ → Key
key_at members number = key_of (slice_index_or members number (record { name = []; descriptor = []; flags = 0 }))

-- by name, then by descriptor; ties keep file order
abbrev pub place_cmp : List Member → ℕ → ℕ → Ordering
place_cmp members a b = ordering_then (key_cmp (key_at members a) (key_at members b)) (nat_cmp a b)

-- the numbers of all members, each once, in that order
pub record IsOrder (members : List Member) (order : List ℕ) : Type 0 where
  pub rises : IsStrictlySortedBy (place_cmp members) order
  pub sound : (number : ℕ) → Contains order number → number < length members
  pub complete : (number : ℕ) → number < length members → Contains order number
