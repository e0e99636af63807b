-- The classes that a change of the outside prefixes affects.
use Rattle.std.specs.Prelude.{◌≡◌, Bool, true, ◌&&◌, not, List, ◌⊎◌}
use Rattle.std.specs.FinMap as fin
use Rattle.jc_classes.specs.Loading.{same_bool}
use Rattle.jc_classes.specs.NameLists.{has}
use Rattle.jc_classes.specs.Names.{Name, object, same_name}
use Rattle.jc_base.specs.Bytes.{bytes_cmp}
use Rattle.jc_index.specs.Indexes.{UserLists, users_of}
use Rattle.jc_link.specs.Prefixes.{is_covered}
use Rattle.jc_linkage.specs.inside.Kept.{KeptMap}

-- the name has no entry, is not java/lang/Object, and is outside by exactly one of the two lists
abbrev pub switches_by : KeptMap → (old new : List Name) → Name → Bool
switches_by kept old new n =
    not (same_bool (is_covered old n) (is_covered new n)) && (not (fin.contains_key kept n) && not (same_name n object))

abbrev pub Names : Type 0
Names = fin.FinMap bytes_cmp (Unit {0})

-- the class is linked to a name that passes the test
abbrev pub IsUser : (Name → Bool) → UserLists → Name → Type 0
IsUser test lists d = (n : Name) × (test n ≡ true) × (has (users_of lists n) d ≡ true)

abbrev pub HasOnlyUsers : (Name → Bool) → UserLists → (names : List Name) → Type 0
HasOnlyUsers test lists names = (d : Name) → has names d ≡ true → IsUser test lists d

abbrev pub HasEachUser : (Name → Bool) → UserLists → (names : List Name) → Type 0
HasEachUser test lists names = (d : Name) → IsUser test lists d → has names d ≡ true

-- the names found are users; all users of a name that passes the test are found, unless the name is in `left`
pub record AreUsers (test : Name → Bool) (lists : UserLists) (left : List Name) (found : Names) : Type 0 where
  pub sound : (d : Name) → fin.contains_key found d ≡ true → IsUser test lists d
  pub complete : (n d : Name) → test n ≡ true → has (users_of lists n) d ≡ true
      → (has left n ≡ true) ⊎ (fin.contains_key found d ≡ true)
