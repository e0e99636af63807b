-- The classes that are linked to one of two names.
use Rattle.std.specs.Prelude.{◌≡◌, Bool, true, false, ◌&&◌, ◌||◌, not, cond, List, [], ◌++◌, Option, Some, None, IsSome}
use Rattle.std.specs.Borrow.{Bor}
use Rattle.std.specs.FinMap as map
use Rattle.std.specs.List.{filter}
use Rattle.std.specs.Option.{option_copied}
use Rattle.jc_classes.specs.NameLists.{has}
use Rattle.jc_classes.specs.Names.{Name, same_name}
use Rattle.jc_index.specs.Indexes.{UserLists, users_of}
use Rattle.jc_linkage.specs.declared.class_entry.ClassEntry.{ClassEntry}
use Rattle.jc_linkage.specs.inside.Kept.{KeptMap}

abbrev pub is_name : Option Name → Name → Bool
is_name None n = false
is_name (Some x) n = same_name n x

abbrev pub has_list : Option (Bor (List Name)) → List Name
has_list None = []
has_list (Some names) = names.now

abbrev pub users_at : UserLists → Option Name → List Name
users_at lists None = []
users_at lists (Some n) = users_of lists n

-- the name is not that of the removed class, and is not in `others`
abbrev pub is_wanted : (gone : Option Name) → (others : List Name) → Name → Bool
is_wanted gone others n = not (is_name gone n) && not (has others n)

abbrev pub wanted : (gone : Option (Bor Name)) → (others : Option (Bor (List Name))) → List Name → List Name
wanted gone others names = filter (is_wanted (option_copied gone) (has_list others)) names

-- the wanted names of a list were appended
abbrev pub AddsWanted : (gone : Option (Bor Name)) → (others list : Option (Bor (List Name))) → (old new : List Name) → Type 0
AddsWanted gone others list old new = new ≡ old ++ wanted gone others (has_list list)

abbrev pub is_user_of : UserLists → (first second : Option Name) → Name → Bool
is_user_of lists first second d = has (users_at lists first) d || has (users_at lists second) d

-- the classes that are linked to either name, without the removed class
abbrev pub HasUsers : (names : List Name) → UserLists → (first second gone : Option (Bor Name)) → Type 0
HasUsers names lists first second gone =
    (d : Name) → has names d ≡ (is_user_of lists (option_copied first) (option_copied second) d && not (is_name (option_copied gone) d))

-- the entry of a class; the removed class has none
abbrev pub kept_but : (gone : Option Name) → KeptMap → Name → Option ClassEntry
kept_but gone kept d = cond (is_name gone d) None (map.get kept d)

-- each of the names has an entry, and none is the name of the removed class
abbrev pub AreKeptBut : (gone : Option Name) → KeptMap → List Name → Type 0
AreKeptBut gone kept names = (d : Name) → has names d ≡ true → (is_name gone d ≡ false) × IsSome (map.get kept d)
