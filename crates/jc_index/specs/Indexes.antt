-- The lists of an index.
use Rattle.std.specs.Prelude.{◌≡◌, Bool, true, not, ◌&&◌, ◌||◌, List, [], is_some, unwrap_or}
use Rattle.std.specs.FinMap as map
use Rattle.jc_classes.specs.NameLists.{has}
use Rattle.jc_classes.specs.Names.{Name, name_cmp, same_name}

-- for each name that has users, the list of its users
abbrev pub UserLists : Type 0
UserLists = map.FinMap name_cmp (List Name)

-- the users of a name; there are none if the index does not have the name
abbrev pub users_of : UserLists → Name → List Name
users_of lists name = unwrap_or (map.get lists name) []

abbrev pub is_key : UserLists → Name → Bool
is_key lists name = is_some (map.get lists name)

-- each name of the index has a user
abbrev pub HaveUsers : UserLists → Type 0
HaveUsers lists = (name : Name) → is_key lists name ≡ true → (user : Name) × (has (users_of lists name) user ≡ true)

-- the user is added to the list of the name, and nothing else changes
abbrev pub Linked : (old new : UserLists) (name user : Name) → Type 0
Linked old new name user = (n d : Name) → has (users_of new n) d ≡ (has (users_of old n) d || (same_name n name && same_name d user))

-- the user is removed from the list of the name, and nothing else changes
abbrev pub Unlinked : (old new : UserLists) (name user : Name) → Type 0
Unlinked old new name user =
    (n d : Name) → has (users_of new n) d ≡ (has (users_of old n) d && not (same_name n name && same_name d user))

-- `new` holds if `old` does, and only if `old` or `added` does
abbrev pub Between : (old added new : Bool) → Type 0
Between old added new = (old ≡ true → new ≡ true) × (new ≡ true → (old || added) ≡ true)

-- ---- one user in the lists of several names

-- the user is added to the lists of the names that pass the test, and nothing else changes
abbrev pub LinkedAt : (old new : UserLists) → (names : Name → Bool) → (user : Name) → Type 0
LinkedAt old new names user = (n d : Name) → has (users_of new n) d ≡ (has (users_of old n) d || (same_name d user && names n))

-- the user is added to the lists of some of the names that pass the test, and nothing else changes
abbrev pub LinkedAtSome : (old new : UserLists) → (names : Name → Bool) → (user : Name) → Type 0
LinkedAtSome old new names user = (n d : Name) → Between (has (users_of old n) d) (same_name d user && names n) (has (users_of new n) d)

-- the user is removed from the lists of the names that pass the test, and nothing else changes
abbrev pub UnlinkedAt : (old new : UserLists) → (names : Name → Bool) → (user : Name) → Type 0
UnlinkedAt old new names user =
    (n d : Name) → has (users_of new n) d ≡ (has (users_of old n) d && not (same_name d user && names n))

-- the name is one of these names, and not one of the others
abbrev pub has_but : (these others : List Name) → Name → Bool
has_but these others n = has these n && not (has others n)
