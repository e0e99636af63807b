-- The lists of an index after one of them changed.
use Rattle.std.proofs.Common.{◌≡◌, ◌≢◌, Bool, true, false, cond, not, ◌&&◌, ◌||◌, List, [], ◌∷◌, Option, Some, None, Result, Ok, Err, OnErr, is_some, refl, sym, ap, ◌∙◌, ⊎_elim}
use Rattle.std.specs.FinMap as fin
use Rattle.std.specs.Option.{unwrap_or}
use Rattle.std.proofs.lemmas.Bool.{cases_Bool, false≢true}
use Rattle.jc_base.proofs.maps.FiniteMaps.{bytes_cmp_total, insert_found, keys_rise}
use Rattle.jc_classes.specs.NameLists.{has, Lists}
use Rattle.jc_classes.specs.Names.{Name, name_cmp, same_name}
use Rattle.jc_classes.proofs.worlds.NameTests.{same_is, same_self}
use Rattle.jc_index.specs.Indexes.{HaveUsers, UserLists, users_of, is_key, Linked, Unlinked}
use Rattle.jc_index.specs.inside.IsIndex.{IsIndex}

-- what holds in any case holds at an error
pub on_err_any : {T E P : Type 0} (r : Result T E) → P → OnErr r P
on_err_any (Ok x) p = tt
on_err_any (Err e) p = p

or_cond : (b : Bool) (x y : Option (List Name)) → unwrap_or (cond b x y) [] ≡ cond b (unwrap_or x []) (unwrap_or y [])
or_cond true x y = refl
or_cond false x y = refl

pub users-empty : (n : Name) → users_of (fin.empty {X = List Name} {R = name_cmp}) n ≡ []
users-empty n = ap (λ o. unwrap_or o []) (fin.get-empty name_cmp n)

users-insert : (lists : UserLists) (name : Name) (list : List Name) (n : Name) → users_of (fin.insert lists name list) n ≡ cond (same_name n name) list (users_of lists n)
users-insert lists name list n = ap (λ o. unwrap_or o []) (fin.get-insert bytes_cmp_total lists name list n) ∙ or_cond (same_name n name) (Some list) (fin.get lists n)

users-remove : (lists : UserLists) (name n : Name) → users_of (fin.remove lists name) n ≡ cond (same_name n name) [] (users_of lists n)
users-remove lists name n = ap (λ o. unwrap_or o []) (fin.get-remove bytes_cmp_total lists name n) ∙ or_cond (same_name n name) None (fin.get lists n)

-- the users of a name by what stands there
users_at : (lists : UserLists) (name n : Name) (o : Option (List Name)) → fin.get lists name ≡ o → same_name n name ≡ true → users_of lists n ≡ unwrap_or o []
users_at lists name n o e same = ap (users_of lists) (same_is n name same) ∙ ap (λ x. unwrap_or x []) e

or_none : (a : Bool) → a ≡ (a || false)
or_none true = refl
or_none false = refl

and_all : (a : Bool) → a ≡ (a && true)
and_all true = refl
and_all false = refl

-- a list at the name with one user more
pub linked_by : (lists : UserLists) (name user : Name) (o : Option (List Name)) (list : List Name) → fin.get lists name ≡ o → ((d : Name) → has list d ≡ (has (unwrap_or o []) d || same_name d user)) → Linked lists (fin.insert lists name list) name user
linked_by lists name user o list e more n d =
    ap (λ l. has l d) (users-insert lists name list n) ∙
    ⊎_elim
    (λ y. ap (λ b. has (cond b list (users_of lists n)) d) y ∙ more d ∙ ap (λ l. has l d || same_name d user) (sym (users_at lists name n o e y)) ∙ ap (λ b. has (users_of lists n) d || (b && same_name d user)) (sym y))
    (λ no. ap (λ b. has (cond b list (users_of lists n)) d) no ∙ or_none (has (users_of lists n) d) ∙ ap (λ b. has (users_of lists n) d || (b && same_name d user)) (sym no))
    (cases_Bool (same_name n name))

-- the users of the name are these, one less
unlinked_at : (lists new : UserLists) (name user : Name) (o : Option (List Name)) (list : List Name) → ((n : Name) → users_of new n ≡ cond (same_name n name) list (users_of lists n)) → fin.get lists name ≡ o → ((d : Name) → has list d ≡ (has (unwrap_or o []) d && not (same_name d user))) → Unlinked lists new name user
unlinked_at lists new name user o list at e less n d =
    ap (λ l. has l d) (at n) ∙
    ⊎_elim
    (λ y. ap (λ b. has (cond b list (users_of lists n)) d) y ∙ less d ∙ ap (λ l. has l d && not (same_name d user)) (sym (users_at lists name n o e y)) ∙ ap (λ b. has (users_of lists n) d && not (b && same_name d user)) (sym y))
    (λ no. ap (λ b. has (cond b list (users_of lists n)) d) no ∙ and_all (has (users_of lists n) d) ∙ ap (λ b. has (users_of lists n) d && not (b && same_name d user)) (sym no))
    (cases_Bool (same_name n name))

-- a list at the name with one user less
pub unlinked_by : (lists : UserLists) (name user : Name) (o : Option (List Name)) (list : List Name) → fin.get lists name ≡ o → ((d : Name) → has list d ≡ (has (unwrap_or o []) d && not (same_name d user))) → Unlinked lists (fin.insert lists name list) name user
unlinked_by lists name user o list = unlinked_at lists (fin.insert lists name list) name user o list (users-insert lists name list)

twice : (b : Bool) (x y : List Name) → cond b [] (cond b x y) ≡ cond b [] y
twice true x y = refl
twice false x y = refl

-- the list is without users, and goes
pub unlinked_empty : (lists : UserLists) (name user : Name) (o : Option (List Name)) (list : List Name) → list ≡ [] → fin.get lists name ≡ o → ((d : Name) → has list d ≡ (has (unwrap_or o []) d && not (same_name d user))) → Unlinked lists (fin.remove (fin.insert lists name list) name) name user
unlinked_empty lists name user o list none e less =
    unlinked_at lists (fin.remove (fin.insert lists name list) name) name user o [] at e (λ d. ap (λ l. has l d) (sym none) ∙ less d)
  where
    at : (n : Name) → users_of (fin.remove (fin.insert lists name list) name) n ≡ cond (same_name n name) [] (users_of lists n)
    at n = users-remove (fin.insert lists name list) name n ∙ ap (cond (same_name n name) []) (users-insert lists name list n) ∙ twice (same_name n name) list (users_of lists n)

-- a name without users has none to lose
pub unlinked_none : (lists : UserLists) (name user : Name) → fin.get lists name ≡ None → Unlinked lists lists name user
unlinked_none lists name user e n d = ⊎_elim
    (λ y. let none : users_of lists n ≡ [] = users_at lists name n None e y in ap (λ l. has l d) none ∙ ap (λ l. has l d && not (same_name n name && same_name d user)) (sym none))
    (λ no. and_all (has (users_of lists n) d) ∙ ap (λ b. has (users_of lists n) d && not (b && same_name d user)) (sym no))
    (cases_Bool (same_name n name))

-- ---- no name without a user

pub is_index-empty : IsIndex (fin.empty {X = List Name} {R = name_cmp})
is_index-empty n e = let none : fin.get (fin.empty {X = List Name} {R = name_cmp}) n ≡ None = fin.get-empty name_cmp n in absurd cc

filled : (b : Bool) (list : List Name) (o : Option (List Name)) → list ≢ [] → o ≢ Some [] → cond b (Some list) o ≢ Some []
filled true list o full rest e = let same : list ≡ [] = cc in full same
filled false list o full rest e = rest e

dropped : (b : Bool) (o : Option (List Name)) → o ≢ Some [] → cond b None o ≢ Some []
dropped true o rest e = absurd cc
dropped false o rest e = rest e

pub is_index-insert : (lists : UserLists) (name : Name) (list : List Name) → IsIndex lists → list ≢ [] → IsIndex (fin.insert lists name list)
is_index-insert lists name list h full n e = filled (same_name n name) list (fin.get lists n) full (h n) (sym (fin.get-insert bytes_cmp_total lists name list n) ∙ e)

cond_twice : (b : Bool) (x y : Option (List Name)) → cond b None (cond b x y) ≡ cond b None y
cond_twice true x y = refl
cond_twice false x y = refl

pub is_index-remove : (lists : UserLists) (name : Name) (list : List Name) → IsIndex lists → IsIndex (fin.remove (fin.insert lists name list) name)
is_index-remove lists name list h n e = dropped (same_name n name) (fin.get lists n) (h n) (sym at ∙ e)
  where
    at : fin.get (fin.remove (fin.insert lists name list) name) n ≡ cond (same_name n name) None (fin.get lists n)
    at = fin.get-remove bytes_cmp_total (fin.insert lists name list) name n ∙ ap (cond (same_name n name) None) (fin.get-insert bytes_cmp_total lists name list n) ∙ cond_twice (same_name n name) (Some list) (fin.get lists n)

-- a list with a name is not empty
pub not_empty : (list : List Name) (user : Name) → has list user ≡ true → list ≢ []
not_empty list user h e = false≢true (ap (λ l. has l user) (sym e) ∙ h)

or_last : (a b : Bool) → b ≡ true → (a || b) ≡ true
or_last true b e = refl
or_last false b e = e

-- a user that was added is there
pub has_added : (old new : List Name) (user : Name) → ((d : Name) → has new d ≡ (has old d || same_name d user)) → has new user ≡ true
has_added old new user more = more user ∙ or_last (has old user) (same_name user user) (same_self user)

-- of one user
pub has_one : (user d : Name) → has (user ∷ []) d ≡ same_name d user
has_one user d = or_none (same_name d user)
  where
    or_none : (b : Bool) → (b || false) ≡ b
    or_none true = refl
    or_none false = refl

-- a list that is put back changes nothing
pub put_back : (lists : UserLists) (name : Name) (list : List Name) → fin.get lists name ≡ Some list → fin.insert lists name list ≡ lists
put_back = insert_found

-- ---- the names that have users

pub keys_list : (lists : UserLists) → Lists (fin.keys lists) (λ name. is_key lists name ≡ true)
keys_list lists = record { rises = keys_rise lists; sound = λ n h. fin.contains_key-keys lists n ∙ h; complete = λ n h. sym (fin.contains_key-keys lists n) ∙ h }

some_user : (o : Option (List Name)) → o ≢ Some [] → is_some o ≡ true → (user : Name) × (has (unwrap_or o []) user ≡ true)
some_user None full e = absurd (false≢true e)
some_user (Some []) full e = absurd (full refl)
some_user (Some (user ∷ list)) full e = (user, ap (λ b. b || has list user) (same_self user))

pub key_used : (lists : UserLists) → IsIndex lists → HaveUsers lists
key_used lists h name e = some_user (fin.get lists name) (h name) e
