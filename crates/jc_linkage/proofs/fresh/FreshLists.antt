-- Lists of what is fresh.
use Rattle.std.proofs.Common.{◌≡◌, ℕ, ◌+◌, ◌<◌, arith, true, false, ◌&&◌, ◌||◌, cond, List, [], ◌∷◌, ◌++◌, length, get_or, take, drop, Option, Some, refl, sym, ap, ◌∙◌, IsSome, is_some, subst, ◌⊎◌, inl, inr}
use Rattle.std.proofs.lemmas.List.{get_or-map, length-map, map-append, take_more, take-append-drop}
use Rattle.std.specs.List.{Contains}
use Rattle.std.proofs.lemmas.List.Folds.{list_any-append}
use Rattle.std.specs.Cmp.{eq_by_cmp_equiv}
use Rattle.std.specs.Cmp.Lexicographic.{nat_list_cmp_total}
use Rattle.std.specs.declared.vec.Vec.{Vec}
use Rattle.std.specs.declared.alloc.Global.{Global}
use Rattle.jc_classes.specs.NameLists.{has}
use Rattle.jc_classes.specs.Names.{Name, names_of, same_name}
use Rattle.jc_classes.specs.Worlds.{World}
use Rattle.jc_classes.proofs.worlds.NameTests.{same_self, same_is}
use Rattle.jc_linkage.specs.Affected.{NoRepeat}
use Rattle.jc_linkage.specs.declared.class_entry.NewEntry.{NewEntry}
use Rattle.jc_linkage.specs.declared.class_entry.ClassEntry.{ClassEntry}
use Rattle.jc_linkage.specs.inside.Kept.{AllFresh, IsKeptOf, Relation, fresh_at, fresh_has, fresh_names, names_by}
use Rattle.std.proofs.lemmas.Bool.{false≢true}
use Rattle.jc_linkage.proofs.equations.Booleans.{or_right, or_left, or_no, or_assoc, or_nothing}
use Rattle.jc_linkage.proofs.equations.Options.{some_one}

-- ---- one list behind another

pub fresh_append : (r : Relation) (xs ys : List NewEntry) (d n : Name) → fresh_has r (xs ++ ys) d n ≡ (fresh_has r xs d n || fresh_has r ys d n)
fresh_append r [] ys d n = refl
fresh_append r (x ∷ xs) ys d n = ap (λ b. (same_name d x.name.items && has (names_by r x.kept) n) || b) (fresh_append r xs ys d n) ∙ sym (or_assoc _ (fresh_has r xs d n) (fresh_has r ys d n))

pub fresh_push : (r : Relation) (xs : List NewEntry) (x : NewEntry) (d n : Name) → fresh_has r (xs ++ x ∷ []) d n ≡ (fresh_has r xs d n || (same_name d x.name.items && has (names_by r x.kept) n))
fresh_push r xs x d n = fresh_append r xs (x ∷ []) d n ∙ or_nothing (fresh_has r xs d n) (same_name d x.name.items && has (names_by r x.kept) n)

pub fresh_more : (r : Relation) (xs : List NewEntry) (i : ℕ) (x : NewEntry) (d n : Name) → i < length xs → x ≡ get_or xs i x → fresh_has r (take (i + 1) xs) d n ≡ (fresh_has r (take i xs) d n || (same_name d x.name.items && has (names_by r x.kept) n))
fresh_more r xs i x d n l e =
    ap (λ z. fresh_has r z d n) (take_more xs i x l ∙ ap (λ y. take i xs ++ y ∷ []) (sym e))
    ∙ fresh_push r (take i xs) x d n

pub fresh_take : (r : Relation) (xs : List NewEntry) (i : ℕ) (d n : Name) → fresh_has r (take i xs) d n ≡ true → fresh_has r xs d n ≡ true
fresh_take r xs i d n h = ap (λ z. fresh_has r z d n) (sym (take-append-drop i xs)) ∙ fresh_append r (take i xs) (drop i xs) d n ∙ or_left _ _ h

pub names_more : (xs : List (Vec ℕ Global)) (i : ℕ) (x : Vec ℕ Global) → i < length xs → x ≡ get_or xs i x → names_of (take (i + 1) xs) ≡ names_of (take i xs) ++ x.items ∷ []
names_more xs i x l e =
    ap names_of (take_more xs i x l ∙ ap (λ y. take i xs ++ y ∷ []) (sym e))
    ∙ map-append (λ (v : Vec ℕ Global). v.items) (take i xs) (x ∷ [])

-- the name at a place is one of them
pub name_among : (xs : List (Vec ℕ Global)) (i : ℕ) (x : Vec ℕ Global) → i < length xs → x ≡ get_or xs i x → Contains (names_of xs) x.items
name_among xs i x l e =
    (i, omega (arith, l, length-map xs (λ (v : Vec ℕ Global). v.items)), get_or-map (λ (v : Vec ℕ Global). v.items) xs i x x.items l ∙ ap (λ (v : Vec ℕ Global). v.items) (sym e))

pub fresh_names_push : (xs : List NewEntry) (x : NewEntry) → fresh_names (xs ++ x ∷ []) ≡ fresh_names xs ++ x.name.items ∷ []
fresh_names_push xs x = map-append (λ (y : NewEntry). y.name.items) xs (x ∷ [])

pub names_append : (xs ys : List NewEntry) → fresh_names (xs ++ ys) ≡ fresh_names xs ++ fresh_names ys
names_append xs ys = map-append (λ (x : NewEntry). x.name.items) xs ys

pub all_fresh_push : (m : World) (xs : List NewEntry) (x : NewEntry) → AllFresh m xs → IsKeptOf m x.name.items x.kept → AllFresh m (xs ++ x ∷ [])
all_fresh_push m [] x h k = (k, tt)
all_fresh_push m (y ∷ xs) x h k = (h.0, all_fresh_push m xs x h.1 k)

pub all_fresh_append : (m : World) (xs ys : List NewEntry) → AllFresh m xs → AllFresh m ys → AllFresh m (xs ++ ys)
all_fresh_append m [] ys h k = k
all_fresh_append m (x ∷ xs) ys h k = (h.0, all_fresh_append m xs ys h.1 k)

-- ---- the last of a list

pub has_push : (xs : List NewEntry) (x : NewEntry) (d : Name) → has (fresh_names (xs ++ x ∷ [])) d ≡ (has (fresh_names xs) d || (same_name d x.name.items || false))
has_push xs x d = ap (λ z. has z d) (fresh_names_push xs x) ∙ list_any-append (same_name d) (fresh_names xs) (x.name.items ∷ [])

pub has_last : (xs : List NewEntry) (x : NewEntry) → has (fresh_names (xs ++ x ∷ [])) x.name.items ≡ true
has_last xs x = has_push xs x x.name.items ∙ or_right (has (fresh_names xs) x.name.items) _ (or_left (same_name x.name.items x.name.items) false (same_self x.name.items))

pub has_front : (xs : List NewEntry) (x : NewEntry) (d : Name) → has (fresh_names xs) d ≡ true → has (fresh_names (xs ++ x ∷ [])) d ≡ true
has_front xs x d h = has_push xs x d ∙ or_left _ _ h

front_lacks : (xs : List NewEntry) (x : NewEntry) (d : Name) → has (fresh_names (xs ++ x ∷ [])) d ≡ false → (has (fresh_names xs) d ≡ false) × (same_name d x.name.items ≡ false)
front_lacks xs x d h =
    let p = or_no (has (fresh_names xs) d) (same_name d x.name.items || false) (sym (has_push xs x d) ∙ h) in
    (p.0, (or_no (same_name d x.name.items) false p.1).0)

pub once_front : (xs : List NewEntry) (x : NewEntry) → NoRepeat (fresh_names (xs ++ x ∷ [])) → NoRepeat (fresh_names xs)
once_front [] x h = tt
once_front (y ∷ xs) x h = ((front_lacks xs x y.name.items h.0).0, once_front xs x h.1)

pub once_last : (xs : List NewEntry) (x : NewEntry) → NoRepeat (fresh_names (xs ++ x ∷ [])) → has (fresh_names xs) x.name.items ≡ false
once_last [] x h = refl
once_last (y ∷ xs) x h =
    let e = (eq_by_cmp_equiv nat_list_cmp_total).symm x.name.items y.name.items ∙ (front_lacks xs x y.name.items h.0).1 in
    ap (λ b. b || has (fresh_names xs) x.name.items) e ∙ once_last xs x h.1

-- ---- what is fresh of a class

pub fresh_absent : (r : Relation) (xs : List NewEntry) (d n : Name) → has (fresh_names xs) d ≡ false → fresh_has r xs d n ≡ false
fresh_absent r [] d n h = refl
fresh_absent r (y ∷ xs) d n h =
    let p = or_no (same_name d y.name.items) (has (fresh_names xs) d) h in
    ap (λ b. (b && has (names_by r y.kept) n) || fresh_has r xs d n) p.0 ∙ fresh_absent r xs d n p.1

pub fresh_at_push : (xs : List NewEntry) (x : NewEntry) (d : Name) (o : Option ClassEntry) → fresh_at (xs ++ x ∷ []) d o ≡ fresh_at xs d (cond (same_name d x.name.items) (Some x.kept) o)
fresh_at_push [] x d o = refl
fresh_at_push (y ∷ xs) x d o = ap (cond (same_name d y.name.items) (Some y.kept)) (fresh_at_push xs x d o)

pub fresh_at_append : (xs ys : List NewEntry) (d : Name) (o : Option ClassEntry) → fresh_at (xs ++ ys) d o ≡ fresh_at xs d (fresh_at ys d o)
fresh_at_append [] ys d o = refl
fresh_at_append (x ∷ xs) ys d o = ap (cond (same_name d x.name.items) (Some x.kept)) (fresh_at_append xs ys d o)

pub fresh_at_absent : (xs : List NewEntry) (d : Name) (o : Option ClassEntry) → has (fresh_names xs) d ≡ false → fresh_at xs d o ≡ o
fresh_at_absent [] d o h = refl
fresh_at_absent (x ∷ xs) d o h =
    elim (same_name d x.name.items) as (λ b. (b || has (fresh_names xs) d) ≡ false → cond b (Some x.kept) (fresh_at xs d o) ≡ o) [
      | true ↦ λ h. absurd (false≢true (sym h))
      | false ↦ λ h. fresh_at_absent xs d o h
    ] h

pub fresh_found : (m : World) (xs : List NewEntry) (d : Name) (o : Option ClassEntry) (k : ClassEntry) → AllFresh m xs → fresh_at xs d o ≡ Some k → (IsKeptOf m d k × (has (fresh_names xs) d ≡ true)) ⊎ ((o ≡ Some k) × (has (fresh_names xs) d ≡ false))
fresh_found m [] d o k h e = inr (e, refl)
fresh_found m (x ∷ xs) d o k h e =
    elim (same_name d x.name.items) as (λ b. same_name d x.name.items ≡ b → cond b (Some x.kept) (fresh_at xs d o) ≡ Some k → (IsKeptOf m d k × ((b || has (fresh_names xs) d) ≡ true)) ⊎ ((o ≡ Some k) × ((b || has (fresh_names xs) d) ≡ false))) [
      | true ↦ λ s e. inl (subst (λ j. IsKeptOf m d j) (some_one e) (subst (λ j. IsKeptOf m j x.kept) (sym (same_is d x.name.items s)) h.0), refl)
      | false ↦ λ s e. fresh_found m xs d o k h.1 e
    ] refl e

pub fresh_some : (xs : List NewEntry) (d : Name) (o : Option ClassEntry) → IsSome o → IsSome (fresh_at xs d o)
fresh_some [] d o h = h
fresh_some (x ∷ xs) d o h =
    elim (same_name d x.name.items) as (λ b. is_some (cond b (Some x.kept) (fresh_at xs d o)) ≡ true) [ true ↦ refl | false ↦ fresh_some xs d o h ]

pub fresh_there : (xs : List NewEntry) (d : Name) (o : Option ClassEntry) → has (fresh_names xs) d ≡ true → IsSome (fresh_at xs d o)
fresh_there [] d o h = absurd (false≢true h)
fresh_there (x ∷ xs) d o h =
    elim (same_name d x.name.items) as (λ b. (b || has (fresh_names xs) d) ≡ true → is_some (cond b (Some x.kept) (fresh_at xs d o)) ≡ true) [ true ↦ λ h. refl | false ↦ λ h. fresh_there xs d o h ] h
