-- Names that rise: what stands before and behind one of them, and that the same names make the same list.
use Rattle.std.proofs.Common.{◌≡◌, Bool, true, false, ◌||◌, List, [], ◌∷◌, ◌++◌, refl, sym, ap, subst, ◌∙◌, ⊎_elim}
use Rattle.std.proofs.lemmas.Bool.{cases_Bool, false≢true}
use Rattle.std.specs.declared.cmp.Ordering.TheVariants.{Less, Equal, Greater}
use Rattle.std.specs.Ordering.{is_eq, ordering_reverse}
use Rattle.std.specs.List.{AllByRecursion}
use Rattle.std.specs.List.Sorted.{IsStrictlySortedBy}
use Rattle.jc_base.proofs.maps.FiniteMaps.{bytes_cmp_total}
use Rattle.jc_classes.specs.NameLists.{has}
use Rattle.jc_classes.specs.Names.{Name, name_cmp, same_name}
use Rattle.jc_classes.proofs.worlds.NameTests.{same_is, same_self}

-- each of these names is less, and each is greater
abbrev pub AllBelow : List Name → Name → Type 0
AllBelow ns name = AllByRecursion (λ n. name_cmp n name ≡ Less) ns

abbrev pub AllAbove : List Name → Name → Type 0
AllAbove ns name = AllByRecursion (λ n. name_cmp name n ≡ Less) ns

pub turned : (a b : Name) → name_cmp a b ≡ Greater → name_cmp b a ≡ Less
turned a b e = bytes_cmp_total.antisymm b a ∙ ap ordering_reverse e

-- a name that is less or greater is another one
apart : (a b : Name) → name_cmp a b ≡ Less → same_name a b ≡ false
apart a b e = ap is_eq e

apart_back : (a b : Name) → name_cmp b a ≡ Less → same_name a b ≡ false
apart_back a b e = ap is_eq (bytes_cmp_total.antisymm a b ∙ ap ordering_reverse e)

pub below_lack : (ns : List Name) (name : Name) → AllBelow ns name → has ns name ≡ false
below_lack [] name h = refl
below_lack (n ∷ ns) name h = ap (λ b. b || has ns name) (apart_back name n h.0) ∙ below_lack ns name h.1

pub above_lack : (ns : List Name) (name : Name) → AllAbove ns name → has ns name ≡ false
above_lack [] name h = refl
above_lack (n ∷ ns) name h = ap (λ b. b || has ns name) (apart name n h.0) ∙ above_lack ns name h.1

all_above : (a b : Name) (ns : List Name) → name_cmp a b ≡ Less → AllAbove ns b → AllAbove ns a
all_above a b [] l h = tt
all_above a b (n ∷ ns) l h = (bytes_cmp_total.trans a b n l h.0, all_above a b ns l h.1)

all_joined : (a : Name) (xs ys : List Name) → AllAbove xs a → AllAbove ys a → AllAbove (xs ++ ys) a
all_joined a [] ys h k = k
all_joined a (x ∷ xs) ys h k = (h.0, all_joined a xs ys h.1 k)

all_left : (a : Name) (xs ys : List Name) → AllAbove (xs ++ ys) a → AllAbove xs a
all_left a [] ys h = tt
all_left a (x ∷ xs) ys h = (h.0, all_left a xs ys h.1)

all_right : (a : Name) (xs ys : List Name) → AllAbove (xs ++ ys) a → AllAbove ys a
all_right a [] ys h = h
all_right a (x ∷ xs) ys h = all_right a xs ys h.1

-- a name put between those that are less and those that are greater
pub rises_with : (xs ys : List Name) (name : Name) → IsStrictlySortedBy name_cmp (xs ++ ys) → AllBelow xs name → AllAbove ys name → IsStrictlySortedBy name_cmp (xs ++ name ∷ ys)
unfolding IsStrictlySortedBy
rises_with [] ys name h less more = (more, h)
rises_with (x ∷ xs) ys name h less more =
    (all_joined x xs (name ∷ ys) (all_left x xs ys h.0) (less.0, all_above x name ys less.0 more), rises_with xs ys name h.1 less.1 more)

-- a name taken out
pub rises_without : (xs ys : List Name) (name : Name) → IsStrictlySortedBy name_cmp (xs ++ name ∷ ys) → IsStrictlySortedBy name_cmp (xs ++ ys)
unfolding IsStrictlySortedBy
rises_without [] ys name h = h.1
rises_without (x ∷ xs) ys name h =
    let behind : AllAbove (name ∷ ys) x = all_right x xs (name ∷ ys) h.0 in
    (all_joined x xs ys (all_left x xs (name ∷ ys) h.0) behind.1, rises_without xs ys name h.1)

-- a name stands once
pub stands_once : (xs ys : List Name) (name : Name) → IsStrictlySortedBy name_cmp (xs ++ name ∷ ys) → has (xs ++ ys) name ≡ false
unfolding IsStrictlySortedBy
stands_once [] ys name h = above_lack ys name h.0
stands_once (x ∷ xs) ys name h =
    let behind : AllAbove (name ∷ ys) x = all_right x xs (name ∷ ys) h.0 in
    ap (λ b. b || has (xs ++ ys) name) (apart_back name x behind.0) ∙ stands_once xs ys name h.1

-- ---- the same names

cancelled : (b c d : Bool) → b ≡ false → (b || c) ≡ (b || d) → c ≡ d
cancelled true c d f e = absurd (false≢true (sym f))
cancelled false c d f e = e

or_same : (b c : Bool) → b ≡ true → (b || c) ≡ true
or_same true c e = refl
or_same false c e = absurd (false≢true e)

first_has : (x : Name) (xs : List Name) → has (x ∷ xs) x ≡ true
first_has x xs = or_same (same_name x x) (has xs x) (same_self x)

-- a name before all of them is none of them
lacks_less : (x y : Name) (ys : List Name) → name_cmp x y ≡ Less → AllAbove ys y → has (y ∷ ys) x ≡ false
lacks_less x y ys l h = above_lack (y ∷ ys) x (l, all_above x y ys l h)

rest_same : (x : Name) (xs ys : List Name) → AllAbove xs x → AllAbove ys x → ((n : Name) → has (x ∷ xs) n ≡ has (x ∷ ys) n) → (n : Name) → has xs n ≡ has ys n
rest_same x xs ys h k e n = ⊎_elim
    (λ y. ap (has xs) (same_is n x y) ∙ above_lack xs x h ∙ sym (above_lack ys x k) ∙ ap (has ys) (sym (same_is n x y)))
    (λ no. cancelled (same_name n x) (has xs n) (has ys n) no (e n))
    (cases_Bool (same_name n x))

pub same_rising : (xs ys : List Name) → IsStrictlySortedBy name_cmp xs → IsStrictlySortedBy name_cmp ys → ((n : Name) → has xs n ≡ has ys n) → xs ≡ ys
unfolding IsStrictlySortedBy
same_rising [] [] h k e = refl
same_rising [] (y ∷ ys) h k e = absurd (false≢true (e y ∙ first_has y ys))
same_rising (x ∷ xs) [] h k e = absurd (false≢true (sym (e x) ∙ first_has x xs))
same_rising (x ∷ xs) (y ∷ ys) h k e =
    elim (name_cmp x y) as (λ o. name_cmp x y ≡ o → x ∷ xs ≡ y ∷ ys) [
      | Less ↦ λ o. absurd (false≢true (sym (lacks_less x y ys o k.0) ∙ sym (e x) ∙ first_has x xs))
      | Equal ↦ λ o.
          let one : x ≡ y = same_is x y (ap is_eq o) in
          let below : AllAbove ys x = subst (AllAbove ys) (sym one) k.0 in
          let alike : (n : Name) → has (x ∷ xs) n ≡ has (x ∷ ys) n = λ n. e n ∙ ap (λ z. has (z ∷ ys) n) (sym one) in
          λ i. one i ∷ same_rising xs ys h.1 k.1 (rest_same x xs ys h.0 below alike) i
      | Greater ↦ λ o. absurd (false≢true (sym (lacks_less y x xs (turned x y o) h.0) ∙ e y ∙ first_has y ys))
    ] refl

pub rises_none : IsStrictlySortedBy name_cmp []
unfolding IsStrictlySortedBy
rises_none = tt

pub rises_one : (name : Name) → IsStrictlySortedBy name_cmp (name ∷ [])
unfolding IsStrictlySortedBy
rises_one name = (tt, tt)
