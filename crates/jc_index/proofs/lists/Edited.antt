-- Names that rise after one was put in or taken out.
use Rattle.std.proofs.Common.{◌≡◌, ℕ, suc, ◌+◌, ◌<◌, Bool, true, false, not, ◌&&◌, ◌||◌, List, [], ◌∷◌, ◌++◌, length, take, drop, refl, sym, ap, subst, ◌∙◌, arith, add-one, ⊎_elim}
use Rattle.std.proofs.lemmas.Bool.{cases_Bool, false≢true}
use Rattle.std.proofs.lemmas.List.{take-append-drop, drop_more, get_or-take, get_or-drop, length-take-le, length-drop, take-map, drop-map, map-append}
use Rattle.std.proofs.lemmas.List.Elements.{All-from_get_or, recursion_from_All}
use Rattle.std.proofs.lemmas.List.Folds.{list_any-append}
use Rattle.std.specs.declared.cmp.Ordering.TheVariants.{Less}
use Rattle.std.specs.declared.vec.Vec.{Vec}
use Rattle.std.specs.declared.alloc.Global.{Global}
use Rattle.std.specs.List.{insert, remove}
use Rattle.std.specs.List.Sorted.{IsStrictlySortedBy}
use Rattle.jc_classes.specs.NameLists.{has}
use Rattle.jc_classes.specs.Names.{Name, name_cmp, names_of, same_name}
use Rattle.jc_classes.specs.Numbers.{name_at}
use Rattle.jc_classes.proofs.worlds.NameTests.{same_is, same_self}
use Rattle.jc_index.specs.inside.Places.{StandsAt, IsGapFor}
use Rattle.jc_index.proofs.lists.Rising.{AllBelow, AllAbove, turned, below_lack, above_lack, rises_with, rises_without, stands_once}

-- ---- a gap

below_gap : (ns : List Name) (name : Name) (at : ℕ) → IsGapFor ns name at → AllBelow (take at ns) name
below_gap ns name at g =
    let fits = g.fits in
    let long : length (take at ns) ≡ at = length-take-le at ns g.fits in
    recursion_from_All (λ n. name_cmp n name ≡ Less) (take at ns)
    (All-from_get_or (λ n. name_cmp n name ≡ Less) (take at ns) []
    (λ i l. let less : i < at = omega arith in ap (λ n. name_cmp n name) (get_or-take at ns i [] less) ∙ g.below i less))

above_gap : (ns : List Name) (name : Name) (at : ℕ) → IsGapFor ns name at → AllAbove (drop at ns) name
above_gap ns name at g =
    let long : length (drop at ns) ≡ _ = length-drop at ns in
    recursion_from_All (λ n. name_cmp name n ≡ Less) (drop at ns)
    (All-from_get_or (λ n. name_cmp name n ≡ Less) (drop at ns) []
    (λ i l. ap (name_cmp name) (get_or-drop at ns i []) ∙ turned (name_at ns (at + i)) name (g.above (at + i) (omega arith) (omega arith))))

halves : (ns : List Name) (at : ℕ) → IsStrictlySortedBy name_cmp ns → IsStrictlySortedBy name_cmp (take at ns ++ drop at ns)
halves ns at h = subst (IsStrictlySortedBy name_cmp) (sym (take-append-drop at ns)) h

pub rises_inserted : (ns : List Name) (name : Name) (at : ℕ) → IsStrictlySortedBy name_cmp ns → IsGapFor ns name at → IsStrictlySortedBy name_cmp (insert ns at name)
rises_inserted ns name at h g = rises_with (take at ns) (drop at ns) name (halves ns at h) (below_gap ns name at g) (above_gap ns name at g)

or_moved : (a b c : Bool) → (a || (b || c)) ≡ ((a || c) || b)
or_moved true b c = refl
or_moved false true true = refl
or_moved false true false = refl
or_moved false false true = refl
or_moved false false false = refl

has_parts : (ns : List Name) (at : ℕ) (n : Name) → (has (take at ns) n || has (drop at ns) n) ≡ has ns n
has_parts ns at n = sym (list_any-append (same_name n) (take at ns) (drop at ns)) ∙ ap (λ l. has l n) (take-append-drop at ns)

or_first : (a b : Bool) → a ≡ true → (a || b) ≡ true
or_first true b e = refl
or_first false b e = absurd (false≢true e)

-- a name among the first of them is one of them
pub has_front : (ns : List Name) (at : ℕ) (n : Name) → has (take at ns) n ≡ true → has ns n ≡ true
has_front ns at n e = sym (has_parts ns at n) ∙ or_first (has (take at ns) n) (has (drop at ns) n) e

pub has_inserted : (ns : List Name) (name : Name) (at : ℕ) (n : Name) → has (insert ns at name) n ≡ (has ns n || same_name n name)
has_inserted ns name at n =
    list_any-append (same_name n) (take at ns) (name ∷ drop at ns)
    ∙ or_moved (has (take at ns) n) (same_name n name) (has (drop at ns) n)
    ∙ ap (λ b. b || same_name n name) (has_parts ns at n)

-- a name that has a gap does not stand there
pub gap_lacks : (ns : List Name) (name : Name) (at : ℕ) → IsGapFor ns name at → has ns name ≡ false
gap_lacks ns name at g =
    sym (has_parts ns at name)
    ∙ ap (λ b. b || has (drop at ns) name) (below_lack (take at ns) name (below_gap ns name at g))
    ∙ above_lack (drop at ns) name (above_gap ns name at g)

-- ---- a name that stands there

split_at : (ns : List Name) (name : Name) (at : ℕ) → StandsAt ns name at → take at ns ++ name ∷ drop (suc at) ns ≡ ns
split_at ns name at s =
    ap (λ z. take at ns ++ z) (ap (λ z. z ∷ drop (suc at) ns) (sym s.1) ∙ ap (λ k. name_at ns at ∷ drop k ns) (sym (add-one at)) ∙ sym (drop_more ns at [] s.0))
    ∙ take-append-drop at ns

has_split : (ns : List Name) (name : Name) (at : ℕ) (n : Name) → StandsAt ns name at → has ns n ≡ (has (take at ns) n || (same_name n name || has (drop (suc at) ns) n))
has_split ns name at n s = ap (λ l. has l n) (sym (split_at ns name at s)) ∙ list_any-append (same_name n) (take at ns) (name ∷ drop (suc at) ns)

or_true : (a b c : Bool) → b ≡ true → (a || (b || c)) ≡ true
or_true true b c e = refl
or_true false true c e = refl
or_true false false c e = absurd (false≢true e)

pub stands_has : (ns : List Name) (name : Name) (at : ℕ) → StandsAt ns name at → has ns name ≡ true
stands_has ns name at s = has_split ns name at name s ∙ or_true (has (take at ns) name) (same_name name name) (has (drop (suc at) ns) name) (same_self name)

split_rises : (ns : List Name) (name : Name) (at : ℕ) → IsStrictlySortedBy name_cmp ns → StandsAt ns name at → IsStrictlySortedBy name_cmp (take at ns ++ name ∷ drop (suc at) ns)
split_rises ns name at h s = subst (IsStrictlySortedBy name_cmp) (sym (split_at ns name at s)) h

pub rises_removed : (ns : List Name) (name : Name) (at : ℕ) → IsStrictlySortedBy name_cmp ns → StandsAt ns name at → IsStrictlySortedBy name_cmp (remove ns at)
rises_removed ns name at h s = rises_without (take at ns) (drop (suc at) ns) name (split_rises ns name at h s)

taken : (a b c : Bool) → b ≡ true → (a || c) ≡ false → (a || c) ≡ ((a || (b || c)) && not b)
taken true b c e f = absurd (false≢true (sym f))
taken false true c e f = f
taken false false c e f = absurd (false≢true e)

left_there : (a b c : Bool) → b ≡ false → (a || c) ≡ ((a || (b || c)) && not b)
left_there a true c e = absurd (false≢true (sym e))
left_there true false c e = refl
left_there false false true e = refl
left_there false false false e = refl

pub has_removed : (ns : List Name) (name : Name) (at : ℕ) (n : Name) → IsStrictlySortedBy name_cmp ns → StandsAt ns name at → has (remove ns at) n ≡ (has ns n && not (same_name n name))
has_removed ns name at n h s =
    let front = take at ns in
    let back = drop (suc at) ns in
    let joined : has (front ++ back) n ≡ (has front n || has back n) = list_any-append (same_name n) front back in
    let gone : (e : same_name n name ≡ true) → (has front n || has back n) ≡ false =
    λ e. sym joined ∙ ap (has (front ++ back)) (same_is n name e) ∙ stands_once front back name (split_rises ns name at h s) in
    joined
    ∙ ⊎_elim (λ y. taken (has front n) (same_name n name) (has back n) y (gone y)) (λ no. left_there (has front n) (same_name n name) (has back n) no) (cases_Bool (same_name n name))
    ∙ ap (λ b. b && not (same_name n name)) (sym (has_split ns name at n s))

-- to take out what is not there changes nothing
lost : (a b : Bool) → (b ≡ true → a ≡ false) → a ≡ (a && not b)
lost true true f = absurd (false≢true (sym (f refl)))
lost true false f = refl
lost false b f = refl

pub has_without : (ns : List Name) (name n : Name) → has ns name ≡ false → has ns n ≡ (has ns n && not (same_name n name))
has_without ns name n e = lost (has ns n) (same_name n name) (λ y. ap (has ns) (same_is n name y) ∙ e)

-- ---- names that are held

pub names-inserted : (vs : List (Vec ℕ Global)) (at : ℕ) (v : Vec ℕ Global) → names_of (insert vs at v) ≡ insert (names_of vs) at v.items
names-inserted vs at v =
    let items = λ (w : Vec ℕ Global). w.items in
    map-append items (take at vs) (v ∷ drop at vs)
    ∙ ap (λ l. l ++ v.items ∷ names_of (drop at vs)) (sym (take-map items at vs))
    ∙ ap (λ l. take at (names_of vs) ++ v.items ∷ l) (sym (drop-map items at vs))

pub names-removed : (vs : List (Vec ℕ Global)) (at : ℕ) → names_of (remove vs at) ≡ remove (names_of vs) at
names-removed vs at =
    let items = λ (w : Vec ℕ Global). w.items in
    map-append items (take at vs) (drop (suc at) vs)
    ∙ ap (λ l. l ++ names_of (drop (suc at) vs)) (sym (take-map items at vs))
    ∙ ap (λ l. take at (names_of vs) ++ l) (sym (drop-map items (suc at) vs))
