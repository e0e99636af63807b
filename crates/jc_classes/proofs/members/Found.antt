-- The member that a binary search leads to is the first in the file.
use Rattle.std.proofs.Common.{◌≡◌, ◌⊎◌, inl, inr, ℕ, zero, suc, ◌<◌, ◌≤◌, Bool, true, false, ◌&&◌, cond, List, [], ◌∷◌, length, Option, Some, None, slice_index, slice_index_or, refl, sym, ap, subst, ◌∙◌, arith, ⊎_elim}
use Rattle.std.specs.Prelude.{option_and_then, slice_get}
use Rattle.std.proofs.lemmas.Bool.{cases_Bool, cases_lt, cond-false, cond-true, false≢true}
use Rattle.std.proofs.lemmas.Cmp.{alike_right, ranked, tied_itself}
use Rattle.std.proofs.lemmas.Grind.{get_or_default_zero}
use Rattle.std.proofs.lemmas.Map.Keys.{Less-from_sorted}
use Rattle.std.specs.declared.cmp.Ordering.{Ordering}
use Rattle.std.specs.declared.cmp.Ordering.TheVariants.{Less, Equal, Greater}
use Rattle.std.specs.Ordering.{is_eq, is_gt, is_lt, nat_cmp, ordering_then}
use Rattle.jc_classes.specs.Facts.{Key, Member}
use Rattle.jc_classes.specs.MemberOrder.{IsOrder, key_at, key_cmp, place_cmp}
use Rattle.jc_classes.specs.Worlds.{is_at, key_of, member}
use Rattle.jc_classes.specs.inside.Ordered.{IsPlace, key_there, member_there}
use Rattle.jc_classes.proofs.members.Searching.{key_cmp_total, key_no_greater, number_within}

abbrev pub if_at : Key → Member → Option Member
if_at k x = cond (is_at k x) (Some x) None

-- the member of a number that is there
abbrev pub at : List Member → ℕ → Member
at members number = slice_index_or members number (record { name = []; descriptor = []; flags = 0 })

-- ---- a test of a key is one of the order

both_tied : (o p : Ordering) → (is_eq o && is_eq p) ≡ is_eq (ordering_then o p)
both_tied Less p = refl
both_tied Equal p = refl
both_tied Greater p = refl

pub at_key : (k : Key) (x : Member) → is_at k x ≡ is_eq (key_cmp (key_of x) k)
at_key k x = both_tied _ _

pub eq_of : (o : Ordering) → is_eq o ≡ true → o ≡ Equal
eq_of Equal e = refl
eq_of Less e = absurd (false≢true e)
eq_of Greater e = absurd (false≢true e)

-- neither less nor tied
pub greater_of : (o : Ordering) → is_lt o ≡ false → is_eq o ≡ false → is_gt o ≡ true
greater_of Less e f = absurd (false≢true (sym e))
greater_of Equal e f = absurd (false≢true (sym f))
greater_of Greater e f = refl

-- ---- the first in the file

pub none_at : (members : List Member) (k : Key) → ((number : ℕ) → number < length members → is_at k (at members number) ≡ false) → member members k ≡ None
none_at [] k h = refl
none_at (x ∷ members) k h = cond-false (is_at k x) (Some x) (member members k) (h 0 (omega arith)) ∙ none_at members k (λ number l. h (suc number) (omega (arith, l)))

pub first_at : (members : List Member) (k : Key) (number : ℕ) → number < length members → is_at k (at members number) ≡ true
    → ((other : ℕ) → other < number → is_at k (at members other) ≡ false) → member members k ≡ Some (at members number)
first_at [] k number l e h = absurd (omega (arith, l))
first_at (x ∷ members) k zero l e h = cond-true (is_at k x) (Some x) (member members k) e
first_at (x ∷ members) k (suc number) l e h =
    cond-false (is_at k x) (Some x) (member members k) (h 0 (omega arith))
    ∙ first_at members k number (omega (arith, l)) e (λ other m. h (suc other) (omega (arith, m)))

-- ---- places

get_at : {X : Type 0} (xs : List X) (i : ℕ) (d : X) → i < length xs → slice_get xs i ≡ Some (slice_index_or xs i d)
get_at [] i d l = absurd (omega (arith, l))
get_at (x ∷ xs) zero d l = refl
get_at (x ∷ xs) (suc i) d l = get_at xs i d (omega (arith, l))

get_past : {X : Type 0} (xs : List X) (i : ℕ) → length xs ≤ i → slice_get xs i ≡ None
get_past [] i l = refl
get_past (x ∷ xs) zero l = absurd (omega (arith, l))
get_past (x ∷ xs) (suc i) l = get_past xs i (omega (arith, l))

pub there_at : (members : List Member) (order : List ℕ) → IsOrder members order → (place : ℕ) → place < length order → member_there members order place ≡ Some (at members (slice_index order place))
there_at members order h place l =
    ap (option_and_then (slice_get members)) (get_at order place 0 l)
    ∙ get_at members (slice_index order place) _ (number_within members order h place l)

pub there_past : (members : List Member) (order : List ℕ) (place : ℕ) → length order ≤ place → member_there members order place ≡ None
there_past members order place l = ap (option_and_then (slice_get members)) (get_past order place l)

second_less : (o p : Ordering) → o ≡ Equal → ordering_then o p ≡ Less → p ≡ Less
second_less o p e h = sym (ap (λ z. ordering_then z p) e) ∙ h

number_less : (a b : ℕ) → nat_cmp a b ≡ Less → a < b
number_less a b e = ranked a b Less (sym e)

module _ (members : List Member) (order : List ℕ) (h : IsOrder members order) where
  pub place_of : (number : ℕ) → number < length members → (place : ℕ) × (place < length order) × (slice_index order place ≡ number)
  place_of number l = let c = h.complete number l in (c.0, c.1, sym (get_or_default_zero order c.0 number c.1) ∙ c.2)

  -- of two places with one key the first is of the lesser number
  pub tied_rise : (i j : ℕ) → i < j → j < length order → key_cmp (key_there members order i) (key_there members order j) ≡ Equal → slice_index order i < slice_index order j
  tied_rise i j l m e = number_less _ _ (second_less _ _ e (Less-from_sorted (place_cmp members) order i j 0 h.rises l m))

  pub places_apart : (i j : ℕ) → i < j → j < length order → slice_index order i ≡ slice_index order j → ⊥
  places_apart i j l m e =
      let tied : key_cmp (key_there members order i) (key_there members order j) ≡ Equal =
      ap (λ n. key_cmp (key_there members order i) (key_at members n)) (sym e) ∙ tied_itself key_cmp_total (key_there members order i) in
      let less = tied_rise i j l m tied in
      omega (arith, less, e)

  module _ (k : Key) (place : ℕ) (p : IsPlace members order k place) where
    -- none of a place before it has the key
    before_none : (i : ℕ) → i < place → is_at k (at members (slice_index order i)) ≡ false
    before_none i l = at_key k (at members (slice_index order i)) ∙ ap is_eq (p.below i l)

    -- nor has one behind it, where the one at the place has not
    behind_none : (i : ℕ) → place < i → i < length order → is_at k (at members (slice_index order place)) ≡ false → is_at k (at members (slice_index order i)) ≡ false
    behind_none i l m none = ⊎_elim
        (λ t.
        let tied : key_cmp (key_there members order i) k ≡ Equal = eq_of _ (sym (at_key k (at members (slice_index order i))) ∙ t) in
        let here : key_cmp (key_there members order place) (key_there members order i) ≡ key_cmp (key_there members order place) k = alike_right key_cmp_total (key_there members order i) k (key_there members order place) tied in
        let greater = greater_of _ (p.above place (omega arith) (omega arith)) (sym (at_key k (at members (slice_index order place))) ∙ none) in
        absurd (false≢true (sym (key_no_greater members order h place i l m) ∙ ap is_gt here ∙ greater)))
        (λ f. f)
        (cases_Bool (is_at k (at members (slice_index order i))))

    others : (i : ℕ) → i < length order → (i ≡ place → is_at k (at members (slice_index order i)) ≡ false) → (place < length order → is_at k (at members (slice_index order place)) ≡ false) → is_at k (at members (slice_index order i)) ≡ false
    others i m same here = ⊎_elim
        (λ less. before_none i less)
        (λ more. ⊎_elim
        (λ further. behind_none i further m (here (omega arith)))
        (λ no_further. same (omega arith))
        (cases_lt place i))
        (cases_lt i place)

    pub found : member members k ≡ option_and_then (if_at k) (member_there members order place)
    found = by (cases_lt place (length order))
      where
        number : ℕ
        number = slice_index order place

        none : ((i : ℕ) → i < length order → is_at k (at members (slice_index order i)) ≡ false) → member members k ≡ None
        none g = none_at members k (λ other l.
            let c = place_of other l in subst (λ n. is_at k (at members n) ≡ false) c.2 (g c.0 c.1))

        there : place < length order → (b : Bool) → is_at k (at members number) ≡ b → member members k ≡ cond b (Some (at members number)) None
        there l true e = first_at members k number (number_within members order h place l) e (λ other less.
            let c = place_of other (omega (arith, less, number_within members order h place l)) in
            subst (λ n. is_at k (at members n) ≡ false) c.2 (first c.0 c.1 (omega (arith, c.2, less))))
          where
            first : (i : ℕ) → i < length order → slice_index order i < number → is_at k (at members (slice_index order i)) ≡ false
            first i m less = ⊎_elim
                (λ before. before_none i before)
                (λ behind. ⊎_elim
                (λ further. ⊎_elim
                (λ t.
                let mine : key_cmp (key_there members order place) k ≡ Equal = eq_of _ (sym (at_key k (at members number)) ∙ e) in
                let other : key_cmp (key_there members order i) k ≡ Equal = eq_of _ (sym (at_key k (at members (slice_index order i))) ∙ t) in
                let tied : key_cmp (key_there members order place) (key_there members order i) ≡ Equal = alike_right key_cmp_total (key_there members order i) k (key_there members order place) other ∙ mine in
                let rises = tied_rise place i further m tied in
                absurd (omega (arith, rises, less)))
                (λ f. f)
                (cases_Bool (is_at k (at members (slice_index order i)))))
                (λ no_further. let one : i ≡ place = omega arith in let same = ap (slice_index order) one in absurd (omega (arith, same, less)))
                (cases_lt place i))
                (cases_lt i place)
        there l false e = none (λ i m. others i m (λ same. ap (λ n. is_at k (at members (slice_index order n))) same ∙ e) (λ q. e))

        by : (place < length order) ⊎ (length order ≤ place) → member members k ≡ option_and_then (if_at k) (member_there members order place)
        by (inl l) = there l (is_at k (at members number)) refl ∙ ap (option_and_then (if_at k)) (sym (there_at members order h place l))
        by (inr l) = none (λ i m. before_none i (omega (arith, l, m))) ∙ ap (option_and_then (if_at k)) (sym (there_past members order place l))
