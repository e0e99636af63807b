-- Keys in their order, of those that are the same the first.
use Rattle.std.proofs.Common.{◌≡◌, ◌∙◌, ◌⊎◌, inl, inr, ℕ, zero, suc, ◌<◌, Bool, true, false, List, [], ◌∷◌, ◌++◌, length, arith, slice_get, Option, Some, None, refl, sym, ap, subst}
use Rattle.std.proofs.lemmas.Bool.{cond-true, false≢true}
use Rattle.std.proofs.lemmas.Option.{get_or_from_slice_get}
use Rattle.std.specs.Prelude.{◌&&◌, if◌then◌else◌}
use Rattle.std.specs.declared.cmp.Ordering.{Ordering}
use Rattle.std.specs.declared.cmp.Ordering.TheVariants.{Less, Equal, Greater}
use Rattle.std.specs.Cmp.{IsTotalOrder, on_total, then_total}
use Rattle.std.specs.List.{AllByRecursion}
use Rattle.std.specs.List.Sorted.{IsStrictlySortedBy}
use Rattle.std.specs.Option.{option_to_list}
use Rattle.std.specs.Ordering.{nat_cmp, ordering_then}
use Rattle.jc_base.proofs.Membership.{Has, has_from, has-flat_map, has-from_flat_map}
use Rattle.jc_base.proofs.maps.FiniteMaps.{bytes_cmp_total, bytes_cmp-IsAntisymmetric}
use Rattle.jc_classes.specs.Facts.{Facts, Key, Member}
use Rattle.jc_classes.specs.Names.{same_name}
use Rattle.jc_classes.specs.Worlds.{key_of}
use Rattle.jc_classes.specs.MemberOrder.{IsOrder, key_at, key_cmp, place_cmp}
use Rattle.jc_classes.specs.declared.reference.ReferenceKind.{ReferenceKind}
use Rattle.jc_classes.proofs.worlds.NameTests.{same_is, same_self}
use Rattle.jc_report.specs.inside.MemberRows.{is_last, is_open_by, key_if, keys_after, members_by, open_key, open_keys}
use Rattle.jc_report.proofs.rows.RisingLists.{all_by, by_all}

key_cmp_total : IsTotalOrder key_cmp
key_cmp_total = then_total (on_total (λ (k : Key). k.name) bytes_cmp_total) (on_total (λ (k : Key). k.descriptor) bytes_cmp_total)

both_equal : (o p : Ordering) → ordering_then o p ≡ Equal → (o ≡ Equal) × (p ≡ Equal)
both_equal Less p e = absurd cc
both_equal Equal p e = (refl, e)
both_equal Greater p e = absurd cc

same_key : (a b : Key) → a.name ≡ b.name → a.descriptor ≡ b.descriptor → a ≡ b
same_key a b name descriptor = λ i. record { name = name i; descriptor = descriptor i }

tied_keys_same : (a b : Key) → key_cmp a b ≡ Equal → a ≡ b
tied_keys_same a b e =
    let parts = both_equal (_) (_) e in
    same_key a b (bytes_cmp-IsAntisymmetric a.name b.name parts.0) (bytes_cmp-IsAntisymmetric a.descriptor b.descriptor parts.1)

both_true : (a b : Bool) → (a && b) ≡ true → (a ≡ true) × (b ≡ true)
both_true true b e = (refl, e)
both_true false b e = absurd (false≢true e)

last_same : (last key : Key) → is_last (Some last) key ≡ true → last ≡ key
last_same last key e =
    let parts = both_true (same_name last.name key.name) (same_name last.descriptor key.descriptor) e in
    same_key last key (same_is last.name key.name parts.0) (same_is last.descriptor key.descriptor parts.1)

last_itself : (key : Key) → is_last (Some key) key ≡ true
last_itself key = (λ i. same_self key.name i && same_self key.descriptor i)

-- ---- keys that don't fall

abbrev NoneBelow : Key → List Key → Type 0
NoneBelow key keys = (k : Key) → Has keys k → key_cmp key k ≡ Greater → ⊥

abbrev DontFall : List Key → Type 0
DontFall [] = Unit {0}
DontFall (key ∷ keys) = NoneBelow key keys × DontFall keys

abbrev NoneBelowLast : Option Key → List Key → Type 0
NoneBelowLast None keys = Unit {0}
NoneBelowLast (Some last) keys = NoneBelow last keys

abbrev IsBehind : Option Key → Key → Type 0
IsBehind None key = Unit {0}
IsBehind (Some last) key = key_cmp last key ≡ Less

less_of : (last key : Key) → (key_cmp last key ≡ Greater → ⊥) → is_last (Some last) key ≡ false → key_cmp last key ≡ Less
less_of last key above apart = by (key_cmp last key) refl
  where
    by : (o : Ordering) → key_cmp last key ≡ o → key_cmp last key ≡ Less
    by Less e = e
    by Equal e = absurd (false≢true (sym apart ∙ subst (λ (k : Key). is_last (Some last) k ≡ true) (tied_keys_same last key e) (last_itself last)))
    by Greater e = absurd (above e)

none_below_rest : (last : Option Key) (key : Key) (keys : List Key) → NoneBelowLast last (key ∷ keys) → NoneBelowLast last keys
none_below_rest None key keys h = tt
none_below_rest (Some last) key keys h = λ k there. h k (inr there)

behind_last : (last : Option Key) (key : Key) (keys : List Key) → NoneBelowLast last (key ∷ keys) → is_last last key ≡ false → IsBehind last key
behind_last None key keys h apart = tt
behind_last (Some last) key keys h apart = less_of last key (h key (inl refl)) apart

behind_next : (last : Option Key) (key k : Key) → IsBehind last key → key_cmp key k ≡ Less → IsBehind last k
behind_next None key k h less = tt
behind_next (Some last) key k h less = key_cmp_total.trans last key k h less

-- the keys that are left rise, behind the last one
record Rise (last : Option Key) (keys : List Key) : Type 0 where
  rises : IsStrictlySortedBy key_cmp keys
  behind : (k : Key) → Has keys k → IsBehind last k

one_more : (last : Option Key) (key : Key) (keys : List Key) → IsBehind last key → Rise (Some key) keys → Rise last (key ∷ keys)
unfolding IsStrictlySortedBy
one_more last key keys behind rest = record {
  rises = (all_by (λ k. key_cmp key k ≡ Less) keys rest.behind, rest.rises);
  behind = λ k h. elim h [ inl e ↦ subst (IsBehind last) e behind | inr there ↦ behind_next last key k behind (rest.behind k there) ];
}

no_more : (last : Option Key) → Rise last []
unfolding IsStrictlySortedBy
no_more last = record { rises = tt; behind = λ k h. absurd h }

keys_rise : (last : Option Key) (keys : List Key) → NoneBelowLast last keys → DontFall keys → Rise last (keys_after last keys)
keys_rise last [] above climb = no_more last
keys_rise last (key ∷ keys) above climb =
    by (is_last last key) refl (keys_rise last keys (none_below_rest last key keys above) climb.1) (keys_rise (Some key) keys climb.0 climb.1)
  where
    by : (b : Bool) → is_last last key ≡ b → Rise last (keys_after last keys) → Rise (Some key) (keys_after (Some key) keys) → Rise last (if b then keys_after last keys else key ∷ keys_after (Some key) keys)
    by true e passed rest = passed
    by false e passed rest = one_more last key (keys_after (Some key) keys) (behind_last last key keys above e) rest

-- each key that is left is one of them
after_sound : (last : Option Key) (keys : List Key) (k : Key) → Has (keys_after last keys) k → Has keys k
after_sound last [] k h = h
after_sound last (key ∷ keys) k h = by (is_last last key) h (after_sound last keys k) (after_sound (Some key) keys k)
  where
    by : (b : Bool) → Has (if b then keys_after last keys else key ∷ keys_after (Some key) keys) k → (Has (keys_after last keys) k → Has keys k) → (Has (keys_after (Some key) keys) k → Has keys k) → Has (key ∷ keys) k
    by true there passed rest = inr (passed there)
    by false (inl e) passed rest = inl e
    by false (inr there) passed rest = inr (rest there)

abbrev IsOne : Option Key → Key → Type 0
IsOne None key = ⊥
IsOne (Some last) key = last ≡ key

one_last : (last : Option Key) (key : Key) → is_last last key ≡ true → IsOne last key
one_last None key e = absurd (false≢true e)
one_last (Some last) key e = last_same last key e

-- each key is left, or is the last one
after_complete : (last : Option Key) (keys : List Key) (k : Key) → Has keys k → IsOne last k ⊎ Has (keys_after last keys) k
after_complete last [] k h = absurd h
after_complete last (key ∷ keys) k h = by (is_last last key) refl h (after_complete last keys k) (after_complete (Some key) keys k)
  where
    by : (b : Bool) → is_last last key ≡ b → Has (key ∷ keys) k → (Has keys k → IsOne last k ⊎ Has (keys_after last keys) k) → (Has keys k → (key ≡ k) ⊎ Has (keys_after (Some key) keys) k)
        → IsOne last k ⊎ Has (if b then keys_after last keys else key ∷ keys_after (Some key) keys) k
    by true e (inl is) passed rest = inl (subst (IsOne last) is (one_last last key e))
    by true e (inr there) passed rest = passed there
    by false e (inl is) passed rest = inr (inl is)
    by false e (inr there) passed rest = inr (rest there)

all_left : (keys : List Key) (k : Key) → Has keys k → Has (keys_after None keys) k
all_left keys k h = elim (after_complete None keys k h) [ inl none ↦ absurd none | inr there ↦ there ]

-- ---- the keys of open members, by their numbers

module _ (kind : ReferenceKind) (f : Facts) where
  listed : (o : Option Key) (k : Key) → Has (option_to_list o) k → o ≡ Some k
  listed None k h = absurd h
  listed (Some key) k (inl e) = ap Some e
  listed (Some key) k (inr h) = absurd h

  kept_key : (keeps : Member → Bool) (o : Option Member) (k : Key) → key_if keeps o ≡ Some k → (m : Member) × (o ≡ Some m) × (keeps m ≡ true) × (key_of m ≡ k)
  kept_key keeps None k e = absurd cc
  kept_key keeps (Some m) k e = by (keeps m) refl e
    where
      by : (b : Bool) → keeps m ≡ b → (if b then Some (key_of m) else None) ≡ Some k → (n : Member) × (Some m ≡ Some n) × (keeps n ≡ true) × (key_of n ≡ k)
      by true is g = (m, refl, is, cc)
      by false is g = absurd cc

  its_key : (n : ℕ) (k : Key) → open_key kind f n ≡ Some k → key_at (members_by kind f) n ≡ k
  its_key n k e =
      let found = kept_key _ (slice_get (members_by kind f) n) k e in
      ap key_of (get_or_from_slice_get (members_by kind f) n found.0 _ found.1) ∙ found.3

  none_greater : (a b : ℕ) (o : Ordering) → ordering_then o (nat_cmp a b) ≡ Less → o ≡ Greater → ⊥
  none_greater a b Less e g = absurd cc
  none_greater a b Equal e g = absurd cc
  none_greater a b Greater e g = absurd cc

  none_below : (n : ℕ) (numbers : List ℕ) → AllByRecursion (λ b. place_cmp (members_by kind f) n b ≡ Less) numbers → (key : Key) → open_key kind f n ≡ Some key → NoneBelow key (open_keys kind f numbers)
  none_below n numbers above key e = λ k there greater.
      let found = has-from_flat_map (λ n. option_to_list (open_key kind f n)) numbers k there in
      let less = by_all (λ b. place_cmp (members_by kind f) n b ≡ Less) numbers above found.0 found.1 in
      none_greater n found.0 (key_cmp (key_at (members_by kind f) n) (key_at (members_by kind f) found.0)) less
      ((λ i. key_cmp (its_key n key e i) (its_key found.0 k (listed (open_key kind f found.0) k found.2) i)) ∙ greater)

  dont_fall : (numbers : List ℕ) → IsStrictlySortedBy (place_cmp (members_by kind f)) numbers → DontFall (open_keys kind f numbers)
  unfolding IsStrictlySortedBy
  dont_fall [] rises = tt
  dont_fall (n ∷ numbers) rises = by (open_key kind f n) refl (dont_fall numbers rises.1)
    where
      by : (o : Option Key) → open_key kind f n ≡ o → DontFall (open_keys kind f numbers) → DontFall (option_to_list o ++ open_keys kind f numbers)
      by None e rest = rest
      by (Some key) e rest = (none_below n numbers rises.0 key e, rest)

  has_numbered : {X : Type 0} (xs : List X) (n : ℕ) (x : X) → slice_get xs n ≡ Some x → Has xs x
  has_numbered [] n x e = absurd cc
  has_numbered (y ∷ xs) zero x e = inl cc
  has_numbered (y ∷ xs) (suc n) x e = inr (has_numbered xs n x e)

  number_of : {X : Type 0} (xs : List X) (x : X) → Has xs x → (n : ℕ) × (n < length xs) × (slice_get xs n ≡ Some x)
  number_of [] x h = absurd h
  number_of (y ∷ xs) x (inl e) = (0, omega arith, ap Some e)
  number_of (y ∷ xs) x (inr h) = let found = number_of xs x h in (suc found.0, omega (arith, found.1), found.2)

  module _ (order : List ℕ) (is : IsOrder (members_by kind f) order) where
    abbrev keys_left : List Key
    keys_left = keys_after None (open_keys kind f order)

    pub keys_left_rise : IsStrictlySortedBy key_cmp keys_left
    keys_left_rise = (keys_rise None (open_keys kind f order) tt (dont_fall order is.rises)).rises

    -- each is that of an open member
    pub keys_left_sound : (k : Key) → Has keys_left k → (m : Member) × Has (members_by kind f) m × (is_open_by kind m ≡ true) × (key_of m ≡ k)
    keys_left_sound k h =
        let there = has-from_flat_map (λ n. option_to_list (open_key kind f n)) order k (after_sound None (open_keys kind f order) k h) in
        let found = kept_key (is_open_by kind) (slice_get (members_by kind f) there.0) k (listed (open_key kind f there.0) k there.2) in
        (found.0, has_numbered (members_by kind f) there.0 found.0 found.1, found.2, found.3)

    -- and each open member's is there
    pub keys_left_complete : (m : Member) → Has (members_by kind f) m → is_open_by kind m ≡ true → Has keys_left (key_of m)
    keys_left_complete m h is_open =
        let at = number_of (members_by kind f) m h in
        let key : open_key kind f at.0 ≡ Some (key_of m) = ap (key_if (is_open_by kind)) at.2 ∙ cond-true (is_open_by kind m) (Some (key_of m)) None is_open in
        let there : Has (option_to_list (open_key kind f at.0)) (key_of m) = subst (λ o. Has (option_to_list o) (key_of m)) (sym key) (inl refl) in
        all_left (open_keys kind f order) (key_of m)
        (has-flat_map (λ n. option_to_list (open_key kind f n)) order at.0 (key_of m) (has_from order at.0 (is.complete at.0 at.1)) there)
