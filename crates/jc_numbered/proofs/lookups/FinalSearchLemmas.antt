-- The state of a search for FINAL methods: its chain, and the methods of slots.
use Rattle.std.proofs.Common.{◌≡◌, ℕ, zero, suc, ◌<◌, ◌≤◌, ◌+◌, ◌-◌, ◌||◌, Bool, true, false, cond, List, [], ◌∷◌, ◌++◌, length, take, is_some, Option, Some, None, refl, sym, ap, subst, ◌∙◌, ◌⊎◌, inl, inr, ⊎_elim, arith}
use Rattle.std.specs.Prelude.{slice_get, slice_index_or, option_and_then}
use Rattle.std.specs.FinMap as map
use Rattle.std.specs.List.{Contains}
use Rattle.std.specs.List.Sorted.{IsNonDecreasingBy}
use Rattle.std.specs.Option.{option_map_or}
use Rattle.std.specs.declared.alloc.Global.{Global}
use Rattle.std.specs.declared.vec.Vec.{Vec}
use Rattle.std.proofs.lemmas.Bool.{and_parts, cases_Bool, cases_lt, cond-false, false≢true}
use Rattle.std.proofs.lemmas.List.{length-append, length-take-le, take_all}
use Rattle.std.proofs.lemmas.List.Elements.{Contains-append_left, Contains-push, Contains-push_cases}
use Rattle.std.proofs.lemmas.List.Sorted.{IsNonDecreasingBy-push, IsNonDecreasingBy-take}
use Rattle.jc_base.specs.Bytes.{bytes_cmp, same_bytes}
use Rattle.jc_base.proofs.maps.FiniteMaps.{get-insert, get-insert_same, same_bytes_decides}
use Rattle.jc_file.specs.AccessFlags.{final, has, private, protected, public, static}
use Rattle.jc_classes.specs.Facts.{Key, Member}
use Rattle.jc_classes.specs.MemberOrder.{key_at}
use Rattle.jc_classes.specs.MethodLookup.{only_inheritable}
use Rattle.jc_classes.specs.Lent.{stands_of}
use Rattle.jc_classes.specs.Worlds.{is_at, key_of, member, methods_of}
use Rattle.jc_classes.specs.declared.standing.Standing.{Standing}
use Rattle.jc_classes.specs.declared.standing.Standing.TheVariants.{Absent, Class, Outside}
use Rattle.jc_classes.proofs.worlds.NameTests.{same_is}
use Rattle.jc_numbered.specs.declared.overriding.Entry.{Entry}
use Rattle.jc_numbered.specs.declared.overriding.FinalSearch.{FinalSearch}
use Rattle.jc_numbered.specs.inside.Chain.{ExtendsNode, ExtendsNode as node}
use Rattle.jc_numbered.specs.inside.FinalSearches.{AreSlots, Drops, HasEntry, HasMethod, AddsFinals, AreFinals, IsFinalName, IsChain, IsPath, IsPut, IsSearch, IsValid, OtherKeysStay, OthersStay, Names, Slots, entries_at, entries_in, last_of}
use Rattle.jc_numbered.specs.inside.Indexed.{Indexed, IsGraph, good_at, standing_of, superclass_at}
use Rattle.jc_numbered.specs.inside.Overriding.{Fits, TellsNearest, overridable_at, package_at, slot_of}
use Rattle.jc_numbered.specs.inside.Slots.{Slot, open_slot, package_slot, slot_name}
use Rattle.jc_numbered.proofs.lookups.Chain.{super_good, super_node}
use Rattle.jc_numbered.proofs.lookups.OverridingLemmas.{IsAbove, IsTop, TellsTop}
use Rattle.jc_numbered.proofs.lookups.SlotLemmas.{other_key, slot_same}

some_is : {X : Type 0} {a b : X} → Some a ≡ Some b → a ≡ b
some_is e = cc

no_some : {X A : Type 0} {a : X} → None ≡ Some a → A
no_some e = absurd cc

-- ---- places of lists

module _ {X : Type 0} where
  pub get_take : (n : ℕ) (xs : List X) (p : ℕ) {v : X} → slice_get (take n xs) p ≡ Some v → slice_get xs p ≡ Some v
  get_take zero xs p e = no_some e
  get_take (suc n) [] p e = no_some e
  get_take (suc n) (x ∷ xs) zero e = e
  get_take (suc n) (x ∷ xs) (suc p) e = get_take n xs p e

  pub get_left : (xs ys : List X) (p : ℕ) {v : X} → slice_get xs p ≡ Some v → slice_get (xs ++ ys) p ≡ Some v
  get_left [] ys p e = no_some e
  get_left (x ∷ xs) ys zero e = e
  get_left (x ∷ xs) ys (suc p) e = get_left xs ys p e

  pub get_end : (xs : List X) (y : X) → slice_get (xs ++ y ∷ []) (length xs) ≡ Some y
  get_end [] y = refl
  get_end (x ∷ xs) y = get_end xs y

  pub get_push : (xs : List X) (y : X) (p : ℕ) {v : X} → slice_get (xs ++ y ∷ []) p ≡ Some v → (slice_get xs p ≡ Some v) ⊎ ((p ≡ length xs) × (v ≡ y))
  get_push [] y zero e = inr (refl, some_is (sym e))
  get_push [] y (suc p) e = no_some e
  get_push (x ∷ xs) y zero e = inl e
  get_push (x ∷ xs) y (suc p) e = ⊎_elim inl (λ q. inr (ap suc q.0, q.1)) (get_push xs y p e)

  pub get_within : (xs : List X) (p : ℕ) {v : X} → slice_get xs p ≡ Some v → p < length xs
  get_within [] p e = no_some e
  get_within (x ∷ xs) zero e = omega arith
  get_within (x ∷ xs) (suc p) e = let l = get_within xs p e in omega arith

  pub get_some : (xs : List X) (p : ℕ) → p < length xs → (v : X) × (slice_get xs p ≡ Some v)
  get_some [] p l = absurd (omega arith)
  get_some (x ∷ xs) zero l = (x, refl)
  get_some (x ∷ xs) (suc p) l = get_some xs p (omega arith)

  at_place : (xs : List X) (p : ℕ) {v : X} → slice_get xs p ≡ Some v → slice_index_or xs p v ≡ v
  at_place [] p e = no_some e
  at_place (x ∷ xs) zero e = some_is e
  at_place (x ∷ xs) (suc p) e = at_place xs p e

  pub contains_get : (xs : List X) (p : ℕ) {v : X} → slice_get xs p ≡ Some v → Contains xs v
  contains_get xs p e = (p, get_within xs p e, at_place xs p e)

  pub get_contains : (xs : List X) {v : X} → Contains xs v → (p : ℕ) × (slice_get xs p ≡ Some v)
  get_contains xs {v} h = (h.0, at xs h.0 h.1 h.2)
    where
      at : (xs : List X) (p : ℕ) → p < length xs → slice_index_or xs p v ≡ v → slice_get xs p ≡ Some v
      at [] p l e = absurd (omega arith)
      at (x ∷ xs) zero l e = ap Some e
      at (x ∷ xs) (suc p) l e = at xs p (omega arith) e

  pub no_last : (xs : List X) → last_of xs ≡ None → xs ≡ []
  no_last [] e = refl
  no_last (x ∷ xs) e = let q = get_some (x ∷ xs) (length xs) (omega arith) in no_some (sym (ap (slice_get (x ∷ xs)) (omega arith) ∙ e) ∙ q.1)

  pub last_push : (xs : List X) (y : X) → last_of (xs ++ y ∷ []) ≡ Some y
  last_push xs y = ap (slice_get (xs ++ y ∷ [])) (let l = length-append xs (y ∷ []) in omega arith) ∙ get_end xs y

  -- each element of a list is at or before the last place
  pub before_last : (n : X → ℕ) (xs : List X) → IsNonDecreasingBy n xs → {l e : X} → last_of xs ≡ Some l → Contains xs e → n e ≤ n l
  before_last n xs rises {l} {e} last h =
      let w = get_within xs (length xs - 1) last in
      let k = h.1 in
      subst (λ z. z ≤ n l) (ap n h.2)
      (subst (λ z. n (slice_index_or xs h.0 e) ≤ n z) (at_place xs (length xs - 1) last)
      (subst (λ z. n (slice_index_or xs h.0 e) ≤ n z) (same_default xs (length xs - 1) w e l) (rises h.0 (length xs - 1) e (omega arith) (omega arith))))
    where
      same_default : (xs : List X) (p : ℕ) → p < length xs → (d e : X) → slice_index_or xs p d ≡ slice_index_or xs p e
      same_default [] p l d e = absurd (omega arith)
      same_default (x ∷ xs) zero l d e = refl
      same_default (x ∷ xs) (suc p) l d e = same_default xs p (omega arith) d e

-- ---- chains

module _ (count : ℕ) (x : Indexed) (chain : List ℕ) (is : IsChain count x chain) where
  -- the node before another
  before : (p w : ℕ) → slice_get chain (p + 1) ≡ Some w → (v : ℕ) × (slice_get chain p ≡ Some v) × (superclass_at x w ≡ Some v)
  before p w e =
      let l = get_within chain (p + 1) e in
      let q = get_some chain p (omega arith) in
      (q.0, q.1, is.next p q.0 w q.1 e)

  -- what a node of the chain extends is in the chain, at or before its place
  place_of : (q : ℕ) {u v : ℕ} → slice_get chain q ≡ Some u → ExtendsNode x u v → (p : ℕ) × (p ≤ q) × (slice_get chain p ≡ Some v)
  place_of q e node.itself = (q, omega arith, e)
  place_of zero {u} e (node.through h r) = no_some (sym (is.first u e) ∙ h)
  place_of (suc q) {u} {v} e (node.through {s = s} h r) =
      let b = before q u (ap (slice_get chain) (omega arith) ∙ e) in
      let w = place_of q (b.1 ∙ ap Some (some_is (sym b.2 ∙ h))) r in
      (w.0, (let l = w.1 in omega arith), w.2)

  -- a node of the chain extends those before it
  extends_before : (d p : ℕ) {v w : ℕ} → slice_get chain p ≡ Some v → slice_get chain (p + d) ≡ Some w → ExtendsNode x w v
  extends_before zero p {v} {w} e f = subst (λ z. ExtendsNode x w z) (some_is (sym f ∙ ap (slice_get chain) (omega arith) ∙ e)) node.itself
  extends_before (suc d) p {v} {w} e f =
      let b = before (p + d) w (ap (slice_get chain) (omega arith) ∙ f) in
      node.through b.2 (extends_before d p e b.1)

  module _ (c : ℕ) (ends : last_of chain ≡ superclass_at x c) where
    -- a superclass of c is in the chain
    on_chain : {v : ℕ} → IsAbove x c v → (p : ℕ) × (slice_get chain p ≡ Some v)
    on_chain q = let w = place_of (length chain - 1) (ends ∙ q.1) q.2 in (w.0, w.2)

    -- what is in the chain is a superclass of c
    above_of : (p : ℕ) {v : ℕ} → slice_get chain p ≡ Some v → IsAbove x c v
    above_of p {v} e =
        let l = get_within chain p e in
        let last = get_some chain (length chain - 1) (omega arith) in
        (last.0, sym ends ∙ last.1, extends_before (length chain - 1 - p) p e (ap (slice_get chain) (omega arith) ∙ last.1))

-- a chain with its end cut off
pub cut_chain : (count : ℕ) (x : Indexed) (chain : List ℕ) (n : ℕ) → IsChain count x chain → IsChain count x (take n chain)
cut_chain count x chain n is = record {
  nodes = λ p v e. is.nodes p v (get_take n chain p e);
  good = λ p v e. is.good p v (get_take n chain p e);
  first = λ v e. is.first v (get_take n chain 0 e);
  next = λ p v w e f. is.next p v w (get_take n chain p e) (get_take n chain (p + 1) f);
}

pub push_chain : (count : ℕ) (x : Indexed) (chain : List ℕ) (v : ℕ) → IsChain count x chain → v < count → good_at x v ≡ true
    → last_of chain ≡ superclass_at x v → IsChain count x (chain ++ v ∷ [])
push_chain count x chain v is l g ends = record {
  nodes = λ p w e. ⊎_elim (λ h. is.nodes p w h) (λ q. subst (λ z. z < count) (sym q.1) l) (get_push chain v p e);
  good = λ p w e. ⊎_elim (λ h. is.good p w h) (λ q. ap (good_at x) q.1 ∙ g) (get_push chain v p e);
  first = λ w e. ⊎_elim (λ h. is.first w h)
      (λ q. ap (superclass_at x) q.1 ∙ sym ends ∙ ap last_of (empty chain (sym q.0)))
      (get_push chain v 0 e);
  next = λ p a b e f. ⊎_elim
      (λ h. is.next p a b (⊎_elim (λ z. z) (λ q. let w = get_within chain (p + 1) h in let k = q.0 in absurd (omega arith)) (get_push chain v p e)) h)
      (λ q. ap (superclass_at x) q.1 ∙ sym ends ∙ ap (slice_get chain) (let k = q.0 in omega arith)
      ∙ ⊎_elim (λ z. z) (λ r. let k = q.0 in let j = r.0 in absurd (omega arith)) (get_push chain v p e))
      (get_push chain v (p + 1) f);
}
  where
    empty : (xs : List ℕ) → length xs ≡ 0 → xs ≡ []
    empty [] e = refl
    empty (x ∷ xs) e = absurd (omega arith)

pub no_chain : (count : ℕ) (x : Indexed) → IsChain count x []
no_chain count x = record { nodes = λ p v e. no_some e; good = λ p v e. no_some e; first = λ v e. no_some e; next = λ p v w e f. no_some e }

-- ---- one slot

-- what is left after a drop was there before
dropped_from : (chain : List ℕ) (old new : List Entry) → Drops chain old new → {e : Entry} → Contains new e → Contains old e
dropped_from chain old new d {e} h =
    let q = get_contains new h in
    contains_get old q.0 (get_take d.count old q.0 (sym (ap (λ l. slice_get l q.0) d.is) ∙ q.1))

dropped_rises : (chain : List ℕ) (old new : List Entry) → Drops chain old new → IsNonDecreasingBy (λ (e : Entry). e.place) old
    → IsNonDecreasingBy (λ (e : Entry). e.place) new
dropped_rises chain old new d h = subst (IsNonDecreasingBy (λ (e : Entry). e.place)) (sym d.is) (IsNonDecreasingBy-take (λ (e : Entry). e.place) d.count old h)

-- methods at the end were removed, none of them of the chain
pub record IsLeft (chain : List ℕ) (old new : List Entry) : Type 0 where
  pub count : ℕ
  pub is : new ≡ take count old
  pub kept : (e : Entry) → Contains old e → IsValid chain e → Contains new e

take_fewer : {X : Type 0} (n k : ℕ) (xs : List X) → k ≤ length (take n xs) → take k (take n xs) ≡ take k xs
take_fewer n zero xs l = refl
take_fewer zero (suc k) xs l = absurd (omega arith)
take_fewer (suc n) (suc k) [] l = refl
take_fewer (suc n) (suc k) (x ∷ xs) l = ap (λ z. x ∷ z) (take_fewer n k xs (omega arith))

get_taken : {X : Type 0} (n : ℕ) (xs : List X) (p : ℕ) {v : X} → p < n → slice_get xs p ≡ Some v → slice_get (take n xs) p ≡ Some v
get_taken zero xs p l e = absurd (omega arith)
get_taken (suc n) [] p l e = no_some e
get_taken (suc n) (x ∷ xs) zero l e = e
get_taken (suc n) (x ∷ xs) (suc p) l e = get_taken n xs p (omega arith) e

pub all_left : (chain : List ℕ) (old : List Entry) → IsLeft chain old old
all_left chain old = record { count = length old; is = sym (take_all (length old) old (omega arith)); kept = λ e h v. h }

pub one_left : (chain : List ℕ) (old now next : List Entry) (last : Entry) → IsLeft chain old now → last_of now ≡ Some last → (IsValid chain last → ⊥)
    → next ≡ take (length now - 1) now → IsLeft chain old next
one_left chain old now next last left is invalid cut = record {
  count = length now - 1;
  is = cut ∙ ap (take (length now - 1)) left.is ∙ take_fewer left.count (length now - 1) old (let l = ap length left.is in omega arith);
  kept = λ e h v. subst (λ l. Contains l e) (sym cut) (by e v (get_contains now (left.kept e h v)));
}
  where
    by : (e : Entry) → IsValid chain e → (p : ℕ) × (slice_get now p ≡ Some e) → Contains (take (length now - 1) now) e
    by e v q =
        let w = get_within now q.0 q.1 in
        ⊎_elim
        (λ l. contains_get (take (length now - 1) now) q.0 (get_taken (length now - 1) now q.0 l q.1))
        (λ l. absurd (invalid (subst (IsValid chain) (some_is (sym q.1 ∙ ap (slice_get now) (omega arith) ∙ is)) v)))
        (cases_lt q.0 (length now - 1))

pub is_dropped : (chain : List ℕ) (old new : List Entry) → IsLeft chain old new → ((e : Entry) → last_of new ≡ Some e → IsValid chain e) → Drops chain old new
is_dropped chain old new left ends = record { count = left.count; is = left.is; kept = left.kept; ends = ends }

-- a slot is that of these bytes, or another
of_bytes : (name other : List ℕ) → (other ≡ name) ⊎ (other ≡ name → ⊥)
of_bytes name other = ⊎_elim
    (λ y. inl ((same_bytes_decides other name).0 y))
    (λ n. inr (λ e. false≢true (sym n ∙ (same_bytes_decides other name).1 e)))
    (cases_Bool (same_bytes other name))

module _ (x : Indexed) (finals : Names) (chain : List ℕ) (slots : Slots) (is : AreSlots x finals chain slots) where
  -- the method of a class in the chain is of the chain
  has_valid : (s : Slot) {p v : ℕ} → slice_get chain p ≡ Some v → (h : HasEntry slots s v p) → IsValid chain h.0
  has_valid s e h = ap (slice_get chain) h.3 ∙ e ∙ ap Some (sym h.2)

  -- what a slot tells of the nearest superclass in it
  pub top_of : (count : ℕ) → IsChain count x chain → (c : ℕ) → last_of chain ≡ superclass_at x c → (s : Slot) → IsFinalName finals s.key
      → (left : List Entry) → Drops chain (entries_at slots s) left → TellsTop x c s (option_and_then (λ (e : Entry). e.nearest) (last_of left))
  top_of count chained c ends s among left d = by (last_of left) refl
    where
      held : {v : ℕ} → IsAbove x c v → Fits x s v → (e : Entry) × Contains left e × (slice_get chain e.place ≡ Some v)
      held {v} u fits =
          let p = on_chain count x chain chained c ends u in
          let h = is.complete p.0 v p.1 s among fits in
          (h.0, d.kept h.0 h.1 (has_valid s p.1 h), ap (slice_get chain) h.3 ∙ p.1)

      by : (o : Option Entry) → last_of left ≡ o → TellsTop x c s (option_and_then (λ (e : Entry). e.nearest) o)
      by None e = inl (λ v u fits. none (subst (λ l. Contains l (held u fits).0) (no_last left e) (held u fits).1), refl)
        where
          none : {z : Entry} → Contains [] z → ⊥
          none h = let l = h.1 in absurd (omega arith)
      by (Some e) h =
          let there = dropped_from chain (entries_at slots s) left d (contains_get left (length left - 1) h) in
          let sound = is.sound s e there in
          let valid = d.ends e h in
          inr (
            e.node,
            record {
              above = above_of count x chain chained c ends e.place valid;
              fits = sound.0;
              nearest = λ v u fits.
                  let w = held u fits in
                  let l = before_last (λ (z : Entry). z.place) left (dropped_rises chain _ left d (is.rises s)) h w.1 in
                  extends_before count x chain chained (e.place - w.0.place) w.0.place w.2 (ap (slice_get chain) (omega arith) ∙ valid);
            },
            sound.1,
          )

  -- after a drop in one slot
  pub after_drop : (name : List ℕ) (new : Slots) → OthersStay name slots new → Drops chain (entries_in slots name) (entries_in new name) → AreSlots x finals chain new
  after_drop name new others d = record {
    sound = λ s e h. is.sound s e (before s h);
    rises = λ s. ⊎_elim
        (λ q. subst (λ z. IsNonDecreasingBy (λ (e : Entry). e.place) (entries_in new z)) (sym q)
        (dropped_rises chain _ _ d (subst (λ z. IsNonDecreasingBy (λ (e : Entry). e.place) (entries_in slots z)) q (is.rises s))))
        (λ n. subst (IsNonDecreasingBy (λ (e : Entry). e.place)) (sym (others (slot_name s) n)) (is.rises s))
        (of_bytes name (slot_name s));
    complete = λ p v e s among fits. let h = is.complete p v e s among fits in (h.0, after s (has_valid s e h) h.1, h.2, h.3);
  }
    where
      before : (s : Slot) {e : Entry} → Contains (entries_at new s) e → Contains (entries_at slots s) e
      before s {e} h = ⊎_elim
          (λ q. subst (λ z. Contains (entries_in slots z) e) (sym q) (dropped_from chain _ _ d (subst (λ z. Contains (entries_in new z) e) q h)))
          (λ n. subst (λ l. Contains l e) (others (slot_name s) n) h)
          (of_bytes name (slot_name s))

      after : (s : Slot) {e : Entry} → IsValid chain e → Contains (entries_at slots s) e → Contains (entries_at new s) e
      after s {e} valid h = ⊎_elim
          (λ q. subst (λ z. Contains (entries_in new z) e) (sym q) (d.kept e (subst (λ z. Contains (entries_in slots z) e) q h) valid))
          (λ n. subst (λ l. Contains l e) (sym (others (slot_name s) n)) h)
          (of_bytes name (slot_name s))

  -- after a method of a class that comes next was put into its slot
  module _ (t : Slot) (new : Slots) (entry : Entry) (is_put : IsPut chain (slot_name t) entry slots new) (place : entry.place ≡ length chain)
      (fits : Fits x t entry.node) (tells : TellsNearest x t.key entry.node entry.nearest) where
    others : OthersStay (slot_name t) slots new
    others = is_put.others

    abbrev kept : List Entry
    kept = is_put.kept

    d : Drops chain (entries_at slots t) kept
    d = is_put.drops

    put : entries_at new t ≡ kept ++ entry ∷ []
    put = is_put.is

    cases : (s : Slot) → (s ≡ t) ⊎ (slot_name s ≡ slot_name t → ⊥)
    cases s = ⊎_elim (λ q. inl (slot_same s t q)) inr (of_bytes (slot_name t) (slot_name s))

    pub after_put : AreSlots x finals chain new
    after_put = record {
      sound = λ s e h. ⊎_elim
          (λ q. subst (λ z. Fits x z e.node × TellsNearest x z.key e.node e.nearest) (sym q)
          (⊎_elim
          (λ r. is.sound t e (dropped_from chain _ kept d r))
          (λ r. subst (λ (z : Entry). Fits x t z.node × TellsNearest x t.key z.node z.nearest) r (fits, tells))
          (Contains-push_cases kept entry e (subst (λ l. Contains l e) put (subst (λ z. Contains (entries_at new z) e) q h)))))
          (λ n. is.sound s e (subst (λ l. Contains l e) (others (slot_name s) n) h))
          (cases s);
      rises = λ s. ⊎_elim
          (λ q. subst (λ z. IsNonDecreasingBy (λ (e : Entry). e.place) (entries_at new z)) (sym q)
          (subst (IsNonDecreasingBy (λ (e : Entry). e.place)) (sym put)
          (IsNonDecreasingBy-push (λ (e : Entry). e.place) kept entry (dropped_rises chain _ kept d (is.rises t)) last)))
          (λ n. subst (IsNonDecreasingBy (λ (e : Entry). e.place)) (sym (others (slot_name s) n)) (is.rises s))
          (cases s);
      complete = λ p v e s among f. let h = is.complete p v e s among f in (h.0, after s (has_valid s e h) h.1, h.2, h.3);
    }
      where
        after : (s : Slot) {e : Entry} → IsValid chain e → Contains (entries_at slots s) e → Contains (entries_at new s) e
        after s {e} valid h = ⊎_elim
            (λ q. subst (λ z. Contains (entries_at new z) e) (sym q) (subst (λ l. Contains l e) (sym put)
            (Contains-append_left kept (entry ∷ []) e (d.kept e (subst (λ z. Contains (entries_at slots z) e) q h) valid))))
            (λ n. subst (λ l. Contains l e) (sym (others (slot_name s) n)) h)
            (cases s)

        last : (e : Entry) → 0 < length kept → (slice_index_or kept (length kept - 1) e).place ≤ entry.place
        last e l =
            let q = get_some kept (length kept - 1) (omega arith) in
            let w = get_within chain q.0.place (d.ends q.0 q.1) in
            subst (λ (z : Entry). z.place ≤ entry.place) (sym (at kept (length kept - 1) q.1)) (omega arith)
          where
            at : (xs : List Entry) (p : ℕ) {v : Entry} → slice_get xs p ≡ Some v → slice_index_or xs p e ≡ v
            at [] p h = no_some h
            at (x ∷ xs) zero h = some_is h
            at (x ∷ xs) (suc p) h = at xs p h

-- the method itself is in the slot
pub put_entry : (chain : List ℕ) (t : Slot) (old new : Slots) (entry : Entry) → IsPut chain (slot_name t) entry old new → entry.place ≡ length chain
    → HasEntry new t entry.node (length chain)
put_entry chain t old new entry is_put place =
    (entry, subst (λ l. Contains l entry) (sym is_put.is) (Contains-push is_put.kept entry), refl, place)

-- ---- a class is appended to the chain

pub push_slots : (x : Indexed) (finals : Names) (chain : List ℕ) (slots : Slots) (v : ℕ) → AreSlots x finals chain slots
    → ((k : Key) → HasMethod x finals slots v (length chain) k) → AreSlots x finals (chain ++ v ∷ []) slots
push_slots x finals chain slots v is has = record {
  sound = is.sound;
  rises = is.rises;
  complete = λ p w e s among f. ⊎_elim
      (λ h. is.complete p w h s among f)
      (λ q. subst (λ z. HasEntry slots s w z) (sym q.0) (subst (λ z. HasEntry slots s z (length chain)) (sym q.1)
      (subst (λ z. HasEntry slots z v (length chain)) (own (subst (Fits x s) q.1 f)).1
      (has s.key among (subst (Fits x s) q.1 f).0 (subst (Fits x s) q.1 f).1))))
      (get_push chain v p e);
}
  where
    own : {s : Slot} → (f : Fits x s v) → (y : Member) × (slot_of x s.key v f.0 ≡ s)
    own f = (f.0, f.2)

pub cut_slots : (x : Indexed) (finals : Names) (chain : List ℕ) (n : ℕ) (slots : Slots) → AreSlots x finals chain slots → AreSlots x finals (take n chain) slots
cut_slots x finals chain n slots is = record {
  sound = is.sound;
  rises = is.rises;
  complete = λ p v e s among f. is.complete p v (get_take n chain p e) s among f;
}

-- ---- slots in the map

module _ (slots : Slots) (name : List ℕ) (v : Vec Entry Global) where
  pub others_inserted : OthersStay name slots (map.insert slots name v)
  others_inserted other n =
      ap (λ o. option_map_or (λ (w : Vec Entry Global). w.items) o [])
      (get-insert slots name v other ∙ cond-false (same_bytes other name) _ _
      (⊎_elim (λ y. absurd (n ((same_bytes_decides other name).0 y))) (λ h. h) (cases_Bool (same_bytes other name))))

  pub entries_inserted : entries_in (map.insert slots name v) name ≡ v.items
  entries_inserted = ap (λ o. option_map_or (λ (w : Vec Entry Global). w.items) o []) (get-insert_same slots name v)

  pub entries_found : map.get slots name ≡ Some v → entries_in slots name ≡ v.items
  entries_found e = ap (λ o. option_map_or (λ (w : Vec Entry Global). w.items) o []) e

pub entries_missing : (slots : Slots) (name : List ℕ) → map.get slots name ≡ None → entries_in slots name ≡ []
entries_missing slots name e = ap (λ o. option_map_or (λ (w : Vec Entry Global). w.items) o []) e

pub drops_as : {chain chain' : List ℕ} {old old' new new' : List Entry} → chain ≡ chain' → old ≡ old' → new ≡ new' → Drops chain old new → Drops chain' old' new'
drops_as {chain' = chain'} {old} {old'} {new} {new'} c o n d =
    subst (Drops chain' old') n (subst (λ l. Drops chain' l new) o (subst (λ l. Drops l old new) c d))

pub none_drops : (chain : List ℕ) → Drops chain [] []
none_drops chain = record { count = 0; is = refl; kept = λ e h v. h; ends = λ e h. no_some h }

-- ---- both slots of a method are looked at

abbrev nearest_last : List Entry → Option ℕ
nearest_last es = option_and_then (λ (e : Entry). e.nearest) (last_of es)

module _ (count : ℕ) (x : Indexed) (finals : Names) (chain : List ℕ) (slots : Slots) (is : AreSlots x finals chain slots) (chained : IsChain count x chain)
    (c : ℕ) (ends : last_of chain ≡ superclass_at x c) (k : Key) (among : IsFinalName finals k) (first second : List ℕ) (first_is : first ≡ slot_name (open_slot k))
    (second_is : second ≡ slot_name (package_slot (package_at x c) k)) (mid new : Slots)
    (others_mid : OthersStay first slots mid) (drops_mid : Drops chain (entries_in slots first) (entries_in mid first))
    (others_new : OthersStay second mid new) (drops_new : Drops chain (entries_in mid second) (entries_in new second)) where
  between : AreSlots x finals chain mid
  between = after_drop x finals chain slots is first mid others_mid drops_mid

  pub after_both : AreSlots x finals chain new
  after_both = after_drop x finals chain mid between second new others_new drops_new

  pub told_open : TellsTop x c (open_slot k) (nearest_last (entries_in mid first))
  told_open = top_of x finals chain slots is count chained c ends (open_slot k) among (entries_in mid first)
      (subst (λ z. Drops chain (entries_in slots z) (entries_in mid first)) first_is drops_mid)

  pub told_own : TellsTop x c (package_slot (package_at x c) k) (nearest_last (entries_in new second))
  told_own = top_of x finals chain mid between count chained c ends (package_slot (package_at x c) k) among (entries_in new second)
      (subst (λ z. Drops chain (entries_in mid z) (entries_in new second)) second_is drops_new)

  pub others_both : OtherKeysStay k slots new
  others_both s n =
      others_new (slot_name s) (λ e. other_key s (package_slot (package_at x c) k) n (e ∙ second_is))
      ∙ others_mid (slot_name s) (λ e. other_key s (open_slot k) n (e ∙ first_is))

pub some_method : (o : Option Member) → is_some o ≡ true → (y : Member) × (o ≡ Some y)
some_method None e = absurd (false≢true e)
some_method (Some y) e = (y, refl)

-- ---- a class and its superclasses

module _ (count : ℕ) (x : Indexed) (graph : IsGraph count x) where
  pub path_on : (class : ℕ) (path : List ℕ) (v s : ℕ) → IsPath count x class path (superclass_at x v) → last_of path ≡ Some v → good_at x v ≡ true
      → superclass_at x v ≡ Some s → IsPath count x class (path ++ s ∷ []) (superclass_at x s)
  path_on class path v s is last g e = record {
    nodes = λ p w h. ⊎_elim (λ a. is.nodes p w a) (λ q. subst (λ z. z < count) (sym q.1) (super_node count x graph v s e)) (get_push path s p h);
    good = λ p w h. ⊎_elim (λ a. is.good p w a) (λ q. ap (good_at x) q.1 ∙ super_good count x graph v s g e) (get_push path s p h);
    first = λ w h. ⊎_elim (λ a. is.first w a)
        (λ q. let l = get_within path (length path - 1) last in let z = q.0 in absurd (omega arith))
        (get_push path s 0 h);
    next = λ p a b h i. ⊎_elim
        (λ r. is.next p a b (⊎_elim (λ z. z) (λ q. let w = get_within path (p + 1) r in let z = q.0 in absurd (omega arith)) (get_push path s p h)) r)
        (λ r. ⊎_elim
        (λ q. ap (superclass_at x) (some_is (sym q ∙ ap (slice_get path) (let z = r.0 in omega arith) ∙ last)) ∙ e ∙ ap Some (sym r.1))
        (λ q. let z = r.0 in let y = q.0 in absurd (omega arith))
        (get_push path s p h))
        (get_push path s (p + 1) i);
    top = λ w h. ap (superclass_at x) (some_is (sym h ∙ last_push path s));
  }

  -- the last node of a path is entered, and the path goes on without it
  module _ (class : ℕ) (path rest : List ℕ) (v : ℕ) (o : Option ℕ) (is : IsPath count x class path o) (popped : path ≡ rest ++ v ∷ []) where
    there : (p : ℕ) {w : ℕ} → slice_get rest p ≡ Some w → slice_get path p ≡ Some w
    there p h = ap (λ l. slice_get l p) popped ∙ get_left rest (v ∷ []) p h

    at_end : slice_get path (length rest) ≡ Some v
    at_end = ap (λ l. slice_get l (length rest)) popped ∙ get_end rest v

    pub path_back : IsPath count x class rest (Some v)
    path_back = record {
      nodes = λ p w h. is.nodes p w (there p h);
      good = λ p w h. is.good p w (there p h);
      first = λ w h. is.first w (there 0 h);
      next = λ p a b h i. is.next p a b (there p h) (there (p + 1) i);
      top = λ w h.
          let l = get_within rest (length rest - 1) h in
          is.next (length rest - 1) w v (there (length rest - 1) h) (ap (slice_get path) (omega arith) ∙ at_end);
    }

    -- the last node that is entered is the class itself
    pub path_done : length rest ≡ 0 → v ≡ class
    path_done none = is.first v (ap (slice_get path) (sym none) ∙ at_end)

-- ---- the methods of a class

same_key : (k l : Key) → (k ≡ l) ⊎ (k ≡ l → ⊥)
same_key k l = ⊎_elim
    (λ n. ⊎_elim
    (λ d. inl (ap (λ z. record { name = z; descriptor = k.descriptor }) n ∙ ap (λ z. record { name = l.name; descriptor = z }) d))
    (λ d. inr (λ e. d (ap (λ (z : Key). z.descriptor) e)))
    (of_bytes l.descriptor k.descriptor))
    (λ n. inr (λ e. n (ap (λ (z : Key). z.name) e)))
    (of_bytes l.name k.name)

pub slot_key : (x : Indexed) (k : Key) (v : ℕ) (y : Member) → (slot_of x k v y).key ≡ k
slot_key x k v y = by (has y.flags public || has y.flags protected)
  where
    by : (b : Bool) → (cond b (open_slot k) (package_slot (package_at x v) k)).key ≡ k
    by true = refl
    by false = refl

-- a method stays in its slot when that of another key is put into its own
pub method_stays : (x : Indexed) (finals : Names) (old new : Slots) (v place : ℕ) (k l : Key) → OtherKeysStay l old new
    → HasMethod x finals new v place l → HasMethod x finals old v place k → HasMethod x finals new v place k
method_stays x finals old new v place k l others own has = ⊎_elim
    (λ e. subst (HasMethod x finals new v place) (sym e) own)
    (λ n. λ among y d.
    let h = has among y d in
    (h.0, subst (λ es. Contains es h.0) (sym (others (slot_of x k v y) (λ e. n (sym (slot_key x k v y) ∙ e)))) h.1, h.2, h.3))
    (same_key k l)

-- the method with a key is one of the list
pub method_place : (ms : List Member) (k : Key) (y : Member) → only_inheritable (member ms k) ≡ Some y → (i : ℕ) × (i < length ms) × (key_at ms i ≡ k)
method_place ms k y e = found ms (inheritable (member ms k) e).1
  where
    inheritable : (o : Option Member) → only_inheritable o ≡ Some y → (z : Member) × (o ≡ Some z)
    inheritable None e = no_some e
    inheritable (Some z) e = (z, refl)

    found : (ms : List Member) {z : Member} → member ms k ≡ Some z → (i : ℕ) × (i < length ms) × (key_at ms i ≡ k)
    found [] e = no_some e
    found (m ∷ ms) e = by (is_at k m) refl e (found ms)
      where
        key_is : is_at k m ≡ true → key_of m ≡ k
        key_is h =
            let q = and_parts _ _ h in
            ap (λ n. record { name = n; descriptor = m.descriptor }) (same_is _ _ q.0) ∙ ap (λ d. record { name = k.name; descriptor = d }) (same_is _ _ q.1)

        by : {z : Member} (b : Bool) → is_at k m ≡ b → cond b (Some m) (member ms k) ≡ Some z
            → (member ms k ≡ Some z → (i : ℕ) × (i < length ms) × (key_at ms i ≡ k)) → (i : ℕ) × (i < length (m ∷ ms)) × (key_at (m ∷ ms) i ≡ k)
        by true h e on = (0, omega arith, key_is h)
        by false h e on = let w = on e in (suc w.0, (let l = w.1 in omega arith), w.2)

-- the key of the member at a place
pub key_of_place : (ms : List Member) (i : ℕ) (y : Member) → slice_get ms i ≡ Some y → key_at ms i ≡ key_of y
key_of_place [] i y e = no_some e
key_of_place (m ∷ ms) zero y e = ap key_of (some_is e)
key_of_place (m ∷ ms) (suc i) y e = key_of_place ms i y e

-- the slot of a method that may be overridden
pub fits_own : (x : Indexed) (k : Key) (v : ℕ) (y : Member) → overridable_at x k v ≡ Some y → Fits x (slot_of x k v y) v
fits_own x k v y d = (y, ap (λ z. overridable_at x z v) (slot_key x k v y) ∙ d, ap (λ z. slot_of x z v y) (slot_key x k v y))

pub tells_own : (x : Indexed) (k : Key) (v : ℕ) (y : Member) (r : Option ℕ) → TellsNearest x k v r → TellsNearest x (slot_of x k v y).key v r
tells_own x k v y r tells = subst (λ z. TellsNearest x z v r) (sym (slot_key x k v y)) tells

pub no_methods : (s : Standing) → ((f : _) → s ≡ Class f → ⊥) → methods_of (stands_of s) ≡ []
no_methods (Class f) n = absurd (n f refl)
no_methods Outside n = refl
no_methods Absent n = refl

-- a class without methods
pub no_method : (x : Indexed) (finals : Names) (v : ℕ) (k : Key) (slots : Slots) (place : ℕ) → methods_of (standing_of x v) ≡ []
    → HasMethod x finals slots v place k
no_method x finals v k slots place e among y d = no_some (sym (ap (λ ms. only_inheritable (member ms k)) e) ∙ d)

pub place_there : {X : Type 0} (xs : List X) (i : ℕ) → slice_get xs i ≡ None → i < length xs → ⊥
place_there xs i e l = no_some (sym e ∙ (get_some xs i l).1)

-- a search that has visited no class
pub no_search : (count : ℕ) (x : Indexed) (f : FinalSearch) → AreFinals count x f.finals → f.chain.items ≡ [] → f.slots ≡ map.empty → IsSearch count x f
no_search count x f finals chain slots = record {
  finals = finals;
  chain = subst (IsChain count x) (sym chain) (no_chain count x);
  slots = record {
    sound = λ s e h. absurd (none s h);
    rises = λ s. subst (IsNonDecreasingBy (λ (e : Entry). e.place)) (sym (no_entries s)) (λ i j d l m. absurd (omega arith));
    complete = λ p v e s among fits. no_some (ap (λ l. slice_get l p) (sym chain) ∙ e);
  };
}
  where
    no_entries : (s : Slot) → entries_at f.slots s ≡ []
    no_entries s = entries_missing f.slots (slot_name s) (ap (λ m. map.get m (slot_name s)) slots ∙ map.get-empty bytes_cmp (slot_name s))

    none : (s : Slot) {e : Entry} → Contains (entries_at f.slots s) e → ⊥
    none s {e} h = let q = subst (λ l. Contains l e) (no_entries s) h in let l = q.1 in absurd (omega arith)

-- ---- names of FINAL methods

inheritable_is : (o : Option Member) (y : Member) → only_inheritable o ≡ Some y → o ≡ Some y
inheritable_is None y e = no_some e
inheritable_is (Some z) y e = by (has z.flags private || has z.flags static) e
  where
    by : (b : Bool) → cond b None (Some z) ≡ Some y → Some z ≡ Some y
    by true e = no_some e
    by false e = e

-- the method with a key is one of the list
found_place : (ms : List Member) (k : Key) (y : Member) → member ms k ≡ Some y → (i : ℕ) × (slice_get ms i ≡ Some y) × (y.name ≡ k.name)
found_place [] k y e = no_some e
found_place (m ∷ ms) k y e = by (is_at k m) refl e (found_place ms k y)
  where
    by : (b : Bool) → is_at k m ≡ b → cond b (Some m) (member ms k) ≡ Some y
        → (member ms k ≡ Some y → (i : ℕ) × (slice_get ms i ≡ Some y) × (y.name ≡ k.name)) → (i : ℕ) × (slice_get (m ∷ ms) i ≡ Some y) × (y.name ≡ k.name)
    by true h e on = (0, e, ap (λ (z : Member). z.name) (sym (some_is e)) ∙ same_is _ _ (and_parts _ _ h).0)
    by false h e on = let w = on e in (suc w.0, w.1, w.2)

-- the names of the FINAL methods of one more class
pub finals_on : (x : Indexed) (n : ℕ) (old new : Names) → AreFinals n x old → AddsFinals (methods_of (standing_of x n)) (length (methods_of (standing_of x n))) old new
    → AreFinals (n + 1) x new
finals_on x n old new are adds v k y l d f = ⊎_elim
    (λ lower. adds.stay k.name (are v k y lower d f))
    (λ last.
    let same : v ≡ n = omega arith in
    let ms = methods_of (standing_of x n) in
    let p = found_place ms k y (inheritable_is (member ms k) y (ap (λ z. overridable_at x k z) (sym same) ∙ d)) in
    ap (map.contains_key new) (sym p.2) ∙ adds.added p.0 y (get_within ms p.0 p.1) p.1 f)
    (cases_lt v n)

-- a class without methods
pub finals_none : (x : Indexed) (n : ℕ) (old : Names) → AreFinals n x old → methods_of (standing_of x n) ≡ [] → AreFinals (n + 1) x old
finals_none x n old are none v k y l d f = ⊎_elim
    (λ lower. are v k y lower d f)
    (λ last.
    let same : v ≡ n = omega arith in
    no_some (sym (ap (λ z. overridable_at x k z) same ∙ ap (λ ms. only_inheritable (member ms k)) none) ∙ d))
    (cases_lt v n)
