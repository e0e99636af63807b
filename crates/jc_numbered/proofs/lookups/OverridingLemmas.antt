-- FINAL methods that a class overrides: those of the two slots of its method.
use Rattle.std.proofs.Common.{◌≡◌, ℕ, ◌<◌, ◌≤◌, true, false, ◌||◌, ◌&&◌, not, cond, Option, Some, None, is_some, refl, sym, ap, subst, ◌∙◌, ◌⊎◌, inl, inr, ⊎_elim, arith}
use Rattle.std.specs.Prelude.{nat_lt}
use Rattle.std.proofs.lemmas.Bool.{cases_Bool, false≢true, and_from, and_parts, ltb-false, ltb-true, or_cases, or_left, or_right}
use Rattle.jc_file.specs.AccessFlags.{final, has, private, protected, public, static}
use Rattle.jc_classes.specs.Access.{is_package_private}
use Rattle.jc_classes.specs.Facts.{Key, Member}
use Rattle.jc_classes.specs.MethodLookup.{only_inheritable}
use Rattle.jc_classes.specs.Names.{Name, package_of, same_name}
use Rattle.jc_classes.specs.Overriding.{IsFinalAbove, IsSuperclass, Overrides, OverridesFinal, is_open_to, overridable}
use Rattle.jc_classes.specs.Overriding.{Overrides as overrides}
use Rattle.jc_classes.specs.Worlds.{Extends, World, member, methods_of, superclass_of, Extends as extends}
use Rattle.jc_classes.proofs.worlds.NameTests.{same_is, same_self}
use Rattle.std.specs.FinMap as map
use Rattle.jc_numbered.specs.inside.FinalSearches.{AreFinals, Names}
use Rattle.jc_numbered.specs.inside.Chain.{ExtendsNode, ExtendsNode as node}
use Rattle.jc_numbered.specs.inside.Indexed.{Indexed, IsGraph, IsIndexed, good_at, indexed_name, rank_at, standing_of, superclass_at}
use Rattle.jc_numbered.specs.inside.Overriding.{Fits, IsFinalFrom, IsNearestFrom, TellsFinal, TellsNearest, nearer, overridable_at, package_at, slot_of}
use Rattle.jc_numbered.specs.inside.Slots.{Slot, open_slot, package_slot}
use Rattle.jc_numbered.proofs.lookups.Chain.{extends_named, super_above, super_falls, super_good, super_is, super_node}

some_is : {X : Type 0} {a b : X} → Some a ≡ Some b → a ≡ b
some_is e = cc

no_some : {X A : Type 0} {a : X} → None ≡ Some a → A
no_some e = absurd cc

-- ---- superclasses

module _ (m : World) where
  pub weaken : {a c : Name} → IsSuperclass m a c → Extends m a c
  weaken q = extends.through q.1 q.2

  pub joined : {a b c : Name} → Extends m a b → IsSuperclass m b c → IsSuperclass m a c
  joined extends.itself q = q
  joined (extends.through {s = s} h r) q = (s, h, weaken (joined r q))

module _ (m : World) (k : Key) where
  pub up : {c a : Name} → Overrides m k c a → IsSuperclass m c a
  up (overrides.directly u x y o) = u
  up (overrides.through p q) = joined m (weaken m (up p)) (up q)

-- ---- slots

-- a method that is neither PUBLIC nor PROTECTED may be overridden only if it is package-private
is_private_to_package : (o : Option Member) (y : Member) → only_inheritable o ≡ Some y → (has y.flags public || has y.flags protected) ≡ false
    → is_package_private y ≡ true
is_private_to_package None y e h = no_some e
is_private_to_package (Some z) y e h = by (has z.flags private) (has z.flags static) refl e
  where
    by : (p s : _) → has z.flags private ≡ p → cond (p || s) None (Some z) ≡ Some y → is_package_private y ≡ true
    by true s q e = no_some e
    by false true q e = no_some e
    by false false q e = rest (has y.flags public) (has y.flags protected) (has y.flags private) h (ap (λ (w : Member). has w.flags private) (sym (some_is e)) ∙ q)
      where
        rest : (a b c : _) → (a || b) ≡ false → c ≡ false → (not a && (not c && not b)) ≡ true
        rest true b c h e = absurd (false≢true (sym h))
        rest false true c h e = absurd (false≢true (sym h))
        rest false false true h e = absurd (false≢true (sym e))
        rest false false false h e = refl

-- ---- among numbered classes

-- v is a superclass of c
abbrev pub IsAbove : Indexed → (c v : ℕ) → Type 0
IsAbove x c v = (s : ℕ) × (superclass_at x c ≡ Some s) × ExtendsNode x s v

-- t is the nearest superclass of c with a method of the slot
pub record IsTop (x : Indexed) (c : ℕ) (s : Slot) (t : ℕ) : Type 0 where
  pub above : IsAbove x c t
  pub fits : Fits x s t
  pub nearest : (v : ℕ) → IsAbove x c v → Fits x s v → ExtendsNode x t v

-- the nearest FINAL method among that of the nearest superclass in the slot and those that it overrides
abbrev pub TellsTop : Indexed → (c : ℕ) → Slot → Option ℕ → Type 0
TellsTop x c s r = (((v : ℕ) → IsAbove x c v → Fits x s v → ⊥) × (r ≡ None)) ⊎ ((t : ℕ) × IsTop x c s t × TellsNearest x s.key t r)

module _ (count : ℕ) (x : Indexed) (graph : IsGraph count x) where
  falls : {v w : ℕ} → good_at x v ≡ true → ExtendsNode x v w → rank_at x w ≤ rank_at x v
  falls g node.itself = omega arith
  falls {v} {w} g (node.through {s = s} e h) =
      let a = super_falls count x graph v s g e in
      let b = falls (super_good count x graph v s g e) h in
      omega arith

  good_above : {v w : ℕ} → good_at x v ≡ true → ExtendsNode x v w → good_at x w ≡ true
  good_above g node.itself = g
  good_above {v} g (node.through {s = s} e h) = good_above (super_good count x graph v s g e) h

  -- two nodes on one chain
  comparable : {s a b : ℕ} → ExtendsNode x s a → ExtendsNode x s b → ExtendsNode x a b ⊎ ExtendsNode x b a
  comparable node.itself q = inl q
  comparable p node.itself = inr p
  comparable {b = b} (node.through {s = t} e h) (node.through {s = u} f r) =
      comparable h (subst (λ z. ExtendsNode x z b) (some_is (sym f ∙ e)) r)

  -- a chain on which the rank does not fall does not go on
  stays : {a b : ℕ} → good_at x a ≡ true → ExtendsNode x a b → rank_at x a ≤ rank_at x b → a ≡ b
  stays g node.itself l = refl
  stays {a} g (node.through {s = s} e h) l =
      let p = super_falls count x graph a s g e in
      let q = falls (super_good count x graph a s g e) h in
      absurd (omega arith)

  lower : {s a b : ℕ} → good_at x s ≡ true → ExtendsNode x s a → ExtendsNode x s b → rank_at x b ≤ rank_at x a → ExtendsNode x a b
  lower {s} {a} {b} g p q l = ⊎_elim (λ h. h)
      (λ h. subst (λ z. ExtendsNode x z b) (stays (good_above g q) h l) node.itself)
      (comparable p q)

  within : {v w : ℕ} → v < count → ExtendsNode x v w → w < count
  within l node.itself = l
  within {v} l (node.through {s = s} e h) = within (super_node count x graph v s e) h

  further_up : {a b c : ℕ} → ExtendsNode x a b → ExtendsNode x b c → ExtendsNode x a c
  further_up node.itself h = h
  further_up (node.through e p) h = node.through e (further_up p h)

  module _ (m : World) (index : IsIndexed m x) where
    numbered : {n b : Name} → Extends m n b → (v : ℕ) → v < count → indexed_name x v ≡ n → (w : ℕ) × ExtendsNode x v w × (indexed_name x w ≡ b)
    numbered extends.itself v l e = (v, node.itself, e)
    numbered (extends.through {s = s} h r) v l e =
        let p = super_above count x graph m index v s l (ap (λ z. superclass_of (m z)) e ∙ h) in
        let w = numbered r p.0 (super_node count x graph v p.0 p.1) p.2 in
        (w.0, node.through p.1 w.1, w.2)

    -- a superclass is a node above
    above_numbered : {b : Name} → (c : ℕ) → c < count → IsSuperclass m (indexed_name x c) b → (w : ℕ) × IsAbove x c w × (indexed_name x w ≡ b)
    above_numbered c l q =
        let p = super_above count x graph m index c q.0 l q.1 in
        let w = numbered q.2 p.0 (super_node count x graph c p.0 p.1) p.2 in
        (w.0, (p.0, p.1, w.1), w.2)

    above_named : {c v : ℕ} → c < count → IsAbove x c v → IsSuperclass m (indexed_name x c) (indexed_name x v)
    above_named {c} l q = (
      indexed_name x q.0,
      super_is count x graph m index c q.0 l q.1,
      extends_named count x graph m index (super_node count x graph c q.0 q.1) q.2,
    )

    -- a node that another extends is this node, or its class a superclass
    extends_cases : {t v : ℕ} → t < count → ExtendsNode x t v → (v ≡ t) ⊎ IsSuperclass m (indexed_name x t) (indexed_name x v)
    extends_cases l node.itself = inl refl
    extends_cases l (node.through {s = s} e h) = inr (above_named l (s, e, h))

    overridable_is : (k : Key) (v : ℕ) → v < count → overridable m k (indexed_name x v) ≡ overridable_at x k v
    overridable_is k v l =
        ap (λ r. only_inheritable (member (methods_of r) k)) (index.standing v (let names = graph.names in omega arith))

  module _ (k : Key) (c : ℕ) (class : c < count) where
    above_within : {v : ℕ} → IsAbove x c v → v < count
    above_within q = within (super_node count x graph c q.0 q.1) q.2

    -- ---- the two slots

    abbrev pub own_slot : Slot
    own_slot = package_slot (package_at x c) k

    -- the methods of an open slot are PUBLIC or PROTECTED
    is_open : (v : ℕ) (y : Member) → slot_of x k v y ≡ open_slot k → (has y.flags public || has y.flags protected) ≡ true
    is_open v y e = by (has y.flags public || has y.flags protected) e
      where
        by : (b : _) → cond b (open_slot k) (package_slot (package_at x v) k) ≡ open_slot k → b ≡ true
        by true e = refl
        by false e = no_some (sym (ap (λ (s : Slot). s.in_package) e))

    in_package : (v : ℕ) (y : Member) (p : Name) → slot_of x k v y ≡ package_slot p k
        → ((has y.flags public || has y.flags protected) ≡ false) × (package_at x v ≡ p)
    in_package v y p e = by (has y.flags public || has y.flags protected) e
      where
        by : (b : _) → cond b (open_slot k) (package_slot (package_at x v) k) ≡ package_slot p k → (b ≡ false) × (package_at x v ≡ p)
        by true e = no_some (ap (λ (s : Slot). s.in_package) e)
        by false e = (refl, some_is (ap (λ (s : Slot). s.in_package) e))

    slot_is_open : (v : ℕ) (y : Member) → (has y.flags public || has y.flags protected) ≡ true → slot_of x k v y ≡ open_slot k
    slot_is_open v y e = ap (λ b. cond b (open_slot k) (package_slot (package_at x v) k)) e

    slot_is_own : (v : ℕ) (y : Member) → (is_package_private y && same_name (package_at x c) (package_at x v)) ≡ true → slot_of x k v y ≡ own_slot
    slot_is_own v y e =
        let q = and_parts _ _ e in
        ap (λ b. cond b (open_slot k) (package_slot (package_at x v) k)) (closed (has y.flags public) (has y.flags protected) (has y.flags private) q.0)
        ∙ ap (λ p. package_slot p k) (sym (same_is _ _ q.1))
      where
        closed : (a b d : _) → (not a && (not d && not b)) ≡ true → (a || b) ≡ false
        closed true b d h = absurd (false≢true h)
        closed false true true h = absurd (false≢true h)
        closed false true false h = absurd (false≢true h)
        closed false false d h = refl

    module _ (own : (y : Member) × (overridable_at x k c ≡ Some y)) (told_o told_p : Option ℕ)
        (tops : TellsTop x c (open_slot k) told_o) (tops_own : TellsTop x c own_slot told_p) where
      -- t is the nearest superclass in one of the two slots
      data IsOneTop : ℕ → Option ℕ → Type 0 where
        of_open : {t : ℕ} → IsTop x c (open_slot k) t → TellsNearest x k t told_o → IsOneTop t told_o
        of_own : {t : ℕ} → IsTop x c own_slot t → TellsNearest x k t told_p → IsOneTop t told_p

      top_above : {t : ℕ} {r : Option ℕ} → IsOneTop t r → IsAbove x c t
      top_above (of_open t r) = t.above
      top_above (of_own t r) = t.above

      top_tells : {t : ℕ} {r : Option ℕ} → IsOneTop t r → TellsNearest x k t r
      top_tells (of_open t r) = r
      top_tells (of_own t r) = r

      one_of : {t : ℕ} {r : Option ℕ} → IsOneTop t r → (r ≡ told_o) ⊎ (r ≡ told_p)
      one_of (of_open t r) = inl refl
      one_of (of_own t r) = inr refl

      top_open : (v : ℕ) → told_o ≡ Some v → (t : ℕ) × IsOneTop t told_o
      top_open v e = ⊎_elim (λ n. no_some (sym n.1 ∙ e)) (λ t. (t.0, of_open t.1 t.2)) tops

      top_own : (v : ℕ) → told_p ≡ Some v → (t : ℕ) × IsOneTop t told_p
      top_own v e = ⊎_elim (λ n. no_some (sym n.1 ∙ e)) (λ t. (t.0, of_own t.1 t.2)) tops_own

      nearest_on : (r : Option ℕ) (w : ℕ) → r ≡ Some w → (t : ℕ) → TellsNearest x k t r → ExtendsNode x t w
      nearest_on None w e t tells = no_some e
      nearest_on (Some v) w e t tells = subst (λ z. ExtendsNode x t z) (some_is e) tells.0

      -- what a top tells is a superclass of c
      told_above : {t : ℕ} {r : Option ℕ} → IsOneTop t r → (w : ℕ) → r ≡ Some w → IsAbove x c w
      told_above {t} {r} top w e =
          let a = top_above top in
          (a.0, a.1, further_up a.2 (nearest_on r w e t (top_tells top)))

      -- w is at or below what both tops tell
      record IsBelowBoth (w : ℕ) : Type 0 where
        within : w < count
        below_open : (v : ℕ) → told_o ≡ Some v → ExtendsNode x w v
        below_own : (v : ℕ) → told_p ≡ Some v → ExtendsNode x w v

      module _ (m : World) (index : IsIndexed m x) where
        -- a lower method of an open slot overrides an upper one
        open_overrides : {b v : ℕ} → b < count → v < count → IsSuperclass m (indexed_name x b) (indexed_name x v) → {z : Member} → overridable_at x k b ≡ Some z
            → Fits x (open_slot k) v → Overrides m k (indexed_name x b) (indexed_name x v)
        open_overrides {b} {v} lb lv u d f = overrides.directly u (overridable_is m index k b lb ∙ d) (overridable_is m index k v lv ∙ f.1)
            (or_left _ _ (is_open v f.0 f.2))

        -- a lower class of the package overrides an upper method of the package's slot
        package_overrides : {b v : ℕ} → b < count → v < count → IsSuperclass m (indexed_name x b) (indexed_name x v) → {z : Member} → overridable_at x k b ≡ Some z
            → (p : Name) → package_at x b ≡ p → Fits x (package_slot p k) v → Overrides m k (indexed_name x b) (indexed_name x v)
        package_overrides {b} {v} lb lv u d p e f =
            let y = f.0 in
            let q = in_package v y p f.2 in
            overrides.directly u (overridable_is m index k b lb ∙ d) (overridable_is m index k v lv ∙ f.1)
            (or_right (has y.flags public || has y.flags protected) _
            (and_from _ _ (is_private_to_package (member (methods_of (standing_of x v)) k) y f.1 q.0)
            (ap (λ z. same_name z (package_at x v)) (e ∙ sym q.1) ∙ same_self (package_at x v))))

        -- ---- what the method of c overrides: the nearest methods of the two slots, and what these override

        abbrev IsFrom : ℕ → Name → Type 0
        IsFrom t a = (a ≡ indexed_name x t) ⊎ Overrides m k (indexed_name x t) a

        by_way_of : (t : ℕ) {b a : Name} → IsFrom t b → Overrides m k b a → IsFrom t a
        by_way_of t {a = a} (inl e) q = inr (subst (λ z. Overrides m k z a) e q)
        by_way_of t (inr p) q = inr (overrides.through p q)

        record IsCovered (a : Name) : Type 0 where
          top : ℕ
          nearest : Option ℕ
          is : IsOneTop top nearest
          from : IsFrom top a

        by_open : {v : ℕ} → IsAbove x c v → Fits x (open_slot k) v → IsCovered (indexed_name x v)
        by_open {v} u f = ⊎_elim
            (λ n. absurd (n.0 v u f))
            (λ t. record {
              top = t.0;
              nearest = told_o;
              is = of_open t.1 t.2;
              from = ⊎_elim
                  (λ e. inl (ap (indexed_name x) e))
                  (λ q. inr (open_overrides (above_within t.1.above) (above_within u) q t.1.fits.1 f))
                  (extends_cases m index (above_within t.1.above) (t.1.nearest v u f));
            })
            tops

        by_own : {v : ℕ} → IsAbove x c v → Fits x own_slot v → IsCovered (indexed_name x v)
        by_own {v} u f = ⊎_elim
            (λ n. absurd (n.0 v u f))
            (λ t. record {
              top = t.0;
              nearest = told_p;
              is = of_own t.1 t.2;
              from = ⊎_elim
                  (λ e. inl (ap (indexed_name x) e))
                  (λ q. inr (package_overrides (above_within t.1.above) (above_within u) q t.1.fits.1 (package_at x c)
                  (in_package t.0 t.1.fits.0 (package_at x c) t.1.fits.2).1 f))
                  (extends_cases m index (above_within t.1.above) (t.1.nearest v u f));
            })
            tops_own

        covers_direct : {v : ℕ} → IsAbove x c v → (y : Member) → overridable_at x k v ≡ Some y → is_open_to (indexed_name x c) (indexed_name x v) y ≡ true
            → IsCovered (indexed_name x v)
        covers_direct {v} u y d o = ⊎_elim
            (λ a. by_open u (y, d, slot_is_open v y a))
            (λ a. by_own u (y, d, slot_is_own v y a))
            (or_cases _ _ o)

        covers : {b a : Name} → b ≡ indexed_name x c → Overrides m k b a → IsCovered a
        covers {b} {a} e (overrides.directly {y = y} u d f o) =
            let w = above_numbered m index c class (subst (λ z. IsSuperclass m z a) e u) in
            subst IsCovered w.2 (covers_direct w.1 y
            (sym (overridable_is m index k w.0 (above_within w.1)) ∙ ap (overridable m k) w.2 ∙ f)
            (ap (λ z. is_open_to z (indexed_name x w.0) y) (sym e) ∙ ap (λ z. is_open_to b z y) w.2 ∙ o))
        covers e (overrides.through p q) =
            let w = covers e p in
            record { top = w.top; nearest = w.nearest; is = w.is; from = by_way_of w.top w.from q }

        -- ---- the nearest FINAL one

        top_overridden : {t : ℕ} {r : Option ℕ} → IsOneTop t r → Overrides m k (indexed_name x c) (indexed_name x t)
        top_overridden (of_open t r) = open_overrides class (above_within t.above) (above_named m index class t.above) own.1 t.fits
        top_overridden (of_own t r) = package_overrides class (above_within t.above) (above_named m index class t.above) own.1 (package_at x c) refl t.fits

        final_from : (t : ℕ) {a : Name} → IsFrom t a → IsFinalAbove m k (indexed_name x c) a → IsFinalFrom m k (indexed_name x t) a
        final_from t h f = record { from = h; method = f.method; declared = f.declared; final = f.final }

        none_final : (r : Option ℕ) → r ≡ None → (t : ℕ) {a : Name} → TellsNearest x k t r → IsFinalFrom m k (indexed_name x t) a → ⊥
        none_final None e t {a} tells f = tells m index a f
        none_final (Some w) e t tells f = no_some (sym e)

        some_final : (r : Option ℕ) (w : ℕ) → r ≡ Some w → (t : ℕ) → TellsNearest x k t r → IsNearestFrom m k (indexed_name x t) (indexed_name x w)
        some_final None w e t tells = no_some e
        some_final (Some v) w e t tells = subst (λ z. IsNearestFrom m k (indexed_name x t) (indexed_name x z)) (some_is e) (tells.1 m index)

        no_final : told_o ≡ None → told_p ≡ None → (a : Name) → IsFinalAbove m k (indexed_name x c) a → ⊥
        no_final e f a h =
            let w = covers refl h.overrides in
            none_final w.nearest (⊎_elim (λ q. q ∙ e) (λ q. q ∙ f) (one_of w.is)) w.top (top_tells w.is) (final_from w.top w.from h)

        -- what a top tells is overridden by the method of c
        told_final : {t : ℕ} {r : Option ℕ} → IsOneTop t r → (w : ℕ) → r ≡ Some w → IsFinalAbove m k (indexed_name x c) (indexed_name x w)
        told_final {t} {r} top w e =
            let n = some_final r w e t (top_tells top) in
            record {
              overrides = ⊎_elim
                  (λ q. subst (λ z. Overrides m k (indexed_name x c) z) (sym q) (top_overridden top))
                  (λ o. overrides.through (top_overridden top) o)
                  n.is.from;
              method = n.is.method;
              declared = n.is.declared;
              final = n.is.final;
            }

        -- what the method of c overrides and is FINAL is w or above it
        nearest_of : (w : ℕ) → IsBelowBoth w → (b : Name) → IsFinalAbove m k (indexed_name x c) b
            → (b ≡ indexed_name x w) ⊎ IsSuperclass m (indexed_name x w) b
        nearest_of w low b h =
            let q = covers refl h.overrides in
            by q.nearest q refl (final_from q.top q.from h)
          where
            further : (v : ℕ) → ExtendsNode x w v → (b ≡ indexed_name x v) ⊎ IsSuperclass m (indexed_name x v) b
                → (b ≡ indexed_name x w) ⊎ IsSuperclass m (indexed_name x w) b
            further v on near = ⊎_elim
                (λ e. subst (λ z. (b ≡ indexed_name x z) ⊎ IsSuperclass m (indexed_name x z) b) e near)
                (λ u. inr (⊎_elim (λ e. subst (IsSuperclass m (indexed_name x w)) (sym e) u) (λ g. joined m (weaken m u) g) near))
                (extends_cases m index low.within on)

            by : (r : Option ℕ) (q : IsCovered b) → q.nearest ≡ r → IsFinalFrom m k (indexed_name x q.top) b
                → (b ≡ indexed_name x w) ⊎ IsSuperclass m (indexed_name x w) b
            by None q e f = absurd (none_final q.nearest e q.top (top_tells q.is) f)
            by (Some v) q e f = further v
                (⊎_elim (λ o. low.below_open v (sym o ∙ e)) (λ o. low.below_own v (sym o ∙ e)) (one_of q.is))
                ((some_final q.nearest v e q.top (top_tells q.is)).nearest b f)

        overrides_final : {t : ℕ} {r : Option ℕ} → IsOneTop t r → (w : ℕ) → r ≡ Some w → IsBelowBoth w → OverridesFinal m k (indexed_name x c) (indexed_name x w)
        overrides_final top w e low = record { above = told_final top w e; nearest = nearest_of w low }

      -- ---- the nearer one of what both tops tell

      told_within : {t : ℕ} {r : Option ℕ} → IsOneTop t r → (w : ℕ) → r ≡ Some w → w < count
      told_within top w e = above_within (told_above top w e)

      only_open : (w : ℕ) → told_o ≡ Some w → told_p ≡ None → IsBelowBoth w
      only_open w e f = record {
        within = told_within (top_open w e).1 w e;
        below_open = λ v g. subst (λ z. ExtendsNode x w z) (some_is (sym e ∙ g)) node.itself;
        below_own = λ v g. no_some (sym f ∙ g);
      }

      only_own : (w : ℕ) → told_o ≡ None → told_p ≡ Some w → IsBelowBoth w
      only_own w e f = record {
        within = told_within (top_own w f).1 w f;
        below_open = λ v g. no_some (sym e ∙ g);
        below_own = λ v g. subst (λ z. ExtendsNode x w z) (some_is (sym f ∙ g)) node.itself;
      }

      -- two superclasses of c, the first one of the greater rank
      ranked : good_at x c ≡ true → {a b : ℕ} → IsAbove x c a → IsAbove x c b → rank_at x b ≤ rank_at x a → ExtendsNode x a b
      ranked g {a} {b} p q l =
          lower (super_good count x graph c p.0 g p.1) p.2 (subst (λ z. ExtendsNode x z b) (some_is (sym q.1 ∙ p.1)) q.2) l

      open_first : good_at x c ≡ true → (a b : ℕ) → told_o ≡ Some a → told_p ≡ Some b → rank_at x b ≤ rank_at x a → IsBelowBoth a
      open_first g a b e f l = record {
        within = told_within (top_open a e).1 a e;
        below_open = λ v h. subst (λ z. ExtendsNode x a z) (some_is (sym e ∙ h)) node.itself;
        below_own = λ v h. subst (λ z. ExtendsNode x a z) (some_is (sym f ∙ h))
            (ranked g (told_above (top_open a e).1 a e) (told_above (top_own b f).1 b f) l);
      }

      own_first : good_at x c ≡ true → (a b : ℕ) → told_o ≡ Some a → told_p ≡ Some b → rank_at x a ≤ rank_at x b → IsBelowBoth b
      own_first g a b e f l = record {
        within = told_within (top_own b f).1 b f;
        below_open = λ v h. subst (λ z. ExtendsNode x b z) (some_is (sym e ∙ h))
            (ranked g (told_above (top_own b f).1 b f) (told_above (top_open a e).1 a e) l);
        below_own = λ v h. subst (λ z. ExtendsNode x b z) (some_is (sym f ∙ h)) node.itself;
      }

      pub tells_nearer : good_at x c ≡ true → TellsFinal x k c (nearer x told_o told_p)
      tells_nearer g = by told_o told_p refl refl
        where
          by : (a b : Option ℕ) → told_o ≡ a → told_p ≡ b → TellsFinal x k c (nearer x a b)
          by None None e f = λ m index. no_final m index e f
          by None (Some w) e f = λ m index. overrides_final m index (top_own w f).1 w f (only_own w e f)
          by (Some w) None e f = λ m index. overrides_final m index (top_open w e).1 w e (only_open w e f)
          by (Some a) (Some b) e f = ⊎_elim
              (λ l. subst (TellsFinal x k c) (sym (ap (λ z. cond z (Some b) (Some a)) l))
              (λ m index. overrides_final m index (top_own b f).1 b f (own_first g a b e f (let h = ltb-true (rank_at x a) (rank_at x b) l in omega arith))))
              (λ l. subst (TellsFinal x k c) (sym (ap (λ z. cond z (Some b) (Some a)) l))
              (λ m index. overrides_final m index (top_open a e).1 a e (open_first g a b e f (ltb-false (rank_at x a) (rank_at x b) l))))
              (cases_Bool (nat_lt (rank_at x a) (rank_at x b)))

      pub nearer_above : (w : ℕ) → nearer x told_o told_p ≡ Some w → ExtendsNode x c w
      nearer_above w h = by told_o told_p refl refl h
        where
          below : {v : ℕ} → IsAbove x c v → v ≡ w → ExtendsNode x c w
          below {v} q e = subst (λ z. ExtendsNode x c z) e (node.through q.1 q.2)

          by : (a b : Option ℕ) → told_o ≡ a → told_p ≡ b → nearer x a b ≡ Some w → ExtendsNode x c w
          by None None e f h = no_some h
          by None (Some v) e f h = below (told_above (top_own v f).1 v f) (some_is h)
          by (Some v) None e f h = below (told_above (top_open v e).1 v e) (some_is h)
          by (Some a) (Some b) e f h = ⊎_elim
              (λ l. below (told_above (top_own b f).1 b f) (some_is (sym (ap (λ z. cond z (Some b) (Some a)) l) ∙ h)))
              (λ l. below (told_above (top_open a e).1 a e) (some_is (sym (ap (λ z. cond z (Some b) (Some a)) l) ∙ h)))
              (cases_Bool (nat_lt (rank_at x a) (rank_at x b)))

    -- ---- a class without such a method, and the method of the class itself

    pub none_overridden : overridable_at x k c ≡ None → TellsFinal x k c None
    none_overridden e m index a f =
        let q = first m index f.overrides in
        no_some (sym e ∙ q.1)
      where
        first : (m : World) → IsIndexed m x → {a : Name} → Overrides m k (indexed_name x c) a → (y : Member) × (overridable_at x k c ≡ Some y)
        first m index o = let q = declares m o in (q.0, sym (overridable_is m index k c class) ∙ q.1)
          where
            declares : (m : World) {b a : Name} → Overrides m k b a → (y : Member) × (overridable m k b ≡ Some y)
            declares m (overrides.directly {x = y} u d f o) = (y, d)
            declares m (overrides.through p q) = declares m p

    -- no method of this name is FINAL
    pub never_final : (finals : Names) → AreFinals count x finals → map.contains_key finals k.name ≡ false → TellsFinal x k c None
    never_final finals all none m index a f =
        let w = above_numbered m index c class (up m k f.overrides) in
        let l = above_within w.1 in
        let d = sym (overridable_is m index k w.0 l) ∙ ap (overridable m k) w.2 ∙ f.declared in
        false≢true (sym none ∙ all w.0 k f.method l d f.final)

    pub nearest_itself : (y : Member) → overridable_at x k c ≡ Some y → has y.flags final ≡ true → TellsNearest x k c (Some c)
    nearest_itself y d f = (
      node.itself,
      λ m index. record {
        is = record { from = inl refl; method = y; declared = overridable_is m index k c class ∙ d; final = f };
        nearest = λ b g. ⊎_elim (λ e. inl e) (λ o. inr (up m k o)) g.from;
      },
    )

    pub nearest_of_above : (y : Member) → overridable_at x k c ≡ Some y → has y.flags final ≡ false → (r : Option ℕ) → TellsFinal x k c r
        → ((w : ℕ) → r ≡ Some w → ExtendsNode x c w) → TellsNearest x k c r
    nearest_of_above y d n r tells on = by r tells on
      where
        not_own : (m : World) → IsIndexed m x → {a : Name} → IsFinalFrom m k (indexed_name x c) a → IsFinalAbove m k (indexed_name x c) a
        not_own m index {a} f = record {
          overrides = ⊎_elim (λ e. absurd (false≢true (sym n ∙ own e))) (λ o. o) f.from;
          method = f.method;
          declared = f.declared;
          final = f.final;
        }
          where
            own : a ≡ indexed_name x c → has y.flags final ≡ true
            own e = ap (λ (z : Member). has z.flags final)
                (some_is (sym d ∙ sym (overridable_is m index k c class) ∙ ap (overridable m k) (sym e) ∙ f.declared)) ∙ f.final

        by : (r : Option ℕ) → TellsFinal x k c r → ((w : ℕ) → r ≡ Some w → ExtendsNode x c w) → TellsNearest x k c r
        by None tells on = λ m index a f. tells m index a (not_own m index f)
        by (Some w) tells on = (
          on w refl,
          λ m index.
              let t = tells m index in
              record {
                is = record { from = inr t.above.overrides; method = t.above.method; declared = t.above.declared; final = t.above.final };
                nearest = λ b f. t.nearest b (not_own m index f);
              },
        )
