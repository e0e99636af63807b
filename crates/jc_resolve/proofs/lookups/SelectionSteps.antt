-- The methods without a body of a class, from those of its superclass.
use Rattle.std.proofs.Common.{◌≡◌, ◌∙◌, zero, suc, true, false, cond, List, [], ◌∷◌, ◌++◌, None, Some, refl, sym, ap, subst, ◌⊎◌, inl, inr, ⊎_elim, arith}
use Rattle.std.specs.List.{Contains}
use Rattle.std.specs.Option.{option_to_list}
use Rattle.jc_file.specs.AccessFlags.{abstract, has, static}
use Rattle.jc_classes.specs.Facts.{Key, Member}
use Rattle.jc_classes.specs.MethodLookup.{IsCandidate, IsMaximal, IsOnly, given_by, only_inheritable}
use Rattle.jc_classes.specs.Names.{Name}
use Rattle.jc_classes.specs.Overriding.{IsSuperclass, Overrides, is_open_to, overridable}
use Rattle.jc_classes.specs.Overriding.{Overrides as overrides}
use Rattle.jc_classes.specs.Worlds.{Above, Extends, Found, World, interfaces_of, is_interface, member, methods_of, superclass_of, supertypes_of}
use Rattle.jc_classes.specs.Worlds.{Above as above, Extends as extends}
use Rattle.jc_numbered.proofs.lookups.OverridingLemmas.{joined, up}
use Rattle.jc_classes.specs.Selection.{DeclaresInstance, SelectsAbstract, SelectsNone}

some_is : {X : Type 0} {a b : X} → Some a ≡ Some b → a ≡ b
some_is e = cc

no_some : {X A : Type 0} {a : X} → None ≡ Some a → A
no_some e = absurd cc

head_in : {X : Type 0} (x : X) (xs : List X) → Contains (x ∷ xs) x
head_in x xs = (zero, omega arith, refl)

only_in : {X : Type 0} (x y : X) → Contains (x ∷ []) y → x ≡ y
only_in x y (zero, l, e) = e
only_in x y (suc k, l, e) = absurd (omega arith)

none_in : {X A : Type 0} (y : X) → Contains [] y → A
none_in y h = absurd (let k = h.1 in omega arith)

module _ (m : World) where
  chain_cases : {n a : Name} → Extends m n a → (n ≡ a) ⊎ ((s : Name) × (superclass_of (m n) ≡ Some s) × Extends m s a)
  chain_cases extends.itself = inl refl
  chain_cases (extends.through {s = s} e h) = inr (s, e, h)

  module _ (k : Key) where
    -- a method of c overrides that of the superclass a
    abbrev pub OverridesAt : Name → Name → Type 0
    OverridesAt c a = (x y : Member) → overridable m k c ≡ Some x → overridable m k a ≡ Some y → is_open_to c a y ≡ true → ⊥

    -- ---- methods of classes

    pub own_selected : (c : Name) (y : Member) → (IsSuperclass m c c → ⊥) → overridable m k c ≡ Some y → has y.flags abstract ≡ true → SelectsAbstract m k c c
    own_selected c y acyclic e f = record {
      on_chain = extends.itself;
      method = y;
      declared = e;
      is_abstract = f;
      nearest = λ b h o. acyclic (joined m h (up m k o));
    }

    pub selected_below : (c s a : Name) → superclass_of (m c) ≡ Some s → SelectsAbstract m k c a → (c ≡ a) ⊎ (SelectsAbstract m k s a × OverridesAt c a)
    selected_below c s a super sel = ⊎_elim inl
        (λ p.
        let same = some_is (sym p.1 ∙ super) in
        inr (
          record {
            on_chain = subst (λ z. Extends m z a) same p.2;
            method = sel.method;
            declared = sel.declared;
            is_abstract = sel.is_abstract;
            nearest = λ b h o. sel.nearest b (extends.through super h) o;
          },
          λ x y ex ey is_open. sel.nearest c extends.itself (overrides.directly (p.0, p.1, p.2) ex ey is_open),
        ))
        (chain_cases sel.on_chain)

    not_overridden : (c s a : Name) → superclass_of (m c) ≡ Some s → SelectsAbstract m k s a → OverridesAt c a → Overrides m k c a → ⊥
    not_overridden c s a super sel not (overrides.directly {x = x} {y = y} u ex ey is_open) = not x y ex ey is_open
    not_overridden c s a super sel not (overrides.through {b = b} p q) =
        let u = up m k p in
        sel.nearest b (subst (λ z. Extends m z b) (some_is (sym u.1 ∙ super)) u.2) q

    pub selected_above : (c s a : Name) → superclass_of (m c) ≡ Some s → SelectsAbstract m k s a → OverridesAt c a → SelectsAbstract m k c a
    selected_above c s a super sel not = record {
      on_chain = extends.through super sel.on_chain;
      method = sel.method;
      declared = sel.declared;
      is_abstract = sel.is_abstract;
      nearest = λ b h o. ⊎_elim
          (λ e. not_overridden c s a super sel not (subst (λ z. Overrides m k z a) (sym e) o))
          (λ p. sel.nearest b (subst (λ z. Extends m z b) (some_is (sym p.1 ∙ super)) p.2) o)
          (chain_cases h);
    }

    pub selected_top : (c a : Name) → superclass_of (m c) ≡ None → SelectsAbstract m k c a → c ≡ a
    selected_top c a super sel = ⊎_elim (λ e. e) (λ p. no_some (sym super ∙ p.1)) (chain_cases sel.on_chain)

    -- ---- methods of interfaces

    abbrev pub OwnInstance : Name → Type 0
    OwnInstance c = (y : Member) × (member (methods_of (m c)) k ≡ Some y) × (has y.flags static ≡ false)

    pub instance_own : (c : Name) → OwnInstance c → DeclaresInstance m k c
    instance_own c o = record { home = c; on_chain = extends.itself; method = o.0; declared = o.1; is_instance = o.2 }

    pub instance_up : (c s : Name) → superclass_of (m c) ≡ Some s → DeclaresInstance m k s → DeclaresInstance m k c
    instance_up c s super d = record {
      home = d.home;
      on_chain = extends.through super d.on_chain;
      method = d.method;
      declared = d.declared;
      is_instance = d.is_instance;
    }

    pub instance_cases : (c : Name) → DeclaresInstance m k c → OwnInstance c ⊎ ((s : Name) × (superclass_of (m c) ≡ Some s) × DeclaresInstance m k s)
    instance_cases c d = ⊎_elim
        (λ e. inl (d.method, ap (λ n. member (methods_of (m n)) k) e ∙ d.declared, d.is_instance))
        (λ p. inr (p.0, p.1, record { home = d.home; on_chain = p.2; method = d.method; declared = d.declared; is_instance = d.is_instance }))
        (chain_cases d.on_chain)

  -- c has a superclass, which is no interface, and no direct superinterfaces
  module _ (c s : Name) (super : superclass_of (m c) ≡ Some s) (bare : interfaces_of (m c) ≡ []) (kind : is_interface (m s) ≡ false) where
    supertypes : supertypes_of (m c) ≡ s ∷ []
    supertypes = ap (λ o. option_to_list o ++ interfaces_of (m c)) super ∙ ap (λ is. s ∷ is) bare

    above_cases : {n : Name} → Above m c n → (s ≡ n) ⊎ Above m s n
    above_cases {n} (above.direct h) = inl (only_in s n (subst (λ l. Contains l n) supertypes h))
    above_cases {n} (above.further {mid} a h) = inr (⊎_elim
        (λ e. above.direct (subst (λ z. Contains (supertypes_of (m z)) n) (sym e) h))
        (λ b. above.further b h)
        (above_cases a))

    above_up : {n : Name} → Above m s n → Above m c n
    above_up (above.direct h) = above.further (above.direct (subst (λ l. Contains l s) (sym supertypes) (head_in s []))) h
    above_up (above.further a h) = above.further (above_up a) h

    module _ (k : Key) where
      no_given : {x : Member} → given_by (m s) k ≡ Some x → ⊥
      no_given e = no_some (sym (ap (λ b. cond b (only_inheritable (member (methods_of (m s)) k)) None) kind) ∙ e)

      candidate_down : (f : Found) → IsCandidate m k c f → IsCandidate m k s f
      candidate_down f i = record {
        above = ⊎_elim (λ e. absurd (no_given (ap (λ n. given_by (m n) k) e ∙ i.given))) (λ a. a) (above_cases i.above);
        given = i.given;
      }

      candidate_up : (f : Found) → IsCandidate m k s f → IsCandidate m k c f
      candidate_up f i = record { above = above_up i.above; given = i.given }

      maximal_down : (f : Found) → IsMaximal m k c f → IsMaximal m k s f
      maximal_down f i = record {
        candidate = candidate_down f i.candidate;
        lowest = λ g j a. i.lowest g (candidate_up g j) a;
      }

      maximal_up : (f : Found) → IsMaximal m k s f → IsMaximal m k c f
      maximal_up f i = record {
        candidate = candidate_up f i.candidate;
        lowest = λ g j a. i.lowest g (candidate_down g j) a;
      }

      only_down : (f : Found) → IsOnly m k c f → IsOnly m k s f
      only_down f i = record {
        maximal = maximal_down f i.maximal;
        concrete = i.concrete;
        only = λ g j e. i.only g (maximal_up g j) e;
      }

      only_up : (f : Found) → IsOnly m k s f → IsOnly m k c f
      only_up f i = record {
        maximal = maximal_up f i.maximal;
        concrete = i.concrete;
        only = λ g j e. i.only g (maximal_down g j) e;
      }

      pub none_below : (a : Name) → SelectsNone m k c a → SelectsNone m k s a × (OwnInstance k c → ⊥)
      none_below a n = (
        record {
          undeclared = λ d. n.undeclared (instance_up k c s super d);
          method = n.method;
          candidate = candidate_down _ n.candidate;
          is_abstract = n.is_abstract;
          least = λ g j e. n.least g (candidate_up g j) e;
          without_body = λ f i. n.without_body f (only_up f i);
        },
        λ o. n.undeclared (instance_own k c o),
      )

      pub none_above : (a : Name) → SelectsNone m k s a → (OwnInstance k c → ⊥) → SelectsNone m k c a
      none_above a n own = record {
        undeclared = λ d. ⊎_elim own (λ p. n.undeclared (subst (λ z. DeclaresInstance m k z) (some_is (sym p.1 ∙ super)) p.2)) (instance_cases k c d);
        method = n.method;
        candidate = candidate_up _ n.candidate;
        is_abstract = n.is_abstract;
        least = λ g j e. n.least g (candidate_down g j) e;
        without_body = λ f i. n.without_body f (only_down f i);
      }

  -- a class without supertypes
  pub none_alone : (k : Key) (c a : Name) → superclass_of (m c) ≡ None → interfaces_of (m c) ≡ [] → SelectsNone m k c a → ⊥
  none_alone k c a super bare n = lonely n.candidate.above
    where
      supertypes_none : supertypes_of (m c) ≡ []
      supertypes_none = ap (λ o. option_to_list o ++ interfaces_of (m c)) super ∙ bare

      lonely : {b : Name} → Above m c b → ⊥
      lonely {b} (above.direct h) = none_in b (subst (λ l. Contains l b) supertypes_none h)
      lonely (above.further a h) = lonely a
