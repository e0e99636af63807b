-- The list of a class from that of its superclass.
use Rattle.std.proofs.Common.{◌≡◌, ◌∙◌, ℕ, ◌<◌, ◌≤◌, zero, suc, Bool, true, false, not, ◌&&◌, cond, is_some, List, [], ◌∷◌, ◌++◌, None, Option, Some, length, refl, sym, ap, subst, ◌⊎◌, inl, inr, ⊎_elim, arith}
use Rattle.std.specs.List.{Contains, filter}
use Rattle.std.specs.Prelude.{slice_get}
use Rattle.std.specs.Option.{option_map_or}
use Rattle.std.proofs.lemmas.Bool.{false≢true}
use Rattle.jc_classes.specs.Facts.{Facts, Key, Member}
use Rattle.jc_classes.specs.MethodLookup.{only_inheritable}
use Rattle.jc_classes.specs.Names.{Name}
use Rattle.jc_classes.specs.Overriding.{IsSuperclass, is_open_to, overridable}
use Rattle.jc_classes.specs.Worlds.{Extends, Stands, World, interfaces_of, is_interface, member, methods_of, superclass_of}
use Rattle.jc_classes.specs.Worlds.{Extends as extends, Stands as stands}
use Rattle.jc_numbered.specs.inside.Indexed.{Indexed, IsGraph, IsIndexed, good_at, indexed_name, rank_at, standing_of, superclass_at}
use Rattle.jc_numbered.specs.inside.Overriding.{overridable_at}
use Rattle.jc_numbered.specs.inside.Picks.{is_interface_at}
use Rattle.jc_numbered.specs.inside.Chain.{ExtendsNode, ExtendsNode as node}
use Rattle.jc_numbered.proofs.lookups.Bridge.{filter_in, filter_out}
use Rattle.jc_numbered.proofs.lookups.Chain.{extends_numbered, super_above, super_falls, super_good, super_is, super_node, super_none}
use Rattle.jc_resolve.specs.declared.unimplemented.Search.{Search}
use Rattle.jc_resolve.proofs.lookups.AbstractLemmas.{get_in, no_body_parts, none_in, split_in}
use Rattle.jc_resolve.proofs.lookups.SearchLemmas.{there_within}
use Rattle.std.proofs.lemmas.List.Elements.{Contains-append_left, Contains-append_right}
use Rattle.jc_classes.specs.Selection.{IsNamed, SelectsNone}
use Rattle.jc_classes.specs.Selection.{IsUnimplemented as lacking}
use Rattle.jc_resolve.specs.declared.abstract_methods.AbstractMethod.{AbstractMethod}
use Rattle.jc_resolve.specs.inside.AbstractMethods.{AreAbstract, AreMethods, key_in, member_in, own_name}
use Rattle.jc_graph.specs.Graph.{successors_of}
use Rattle.jc_resolve.specs.inside.Selection.{declares_at, is_bare, is_open_at}
use Rattle.jc_resolve.specs.inside.Unimplemented.{AreAdded, HasList, IsAboveList, IsClassChain, Lacks, Selected, TellsList, stays_at, stays_number}
use Rattle.jc_resolve.proofs.lookups.InterfaceLemmas.{given_interface}
use Rattle.jc_resolve.proofs.lookups.SelectionLemmas.{instance_no, instance_yes, overridable_same}
use Rattle.jc_resolve.proofs.lookups.SelectionSteps.{OverridesAt, none_above, none_alone, none_below, own_selected, selected_above, selected_below, selected_top}

some_is : {X : Type 0} {a b : X} → Some a ≡ Some b → a ≡ b
some_is e = cc

no_some : {X A : Type 0} {a : X} → None ≡ Some a → A
no_some e = absurd cc

both : (a b : Bool) → (a && b) ≡ true → (a ≡ true) × (b ≡ true)
both true b e = (refl, e)
both false b e = absurd (false≢true e)

not_true : (b : Bool) → not b ≡ true → b ≡ false
not_true true e = absurd (false≢true e)
not_true false e = refl

not_yes : (b : Bool) → (b ≡ true → ⊥) → not b ≡ true
not_yes true n = absurd (n refl)
not_yes false n = refl

yes_or_no : (b : Bool) → (b ≡ true) ⊎ (b ≡ false)
yes_or_no true = inl refl
yes_or_no false = inr refl

same_or_not : (a b : ℕ) → (a ≡ b) ⊎ (a ≡ b → ⊥)
same_or_not zero zero = inl refl
same_or_not zero (suc b) = inr (λ q. absurd (omega arith))
same_or_not (suc a) zero = inr (λ q. absurd (omega arith))
same_or_not (suc a) (suc b) = ⊎_elim (λ q. inl (ap suc q)) (λ q. inr (λ r. q (omega arith))) (same_or_not a b)

option_cases : (o : Option ℕ) → (o ≡ None) ⊎ ((v : ℕ) × (o ≡ Some v))
option_cases None = inl refl
option_cases (Some v) = inr (v, refl)

bare_is : (is : List Name) → is_bare is ≡ true → is ≡ []
bare_is [] e = refl
bare_is (i ∷ is) e = absurd (false≢true e)

-- a class that declares a method has facts
class_of_member : (s : Stands) (k : Key) {y : Member} → only_inheritable (member (methods_of s) k) ≡ Some y → (r : Facts) × (s ≡ stands.Class r)
class_of_member (stands.Class r) k e = (r, refl)
class_of_member stands.Outside k e = no_some e
class_of_member stands.Absent k e = no_some e

module _ (count : ℕ) (x : Indexed) (graph : IsGraph count x) (all : List AbstractMethod) (are : AreAbstract count x all) where
  module _ (m : World) (index : IsIndexed m x) (is_named : IsNamed m) where
    named : (v : ℕ) → v < count → v < length x.names
    named v l = let q = graph.names in omega arith

    -- the class of a method
    pub home_is : (e : AbstractMethod) → Contains all e → e.class.now ≡ indexed_name x e.node
    home_is e h =
        let p = are.sound e h in
        let r = class_of_member (standing_of x e.node) (key_in e) p.1.declared in
        p.1.home ∙ ap own_name r.1 ∙ is_named (indexed_name x e.node) r.0 (index.standing e.node (named e.node p.0) ∙ r.1)

    interface_same : (v : ℕ) → v < count → is_interface (m (indexed_name x v)) ≡ is_interface_at x v
    interface_same v l = ap is_interface (index.standing v (named v l))

    chain_up : (v w : ℕ) → v < count → superclass_at x v ≡ Some w → IsClassChain m (indexed_name x v) → IsClassChain m (indexed_name x w)
    chain_up v w l super chain = λ a h. chain a (extends.through (super_is count x graph m index v w l super) h)

    -- the superclass of a chain of classes is no interface
    super_class : (v w : ℕ) → v < count → superclass_at x v ≡ Some w → IsClassChain m (indexed_name x v) → is_interface (m (indexed_name x w)) ≡ false
    super_class v w l super chain = chain (indexed_name x w) (extends.through (super_is count x graph m index v w l super) extends.itself)

    -- ---- one method, by the kind of its class

    module _ (e : AbstractMethod) (listed : Contains all e) where
      abbrev k : Key
      k = key_in e

      home_in : e.node < count
      home_in = (are.sound e listed).0

      home : e.class.now ≡ indexed_name x e.node
      home = home_is e listed

      kind : is_interface (m e.class.now) ≡ is_interface_at x e.node
      kind = ap (λ n. is_interface (m n)) home ∙ interface_same e.node home_in

      -- a method on a chain of classes is not that of an interface
      of_chain : (c : Name) → IsClassChain m c → Extends m c e.class.now → is_interface_at x e.node ≡ false
      of_chain c chain h = sym kind ∙ chain e.class.now h

      of_given : (c : Name) → SelectsNone m k c e.class.now → is_interface_at x e.node ≡ true
      of_given c n = sym kind ∙ given_interface (m e.class.now) k n.candidate.given

      open_same : (v : ℕ) → (y : Member) → overridable m k e.class.now ≡ Some y → is_open_to (indexed_name x v) e.class.now y ≡ is_open_at x v e
      open_same v y d =
          let is = (are.sound e listed).1 in
          let same : y ≡ is.method = some_is (sym d ∙ ap (overridable m k) home ∙ overridable_same count x graph m index k e.node home_in ∙ is.declared) in
          ap (λ z. is_open_to (indexed_name x v) z y) home ∙ flags_only (indexed_name x v) (indexed_name x e.node) y (member_in e) (ap (λ (z : Member). z.flags) same ∙ sym is.flags)
        where
          flags_only : (c a : Name) (y z : Member) → y.flags ≡ z.flags → is_open_to c a y ≡ is_open_to c a z
          flags_only c a y z f = ap (λ flags. is_open_to c a (record { name = []; descriptor = []; flags = flags })) f

      -- what stays of the methods of the superclass
      module _ (v w : ℕ) (l : v < count) (super : superclass_at x v ≡ Some w) (chain : IsClassChain m (indexed_name x v)) where
        super_named : superclass_of (m (indexed_name x v)) ≡ Some (indexed_name x w)
        super_named = super_is count x graph m index v w l super

        over_no : not (is_some (overridable_at x k v) && is_open_at x v e) ≡ true → OverridesAt m k (indexed_name x v) e.class.now
        over_no stays over under dx dy is_open =
            let there : overridable_at x k v ≡ Some over = sym (overridable_same count x graph m index k v l) ∙ dx in
            false≢true (sym (not_true _ stays) ∙ ap (λ o. is_some o && is_open_at x v e) there ∙ sym (open_same v under dy) ∙ is_open)

        no_over : OverridesAt m k (indexed_name x v) e.class.now → not (is_some (overridable_at x k v) && is_open_at x v e) ≡ true
        no_over not_over = not_yes _ (λ b.
            let p = both _ _ b in
            let o = some_of (overridable_at x k v) p.0 in
            let is = (are.sound e listed).1 in
            let under : overridable m k e.class.now ≡ Some is.method = ap (overridable m k) home ∙ overridable_same count x graph m index k e.node home_in ∙ is.declared in
            not_over o.0 is.method (overridable_same count x graph m index k v l ∙ o.1) under (open_same v is.method under ∙ p.1))
          where
            some_of : (o : Option Member) → is_some o ≡ true → (y : Member) × (o ≡ Some y)
            some_of None q = absurd (false≢true q)
            some_of (Some y) q = (y, refl)

        bare : is_bare (interfaces_of (standing_of x v)) ≡ true → interfaces_of (m (indexed_name x v)) ≡ []
        bare b = ap interfaces_of (index.standing v (named v l)) ∙ bare_is _ b

        pub stays_lacking : stays_at x v e ≡ true → Lacks m (indexed_name x w) e → Lacks m (indexed_name x v) e
        stays_lacking stays (lacking.of_class s) =
            let not_interface = of_chain (indexed_name x w) (chain_up v w l super chain) s.on_chain in
            lacking.of_class (selected_above m k (indexed_name x v) (indexed_name x w) e.class.now super_named s
            (over_no (sym (ap (λ b. cond b (is_bare (interfaces_of (standing_of x v)) && not (declares_at x k v)) (not (is_some (overridable_at x k v) && is_open_at x v e))) not_interface) ∙ stays)))
        stays_lacking stays (lacking.of_interface n) =
            let is_one = of_given (indexed_name x w) n in
            let p = both _ _ (sym (ap (λ b. cond b (is_bare (interfaces_of (standing_of x v)) && not (declares_at x k v)) (not (is_some (overridable_at x k v) && is_open_at x v e))) is_one) ∙ stays) in
            lacking.of_interface (none_above m (indexed_name x v) (indexed_name x w) super_named (bare p.0) (super_class v w l super chain) k e.class.now n
            (instance_no count x graph m index k v l (not_true _ p.1)))

        pub lacking_stays : Lacks m (indexed_name x v) e → (e.node ≡ v → ⊥) → (is_bare (interfaces_of (standing_of x v)) ≡ false → SelectsNone m k (indexed_name x v) e.class.now → ⊥)
            → (stays_at x v e ≡ true) × Lacks m (indexed_name x w) e
        lacking_stays (lacking.of_class s) other apart = ⊎_elim
            (λ q. absurd (other (index.once e.node v (named e.node home_in) (named v l) (sym home ∙ sym q))))
            (λ p. (
              ap (λ b. cond b (is_bare (interfaces_of (standing_of x v)) && not (declares_at x k v)) (not (is_some (overridable_at x k v) && is_open_at x v e)))
                  (of_chain (indexed_name x v) chain s.on_chain) ∙ no_over p.1,
              lacking.of_class p.0,
            ))
            (selected_below m k (indexed_name x v) (indexed_name x w) e.class.now super_named s)
        lacking_stays (lacking.of_interface n) other apart = ⊎_elim
            (λ b.
            let p = none_below m (indexed_name x v) (indexed_name x w) super_named (bare b) (super_class v w l super chain) k e.class.now n in (
              ap (λ z. cond z (is_bare (interfaces_of (standing_of x v)) && not (declares_at x k v)) (not (is_some (overridable_at x k v) && is_open_at x v e)))
                  (of_given (indexed_name x v) n)
                  ∙ ap (λ z. z && not (declares_at x k v)) b
                  ∙ not_yes _ (λ d. p.1 (instance_yes count x graph m index k v l d)),
              lacking.of_interface p.0,
            ))
            (λ b. absurd (apart b n))
            (yes_or_no (is_bare (interfaces_of (standing_of x v))))

      -- a class without a superclass
      pub lacking_top : (v : ℕ) → v < count → superclass_at x v ≡ None → Lacks m (indexed_name x v) e → (e.node ≡ v → ⊥)
          → (is_bare (interfaces_of (standing_of x v)) ≡ false → SelectsNone m k (indexed_name x v) e.class.now → ⊥) → ⊥
      lacking_top v l super (lacking.of_class s) other apart =
          let q = selected_top m k (indexed_name x v) e.class.now (super_none count x graph m index v l super) s in
          other (index.once e.node v (named e.node home_in) (named v l) (sym home ∙ sym q))
      lacking_top v l super (lacking.of_interface n) other apart = ⊎_elim
          (λ b. none_alone m k (indexed_name x v) e.class.now (super_none count x graph m index v l super) (ap interfaces_of (index.standing v (named v l)) ∙ bare_is _ b) n)
          (λ b. apart b n)
          (yes_or_no (is_bare (interfaces_of (standing_of x v))))

      -- the method of the class itself
      pub own_lacking : (v : ℕ) → v < count → (IsSuperclass m (indexed_name x v) (indexed_name x v) → ⊥) → e.node ≡ v → Lacks m (indexed_name x v) e
      own_lacking v l acyclic same =
          let is = (are.sound e listed).1 in
          let at : e.class.now ≡ indexed_name x v = home ∙ ap (indexed_name x) same in
          let declared : overridable m k (indexed_name x v) ≡ Some is.method = overridable_same count x graph m index k v l ∙ ap (overridable_at x k) (sym same) ∙ is.declared in
          subst (λ a. lacking m k (indexed_name x v) a) (sym at) (lacking.of_class (own_selected m k (indexed_name x v) is.method acyclic declared (no_body_parts k is.method is.no_body).1))

module _ (count : ℕ) (x : Indexed) (graph : IsGraph count x) where
  rank_falls : {v w : ℕ} → good_at x v ≡ true → ExtendsNode x v w → rank_at x w ≤ rank_at x v
  rank_falls g node.itself = omega arith
  rank_falls {v} {w} g (node.through {s = s} e h) =
      let a = super_falls count x graph v s g e in
      let b = rank_falls (super_good count x graph v s g e) h in
      omega arith

  -- no class is a superclass of itself
  acyclic : (m : World) → IsIndexed m x → (v : ℕ) → v < count → good_at x v ≡ true → IsSuperclass m (indexed_name x v) (indexed_name x v) → ⊥
  acyclic m index v l g above =
      let p = super_above count x graph m index v above.0 l above.1 in
      let h = extends_numbered count x graph m index above.0 (indexed_name x v) above.2 p.0 v (super_node count x graph v p.0 p.1) l p.2 refl in
      let a = super_falls count x graph v p.0 g p.1 in
      let b = rank_falls (super_good count x graph v p.0 g p.1) h in
      omega arith

  -- the list of a class
  module _ (s : Search) (are : AreAbstract count x s.methods.all.items) (v : ℕ) (l : v < count) (g : good_at x v ≡ true) (inherited added : List ℕ)
      (none : superclass_at x v ≡ None → inherited ≡ []) (some : (w : ℕ) → superclass_at x v ≡ Some w → TellsList x s.methods.all.items w inherited) (adds : AreAdded x v s added) where
    abbrev all : List AbstractMethod
    all = s.methods.all.items

    abbrev list : List ℕ
    list = added ++ filter (stays_number x v all) inherited

    stays_there : (i : ℕ) → stays_number x v all i ≡ true → (e : AbstractMethod) × (slice_get all i ≡ Some e) × (stays_at x v e ≡ true)
    stays_there i e = by (slice_get all i) refl e
      where
        by : (o : Option AbstractMethod) → slice_get all i ≡ o → option_map_or (stays_at x v) o false ≡ true → (e : AbstractMethod) × (slice_get all i ≡ Some e) × (stays_at x v e ≡ true)
        by None q f = absurd (false≢true f)
        by (Some e) q f = (e, q, f)

    stays_of : (i : ℕ) (e : AbstractMethod) → slice_get all i ≡ Some e → stays_at x v e ≡ true → stays_number x v all i ≡ true
    stays_of i e there stays = ap (λ o. option_map_or (stays_at x v) o false) there ∙ stays

    list_within : (i : ℕ) → Contains list i → i < length all
    list_within i h = ⊎_elim
        (λ o. ⊎_elim (λ p. there_within all i p.0 p.1) (λ p. there_within all i p.0 p.1) (adds.sound i o))
        (λ o. let p = stays_there i (filter_out (stays_number x v all) inherited i o).1 in there_within all i p.0 p.1)
        (split_in added (filter (stays_number x v all) inherited) i h)

    module _ (m : World) (index : IsIndexed m x) (is_named : IsNamed m) (chain : IsClassChain m (indexed_name x v)) (i : ℕ) (e : AbstractMethod) (there : slice_get all i ≡ Some e) where
      listed : Contains all e
      listed = get_in all i e there

      own_home : e.class.now ≡ indexed_name x e.node
      own_home = home_is count x graph all are m index is_named e listed

      selected_lacking : Selected x v all i → Lacks m (indexed_name x v) e
      selected_lacking sel =
          let same : sel.0 ≡ e = some_is (sym sel.1 ∙ there) in
          let n : SelectsNone m (key_in e) (indexed_name x v) (indexed_name x e.node) = subst (λ (z : AbstractMethod). SelectsNone m (key_in z) (indexed_name x v) (indexed_name x z.node)) same (sel.2 m index) in
          lacking.of_interface (subst (λ a. SelectsNone m (key_in e) (indexed_name x v) a) (sym own_home) n)

      list_sound : Contains list i → Lacks m (indexed_name x v) e
      list_sound h = ⊎_elim
          (λ o. ⊎_elim
          (λ p. own_lacking count x graph all are m index is_named e listed v l (acyclic m index v l g)
          (ap (λ (z : AbstractMethod). z.node) (some_is (sym there ∙ p.1)) ∙ p.2))
          selected_lacking
          (adds.sound i o))
          (λ o.
          let q = filter_out (stays_number x v all) inherited i o in
          let p = stays_there i q.1 in
          let stays : stays_at x v e ≡ true = ap (stays_at x v) (some_is (sym there ∙ p.1)) ∙ p.2 in
          ⊎_elim
          (λ top. none_in i (subst (λ z. Contains z i) (none top) q.0))
          (λ super. stays_lacking count x graph all are m index is_named e listed v super.0 l super.1 chain stays
          ((some super.0 super.1).sound m index is_named (chain_up count x graph all are m index is_named v super.0 l super.1 chain) i e there q.0))
          (option_cases (superclass_at x v)))
          (split_in added (filter (stays_number x v all) inherited) i h)

      selected_added : is_bare (interfaces_of (standing_of x v)) ≡ false → SelectsNone m (key_in e) (indexed_name x v) e.class.now → Contains added i
      selected_added b n = adds.others b m index i e there (subst (λ a. SelectsNone m (key_in e) (indexed_name x v) a) own_home n)

      in_added : Contains added i → Contains list i
      in_added h = Contains-append_left added (filter (stays_number x v all) inherited) i h

      in_inherited : Contains inherited i → stays_at x v e ≡ true → Contains list i
      in_inherited h stays = Contains-append_right added (filter (stays_number x v all) inherited) i (filter_in (stays_number x v all) inherited i h (stays_of i e there stays))

      -- a method of another class, which is not added
      kept_complete : Lacks m (indexed_name x v) e → (e.node ≡ v → ⊥) → (is_bare (interfaces_of (standing_of x v)) ≡ false → SelectsNone m (key_in e) (indexed_name x v) e.class.now → ⊥) → Contains list i
      kept_complete lacks other apart = ⊎_elim
          (λ top. absurd (lacking_top count x graph all are m index is_named e listed v l top lacks other apart))
          (λ super.
          let p = lacking_stays count x graph all are m index is_named e listed v super.0 l super.1 chain lacks other apart in
          in_inherited ((some super.0 super.1).complete m index is_named (chain_up count x graph all are m index is_named v super.0 l super.1 chain) i e there p.1) p.0)
          (option_cases (superclass_at x v))

      list_complete : Lacks m (indexed_name x v) e → Contains list i
      list_complete lacks = ⊎_elim
          (λ same. in_added (adds.own i e there same))
          (λ other. ⊎_elim
          (λ bare. kept_complete lacks other (λ b. absurd (false≢true (sym b ∙ bare))))
          (λ b. by_kind lacks other b)
          (yes_or_no (is_bare (interfaces_of (standing_of x v)))))
          (same_or_not e.node v)
        where
          by_kind : Lacks m (indexed_name x v) e → (e.node ≡ v → ⊥) → is_bare (interfaces_of (standing_of x v)) ≡ false → Contains list i
          by_kind (lacking.of_interface n) other b = in_added (selected_added b n)
          by_kind (lacking.of_class sel) other b =
              kept_complete (lacking.of_class sel) other (λ c n. false≢true (sym (of_chain count x graph all are m index is_named e listed (indexed_name x v) chain sel.on_chain)
              ∙ of_given count x graph all are m index is_named e listed (indexed_name x v) n))

    pub tells_step : TellsList x all v list
    tells_step = record {
      within = list_within;
      sound = λ m index is_named chain i e there h. list_sound m index is_named chain i e there h;
      complete = λ m index is_named chain i e there h. list_complete m index is_named chain i e there h;
    }

-- the list that was found from that of the superclass
pub step_list : (count : ℕ) (x : Indexed) → IsGraph count x → (old new : Search) → new.methods ≡ old.methods → AreMethods count x old.methods → (v : ℕ) → v < count → good_at x v ≡ true
    → (above : ℕ) → IsAboveList x v old above → (added : List ℕ) → AreAdded x v old added → (number : ℕ)
    → (number < length new.lists.items) × (successors_of new.lists.items number ≡ added ++ filter (stays_number x v old.methods.all.items) (successors_of old.lists.items above))
    → HasList x v new number
step_list count x graph old new methods are v l g above is added adds number list =
    let inherited = successors_of old.lists.items above in
    let told : TellsList x old.methods.all.items v (added ++ filter (stays_number x v old.methods.all.items) inherited) = tells_step count x graph old are.all v l g inherited added is.none is.some adds in (
      list.0,
      subst (λ z. TellsList x z.all.items v (successors_of new.lists.items number)) (sym methods)
          (subst (TellsList x old.methods.all.items v) (sym list.1) told),
    )
