-- The methods without a body of concrete classes, from the lists of a search.
use Rattle.std.proofs.Common.{◌≡◌, ◌∙◌, ℕ, ◌<◌, zero, suc, Bool, true, false, cond, List, [], ◌∷◌, ◌++◌, None, Some, length, map, refl, sym, ap, subst, ◌⊎◌, inl, inr, ⊎_elim, arith}
use Rattle.std.specs.List.{All, AllByRecursion, Contains}
use Rattle.std.specs.List.Sorted.{IsStrictlySortedBy}
use Rattle.std.specs.Ordering.{nat_cmp, ordering_then}
use Rattle.std.specs.Prelude.{slice_get}
use Rattle.std.specs.Cmp.{Equal-is}
use Rattle.std.proofs.lemmas.Cmp.{eq_by_cmp_equiv, nat_cmp_total, ranked}
use Rattle.std.specs.declared.cmp.Ordering.{Ordering}
use Rattle.std.specs.declared.cmp.Ordering.TheVariants.{Less, Equal, Greater}
use Rattle.std.specs.FinMap.{nat_cmp-IsAntisymmetric, slice_cmp-IsAntisymmetric}
use Rattle.std.proofs.lemmas.Bool.{false≢true}
use Rattle.jc_file.specs.AccessFlags.{abstract, has}
use Rattle.jc_classes.specs.Facts.{Key, Member}
use Rattle.jc_classes.specs.Inheritance.{Inherited}
use Rattle.jc_classes.specs.Loading.{Load, LoadEach, Loading, Supertype, can_see, judged_supertype, same_bool}
use Rattle.jc_classes.specs.declared.linkage_error.LinkageError.{LinkageError}
use Rattle.std.specs.Option.{option_map_or, option_to_list}
use Rattle.jc_resolve.proofs.loading.Goods.{Loadable, loaded_inv, not_loaded, outside_only}
use Rattle.jc_classes.specs.Loading.{LoadEach as each, Loading as loading}
use Rattle.jc_classes.specs.MethodLookup.{given_by, only_inheritable}
use Rattle.jc_classes.specs.Names.{Name, name_cmp}
use Rattle.jc_classes.specs.Overriding.{overridable}
use Rattle.jc_classes.specs.Resolution.{IsOutsideAbove}
use Rattle.jc_classes.specs.Worlds.{Above, Extends, Stands, World, interfaces_of, is_interface, member, methods_of, superclass_of, supertypes_of}
use Rattle.jc_classes.specs.Worlds.{Above as above, Extends as extends, Stands as stands}
use Rattle.jc_numbered.specs.inside.Indexed.{Indexed, IsGraph, IsIndexed, indexed_name}
use Rattle.jc_numbered.specs.inside.Overriding.{overridable_at}
use Rattle.jc_numbered.proofs.lookups.Bridge.{above_numbered, node_in}
use Rattle.jc_numbered.proofs.lookups.Chain.{super_above, super_node}
use Rattle.jc_resolve.specs.Methods.{AreWithin, inherited_of, method_at, methods_in}
use Rattle.jc_graph.specs.Graph.{successors_of}
use Rattle.std.specs.declared.alloc.Global.{Global}
use Rattle.std.specs.declared.vec.Vec.{Vec}
use Rattle.jc_resolve.specs.declared.unimplemented.Search.{Search}
use Rattle.jc_resolve.proofs.lookups.SearchLemmas.{list_kept}
use Rattle.jc_classes.specs.Selection.{AreUnimplemented, EachUnimplemented, IsConcrete, IsNamed, IsUnimplemented, inherited_cmp, is_callable}
use Rattle.jc_classes.specs.Selection.{IsUnimplemented as lacking}
use Rattle.jc_resolve.specs.declared.abstract_methods.AbstractMethod.{AbstractMethod}
use Rattle.jc_resolve.specs.inside.AbstractMethods.{AreAbstract, entry_cmp, key_in}
use Rattle.jc_resolve.specs.inside.Unimplemented.{AreInOrder, ExtendsLists, HasList, IsClassChain, IsEmptyFor, IsInOrder, IsSearch, Lacks, ListFor, ListsFor, TellsList}
use Rattle.jc_resolve.proofs.lookups.AbstractLemmas.{get_in, no_body_of, no_body_parts, none_in}
use Rattle.std.proofs.lemmas.List.Elements.{All-head, All-tail, Contains-append_right}
use Rattle.jc_resolve.proofs.lookups.ListSteps.{home_is}
use Rattle.jc_resolve.proofs.lookups.SelectionLemmas.{overridable_same}

some_is : {X : Type 0} {a b : X} → Some a ≡ Some b → a ≡ b
some_is e = cc

no_some : {X A : Type 0} {a : X} → None ≡ Some a → A
no_some e = absurd cc

-- ---- the superclasses of a concrete class are classes

first_passes : {m : World} {n : Name} (p : Supertype) (ps : List Supertype) {a : Loading} → LoadEach m n (p ∷ ps) a → a ≡ loading.Loaded
    → (b : Loading) × Load m p.name b × (judged_supertype m n p b ≡ None)
first_passes {m} {n} p ps (each.stops {a = a} h e) q = absurd (not_loaded m n p a (e ∙ ap Some q))
first_passes {m} {n} p ps (each.passes {a = a} h e rest) q = (a, h, e)

super_passes : (m : World) (n s : Name) → Loadable m n → superclass_of (m n) ≡ Some s
    → (b : Loading) × Load m s b × (judged_supertype m n (record { is_class = true; name = s }) b ≡ None)
super_passes m n s is e =
    let own : is.class.superclass ≡ Some s = sym (ap superclass_of is.record_is) ∙ e in
    first_passes (record { is_class = true; name = s }) (map (λ i. record { is_class = false; name = i }) is.class.interfaces)
    (subst (λ o. LoadEach m n (option_map_or (λ z. record { is_class = true; name = z } ∷ []) o [] ++ map (λ i. record { is_class = false; name = i }) is.class.interfaces) loading.Loaded) own is.each) refl

module _ (m : World) where
  class_is : (b : Bool) → same_bool b true ≡ false → b ≡ false
  class_is true e = absurd (false≢true (sym e))
  class_is false e = refl

  class_or_outside : (n s : Name) (b : Loading) → Load m s b → judged_supertype m n (record { is_class = true; name = s }) b ≡ None
      → (Load m s loading.Loaded × (is_interface (m s) ≡ false)) ⊎ (m s ≡ stands.Outside)
  class_or_outside n s loading.Loaded h e = inl (h, by (can_see n s (m s)) (same_bool (is_interface (m s)) true) refl e)
    where
      by : (sees wrong : Bool) → same_bool (is_interface (m s)) true ≡ wrong
          → cond sees (cond wrong (Some (loading.Fails LinkageError.Incompatible s)) None) (Some (loading.Fails LinkageError.IllegalAccess s)) ≡ None → is_interface (m s) ≡ false
      by true true q f = absurd cc
      by true false q f = class_is (is_interface (m s)) q
      by false wrong q f = absurd cc
  class_or_outside n s loading.Outside h e = inr (outside_only h refl)
  class_or_outside n s (loading.Fails f x) h e = absurd cc

  super_in : (n s : Name) → superclass_of (m n) ≡ Some s → Contains (supertypes_of (m n)) s
  super_in n s e = subst (λ o. Contains (option_to_list o ++ interfaces_of (m n)) s) (sym e) (zero, omega arith, refl)

  above_through : {n s a : Name} → superclass_of (m n) ≡ Some s → Above m s a → Above m n a
  above_through {n} {s} e (above.direct h) = above.further (above.direct (super_in n s e)) h
  above_through e (above.further a h) = above.further (above_through e a) h

  chain_of : (n a : Name) → Load m n loading.Loaded → is_interface (m n) ≡ false → ((j : Name) → IsOutsideAbove m n j → ⊥) → Extends m n a → is_interface (m a) ≡ false
  chain_of n a h kind known extends.itself = kind
  chain_of n a h kind known (extends.through {s = s} e more) =
      let p = super_passes m n s (loaded_inv h refl) e in
      ⊎_elim
      (λ q. chain_of s a q.0 q.1 (λ j out. known j (record { above = above_through e out.above; outside = out.outside })) more)
      (λ out. absurd (known s (record { above = above.direct (super_in n s e); outside = out })))
      (class_or_outside n s p.0 p.1 p.2)

  pub class_chain : (n : Name) → IsConcrete m n → IsClassChain m n
  class_chain n c = λ a h. chain_of n a c.loads c.is_class c.known h

-- ---- the list of ABSTRACT methods has each method without a body

only_given : (s : Stands) (k : Key) {y : Member} → given_by s k ≡ Some y → only_inheritable (member (methods_of s) k) ≡ Some y
only_given s k {y} e = by (is_interface s) e
  where
    by : (b : Bool) → cond b (only_inheritable (member (methods_of s) k)) None ≡ Some y → only_inheritable (member (methods_of s) k) ≡ Some y
    by true q = q
    by false q = no_some q

module _ (count : ℕ) (x : Indexed) (graph : IsGraph count x) (all : List AbstractMethod) (are : AreAbstract count x all) (m : World) (index : IsIndexed m x) (is_named : IsNamed m) where
  chain_node : {n a : Name} → Extends m n a → (v : ℕ) → v < count → indexed_name x v ≡ n → (w : ℕ) × (w < count) × (indexed_name x w ≡ a)
  chain_node extends.itself v l e = (v, l, e)
  chain_node {n} {a} (extends.through {s = s} f h) v l e =
      let p = super_above count x graph m index v s l (ap (λ z. superclass_of (m z)) e ∙ f) in
      chain_node h p.0 (super_node count x graph v p.0 p.1) p.2

  listed : (k : Key) (w : ℕ) (a : Name) (y : Member) → w < count → indexed_name x w ≡ a → overridable m k a ≡ Some y → is_callable k ≡ true → has y.flags abstract ≡ true
      → (e : AbstractMethod) × Contains all e × (inherited_of e ≡ record { home = a; key = k })
  listed k w a y l e d called f =
      let h = are.complete w k y l (sym (overridable_same count x graph m index k w l) ∙ ap (overridable m k) e ∙ d) (no_body_of k y called f) in
      let home = home_is count x graph all are m index is_named h.0 h.1 ∙ ap (indexed_name x) h.2 ∙ e in
      (h.0, h.1, ap (λ n. record { home = n; key = key_in h.0 }) home ∙ ap (λ z. record { home = a; key = z }) h.3)

  pub lacking_listed : (v : ℕ) → v < count → (k : Key) (a : Name) → is_callable k ≡ true → IsUnimplemented m k (indexed_name x v) a
      → (e : AbstractMethod) × Contains all e × (inherited_of e ≡ record { home = a; key = k })
  lacking_listed v l k a called (lacking.of_class s) =
      let p = chain_node s.on_chain v l refl in
      listed k p.0 a s.method p.1 p.2 s.declared called s.is_abstract
  lacking_listed v l k a called (lacking.of_interface n) =
      let p = above_numbered m count x graph index l n.candidate.above in
      listed k p.0 a n.method (node_in m count x graph index p.1) p.2 (only_given (m a) k n.candidate.given) called n.is_abstract

-- ---- order

each_below : {X : Type 0} (c : X → X → Ordering) (x : X) (ys : List X) → AllByRecursion (λ y. c x y ≡ Less) ys → (j : ℕ) (b : X) → slice_get ys j ≡ Some b → c x b ≡ Less
each_below c x [] h j b e = no_some e
each_below c x (y ∷ ys) h zero b e = subst (λ z. c x z ≡ Less) (some_is e) h.0
each_below c x (y ∷ ys) h (suc j) b e = each_below c x ys h.1 j b e

sorted_get : {X : Type 0} (c : X → X → Ordering) (xs : List X) → IsStrictlySortedBy c xs → (i j : ℕ) (a b : X) → slice_get xs i ≡ Some a → slice_get xs j ≡ Some b → i < j → c a b ≡ Less
unfolding IsStrictlySortedBy
sorted_get c [] s i j a b e f l = no_some e
sorted_get c (x ∷ xs) s i zero a b e f l = absurd (omega (arith, l))
sorted_get c (x ∷ xs) s zero (suc j) a b e f l = subst (λ z. c z b ≡ Less) (some_is e) (each_below c x xs s.0 j b f)
sorted_get c (x ∷ xs) s (suc i) (suc j) a b e f l = sorted_get c xs s.1 i j a b e f (omega (arith, l))

same_bytes : (a b : Name) → name_cmp a b ≡ Equal → a ≡ b
same_bytes a b e = slice_cmp-IsAntisymmetric nat_cmp-IsAntisymmetric a b e

method_is : (all : List AbstractMethod) (i : ℕ) (e : AbstractMethod) → slice_get all i ≡ Some e → method_at all i ≡ inherited_of e
method_is [] i e h = no_some h
method_is (a ∷ all) zero e h = ap inherited_of (some_is h)
method_is (a ∷ all) (suc i) e h = method_is all i e h

-- the order of entries, without their nodes and flags
front_less : (a b d e : Ordering) → ordering_then a (ordering_then b (ordering_then d e)) ≡ Less → (a ≡ Equal → b ≡ Equal → d ≡ Equal → e ≡ Less → ⊥)
    → ordering_then (ordering_then a b) d ≡ Less
front_less Less b d e h n = refl
front_less Equal Less d e h n = refl
front_less Equal Equal Less e h n = refl
front_less Equal Equal Equal e h n = absurd (n refl refl refl h)
front_less Equal Equal Greater e h n = absurd cc
front_less Equal Greater d e h n = absurd cc
front_less Greater b d e h n = absurd cc

same_not_less : (n k : ℕ) → ordering_then (nat_cmp n n) (nat_cmp k k) ≡ Less → ⊥
same_not_less n k e = less_equal (nat_cmp n n) (nat_cmp k k) (cmp_same n) (cmp_same k) e
  where
    cmp_same : (n : ℕ) → nat_cmp n n ≡ Equal
    cmp_same n = (Equal-is (nat_cmp n n)).0 ((eq_by_cmp_equiv nat_cmp_total).refl n)

    less_equal : (a b : Ordering) → a ≡ Equal → b ≡ Equal → ordering_then a b ≡ Less → ⊥
    less_equal a b e f h = absurd (let q = sym (ap (λ z. ordering_then z b) e ∙ f) ∙ h in cc)

module _ (count : ℕ) (x : Indexed) (graph : IsGraph count x) (all : List AbstractMethod) (are : AreAbstract count x all) (rises : IsStrictlySortedBy entry_cmp all)
    (m : World) (index : IsIndexed m x) (is_named : IsNamed m) where
  entries_less : (a b : AbstractMethod) → Contains all a → Contains all b → entry_cmp a b ≡ Less → inherited_cmp (inherited_of a) (inherited_of b) ≡ Less
  entries_less a b ha hb h = front_less (name_cmp a.name.now b.name.now) (name_cmp a.descriptor.now b.descriptor.now) (name_cmp a.class.now b.class.now) _ h
      (λ n d c rest.
      let class = same_bytes a.class.now b.class.now c in
      let pa = are.sound a ha in
      let pb = are.sound b hb in
      let la : a.node < length x.names = let q = graph.names in let l = pa.0 in omega (arith, l, q) in
      let lb : b.node < length x.names = let q = graph.names in let l = pb.0 in omega (arith, l, q) in
      let node : a.node ≡ b.node = index.once a.node b.node la lb
      (sym (home_is count x graph all are m index is_named a ha) ∙ class ∙ home_is count x graph all are m index is_named b hb) in
      let key : key_in a ≡ key_in b = ap (λ z. record { name = z; descriptor = a.descriptor.now }) (same_bytes a.name.now b.name.now n)
      ∙ ap (λ z. record { name = b.name.now; descriptor = z }) (same_bytes a.descriptor.now b.descriptor.now d) in
      let method = some_is (sym pa.1.declared ∙ ap (λ k. overridable_at x k a.node) key ∙ ap (overridable_at x (key_in b)) node ∙ pb.1.declared) in
      let flags : a.flags ≡ b.flags = pa.1.flags ∙ ap (λ (z : Member). z.flags) method ∙ sym pb.1.flags in
      same_not_less b.node b.flags (subst (λ z. ordering_then (nat_cmp z b.node) (nat_cmp b.flags b.flags) ≡ Less) node
      (subst (λ z. ordering_then (nat_cmp a.node b.node) (nat_cmp z b.flags) ≡ Less) flags rest)))

  numbers_less : (i j : ℕ) → i < length all → j < length all → nat_cmp i j ≡ Less → inherited_cmp (method_at all i) (method_at all j) ≡ Less
  numbers_less i j li lj h =
      let a = entry_of all i li in
      let b = entry_of all j lj in
      subst (λ z. inherited_cmp z (method_at all j) ≡ Less) (sym (method_is all i a.0 a.1))
      (subst (λ z. inherited_cmp (inherited_of a.0) z ≡ Less) (sym (method_is all j b.0 b.1))
      (entries_less a.0 b.0 (get_in all i a.0 a.1) (get_in all j b.0 b.1) (sorted_get entry_cmp all rises i j a.0 b.0 a.1 b.1 (lt_of i j h))))
    where
      entry_of : (xs : List AbstractMethod) (i : ℕ) → i < length xs → (e : AbstractMethod) × (slice_get xs i ≡ Some e)
      entry_of [] i l = absurd (omega (arith, l))
      entry_of (e ∷ xs) zero l = (e, refl)
      entry_of (e ∷ xs) (suc i) l = entry_of xs i (omega (arith, l))

      lt_of : (i j : ℕ) → nat_cmp i j ≡ Less → i < j
      lt_of i j h = ranked i j Less (sym h)

  each_less : (i : ℕ) (js : List ℕ) → i < length all → ((j : ℕ) → Contains js j → j < length all) → AllByRecursion (λ j. nat_cmp i j ≡ Less) js
      → AllByRecursion (λ z. inherited_cmp (method_at all i) z ≡ Less) (map (method_at all) js)
  each_less i [] l w h = tt
  each_less i (j ∷ js) l w h = (numbers_less i j l (w j (zero, omega arith, refl)) h.0, each_less i js l (λ k c. w k (Contains-append_right (j ∷ []) js k c)) h.1)

  methods_rise : (is : List ℕ) → ((j : ℕ) → Contains is j → j < length all) → IsStrictlySortedBy nat_cmp is → IsStrictlySortedBy inherited_cmp (map (method_at all) is)
  unfolding IsStrictlySortedBy
  methods_rise [] w h = tt
  methods_rise (i ∷ is) w h = (each_less i is (w i (zero, omega arith, refl)) (λ k c. w k (Contains-append_right (i ∷ []) is k c)) h.0, methods_rise is (λ k c. w k (Contains-append_right (i ∷ []) is k c)) h.1)

  map_there : (is : List ℕ) (z : Inherited) → Contains (map (method_at all) is) z → (i : ℕ) × Contains is i × (method_at all i ≡ z)
  map_there [] z h = none_in z h
  map_there (i ∷ is) z (zero, l, e) = (i, (zero, omega arith, refl), e)
  map_there (i ∷ is) z (suc k, l, e) = let p = map_there is z (k, omega (arith, l), e) in (p.0, Contains-append_right (i ∷ []) is p.0 p.1, p.2)

  map_here : (is : List ℕ) (i : ℕ) → Contains is i → Contains (map (method_at all) is) (method_at all i)
  map_here [] i h = none_in i h
  map_here (j ∷ is) i (zero, l, e) = (zero, omega arith, ap (method_at all) e)
  map_here (j ∷ is) i (suc k, l, e) = Contains-append_right (method_at all j ∷ []) (map (method_at all) is) (method_at all i) (map_here is i (k, omega (arith, l), e))

  place_of : (xs : List AbstractMethod) (e : AbstractMethod) → Contains xs e → (i : ℕ) × (slice_get xs i ≡ Some e)
  place_of [] e h = none_in e h
  place_of (a ∷ xs) e (zero, l, q) = (0, ap Some q)
  place_of (a ∷ xs) e (suc k, l, q) = let p = place_of xs e (k, omega (arith, l), q) in (suc p.0, p.1)

  -- the list of a concrete class
  pub concrete_list : (v : ℕ) → v < count → IsConcrete m (indexed_name x v) → (old new : List ℕ) → TellsList x all v old → IsInOrder old new
      → AreUnimplemented m (indexed_name x v) (map (method_at all) new)
  concrete_list v l concrete old new tells order =
      let chain = class_chain m (indexed_name x v) concrete in
      let within = λ (j : ℕ) (h : Contains new j). tells.within j (order.sound j h) in
      record {
        rises = methods_rise new within order.rises;
        sound = λ z h.
            let p = map_there new z h in
            let e = entry_at all p.0 (within p.0 p.1) in
            let own = (are.sound e.0 (get_in all p.0 e.0 e.1)).1 in
            let is : inherited_of e.0 ≡ z = sym (method_is all p.0 e.0 e.1) ∙ p.2 in (
              concrete,
              ap (λ (i : Inherited). is_callable i.key) (sym is) ∙ (no_body_parts (key_in e.0) own.method own.no_body).0,
              subst (λ (i : Inherited). IsUnimplemented m i.key (indexed_name x v) i.home) is (tells.sound m index is_named chain p.0 e.0 e.1 (order.sound p.0 p.1)),
            );
        complete = λ z c called lacks.
            let e = lacking_listed count x graph all are m index is_named v l z.key z.home called lacks in
            let p = place_of all e.0 e.1 in
            let own : Lacks m (indexed_name x v) e.0 = subst (λ (i : Inherited). IsUnimplemented m i.key (indexed_name x v) i.home) (sym e.2) lacks in
            subst (Contains (map (method_at all) new)) (method_is all p.0 e.0 p.1 ∙ e.2) (map_here new p.0 (order.kept p.0 (tells.complete m index is_named chain p.0 e.0 p.1 own)));
      }
    where
      entry_at : (xs : List AbstractMethod) (i : ℕ) → i < length xs → (e : AbstractMethod) × (slice_get xs i ≡ Some e)
      entry_at [] i l = absurd (omega (arith, l))
      entry_at (e ∷ xs) zero l = (e, refl)
      entry_at (e ∷ xs) (suc i) l = entry_at xs i (omega (arith, l))

  -- the list of another class
  pub other_list : (v : ℕ) → ((z : Inherited) → IsConcrete m (indexed_name x v) → is_callable z.key ≡ true → IsUnimplemented m z.key (indexed_name x v) z.home → ⊥)
      → (new : List ℕ) → new ≡ [] → AreUnimplemented m (indexed_name x v) (map (method_at all) new)
  unfolding IsStrictlySortedBy
  other_list v never new none = subst (λ z. AreUnimplemented m (indexed_name x v) (map (method_at all) z)) (sym none) (record {
    rises = tt;
    sound = λ z h. none_in z h;
    complete = λ z c called lacks. absurd (never z c called lacks);
  })

-- ---- many classes

module _ (count : ℕ) (x : Indexed) where
  list_for_kept : (old new : Search) → ExtendsLists old new → (v i : ℕ) → ListFor x old v i → ListFor x new v i
  list_for_kept old new e v i h = ⊎_elim
      (λ p. inl (list_kept x v old new i e p.0, p.1))
      (λ (p : IsEmptyFor x old v i). inr (record {
        within = let l = p.within in let q = e.more in omega (arith, l, q);
        empty = e.same i p.within ∙ p.empty;
        right = ⊎_elim (λ list. inl (list_kept x v old new i e list)) inr p.right;
      }))
      h

  pub lists_for_kept : (old new : Search) → ExtendsLists old new → (vs is : List ℕ) → ListsFor x old vs is → ListsFor x new vs is
  lists_for_kept old new e [] [] h = tt
  lists_for_kept old new e (v ∷ vs) (i ∷ is) h = (list_for_kept old new e v i h.0, lists_for_kept old new e vs is h.1)
  lists_for_kept old new e [] (i ∷ is) h = absurd h
  lists_for_kept old new e (v ∷ vs) [] h = absurd h

  pub lists_for_on : (s : Search) (vs is : List ℕ) (v i : ℕ) → ListsFor x s vs is → ListFor x s v i → ListsFor x s (vs ++ v ∷ []) (is ++ i ∷ [])
  lists_for_on s [] [] v i h one = (one, tt)
  lists_for_on s (w ∷ vs) (j ∷ is) v i h one = (h.0, lists_for_on s vs is v i h.1 one)
  lists_for_on s [] (j ∷ is) v i h one = absurd h
  lists_for_on s (w ∷ vs) [] v i h one = absurd h

  one_within : (s : Search) → IsSearch count x s → (v n : ℕ) → ListFor x s v n → (i : ℕ) → Contains (successors_of s.lists.items n) i → i < length s.methods.all.items
  one_within s is v n h i c = ⊎_elim
      (λ p. p.0.1.within i c)
      (λ (p : IsEmptyFor x s v n). none_in i (subst (λ z. Contains z i) p.empty c))
      h

  pub lists_within : (s : Search) → IsSearch count x s → (vs ns : List ℕ) → ListsFor x s vs ns → AreWithin s.methods.all.items s.lists.items ns
  lists_within s is [] [] h n i c = none_in n c
  lists_within s is (v ∷ vs) (k ∷ ns) h n i (zero, l, e) = λ d. one_within s is v k h.0 i (subst (λ z. Contains (successors_of s.lists.items z) i) (sym e) d)
  lists_within s is (v ∷ vs) (k ∷ ns) h n i (suc j, l, e) = lists_within s is vs ns h.1 n i (j, omega (arith, l), e)
  lists_within s is [] (k ∷ ns) h n i c = absurd h
  lists_within s is (v ∷ vs) [] h n i c = absurd h

  module _ (graph : IsGraph count x) (s : Search) (is : IsSearch count x s) (lists : List (Vec ℕ Global)) (order : AreInOrder s.lists.items lists)
      (m : World) (index : IsIndexed m x) (is_named : IsNamed m) where
    one_unimplemented : (v n : ℕ) → v < count → ListFor x s v n → AreUnimplemented m (indexed_name x v) (methods_in s.methods.all.items lists n)
    one_unimplemented v n l h = ⊎_elim
        (λ p. of_list p.0 (p.1 m index))
        (λ (p : IsEmptyFor x s v n).
        let none = nothing_there (successors_of lists n) (λ i c. none_in i (subst (λ z. Contains z i) p.empty ((order n).sound i c))) in
        other_list count x graph s.methods.all.items is.methods.all is.methods.rises m index is_named v
        (λ z c called lacks. ⊎_elim
        (λ list. none_in z (subst (λ ks. Contains (map (method_at s.methods.all.items) ks) z) none ((of_list list c).complete z c called lacks)))
        (λ never. never m index c)
        p.right)
        (successors_of lists n) none)
        h
      where
        of_list : HasList x v s n → IsConcrete m (indexed_name x v) → AreUnimplemented m (indexed_name x v) (methods_in s.methods.all.items lists n)
        of_list list concrete = concrete_list count x graph s.methods.all.items is.methods.all is.methods.rises m index is_named v l concrete
            (successors_of s.lists.items n) (successors_of lists n) list.1 (order n)

        nothing_there : (ks : List ℕ) → ((i : ℕ) → Contains ks i → ⊥) → ks ≡ []
        nothing_there [] never = refl
        nothing_there (k ∷ ks) never = absurd (never k (zero, omega arith, refl))

    pub each_unimplemented : (vs ns : List ℕ) → All (λ v. v < count) vs → ListsFor x s vs ns
        → EachUnimplemented m (map (indexed_name x) vs) (map (methods_in s.methods.all.items lists) ns)
    each_unimplemented [] [] w h = tt
    each_unimplemented (v ∷ vs) (n ∷ ns) w h =
        (one_unimplemented v n (All-head (λ z. z < count) v vs w) h.0, each_unimplemented vs ns (All-tail (λ z. z < count) v vs w) h.1)
    each_unimplemented [] (n ∷ ns) w h = absurd h
    each_unimplemented (v ∷ vs) [] w h = absurd h
