-- Nodes that load or are outside: what is above them is so too, and comes before them.
use Rattle.std.proofs.Common.{◌≡◌, slice_index_or, ℕ, ◌<◌, ◌≤◌, Bool, true, false, cond, zero, suc, List, [], map, length, Some, None, refl, sym, ap, subst, ◌∙◌, arith, ◌⊎◌, inl, inr, ⊎_elim}
use Rattle.std.proofs.lemmas.List.{get_or_default}
use Rattle.std.specs.List.{Contains}
use Rattle.jc_classes.specs.Names.{Name}
use Rattle.jc_classes.specs.Facts.{Facts}
use Rattle.jc_classes.specs.Worlds.{World, Above, supertypes_of}
use Rattle.jc_classes.specs.Worlds.{Stands as stands}
use Rattle.jc_classes.specs.Loading.{Supertype, direct_supertypes, Loading, LoadEach, judged_supertype, can_see, same_bool}
use Rattle.jc_classes.specs.Loading as defs
use Rattle.jc_classes.specs.Worlds.{is_interface}
use Rattle.jc_classes.specs.Loading.{Load as load, LoadEach as each, Loading as loading}
use Rattle.jc_classes.specs.declared.linkage_error.LinkageError.{LinkageError}
use Rattle.jc_classes.proofs.worlds.One.{load_one}
use Rattle.jc_classes.proofs.worlds.Local.{direct_supertypes_are}
use Rattle.jc_graph.specs.Graph as graphs
use Rattle.jc_graph.specs.Graph.{TellsCircular, IsOrder}
use Rattle.jc_numbered.specs.declared.loads.Load.{Load}
use Rattle.jc_numbered.specs.declared.loads.Load.TheVariants.{Loaded, Outside, Fails}
use Rattle.jc_numbered.specs.inside.Indexed.{Indexed, indexed_name, IsGraph, IsIndexed}
use Rattle.jc_numbered.specs.inside.Loading.{load_at}
use Rattle.jc_resolve.specs.inside.Resolved.{loading_of, TellsLoads}
use Rattle.jc_numbered.proofs.lookups.Bridge.{map_in, above_named}
use Rattle.jc_resolve.specs.inside.Loading.{is_good, rank_in, TellsRank}

-- what a class that loads has: it is not above itself, and each of its supertypes loads or is outside
pub record Loadable (m : World) (n : Name) : Type 0 where
  pub not_above : Above m n n → ⊥
  pub class : Facts
  pub record_is : m n ≡ stands.Class class
  pub each : LoadEach m n (direct_supertypes class) loading.Loaded

pub loaded_inv : {m : World} {n : Name} {a : Loading} → defs.Load m n a → a ≡ loading.Loaded → Loadable m n
loaded_inv (load.missing e) q = absurd cc
loaded_inv (load.outside e) q = absurd cc
loaded_inv (load.faulty e o) q = absurd cc
loaded_inv (load.round e o a) q = absurd cc
loaded_inv {m} {n} (load.through {r = r} e o not l) q = record { not_above = not; class = r; record_is = e; each = subst (LoadEach m n (direct_supertypes r)) q l }

pub outside_only : {m : World} {n : Name} {a : Loading} → defs.Load m n a → a ≡ loading.Outside → m n ≡ stands.Outside
outside_only (load.missing e) q = absurd cc
outside_only (load.outside e) q = e
outside_only (load.faulty e o) q = absurd cc
outside_only (load.round e o a) q = absurd cc
outside_only (load.through {r = r} e o not l) q = absurd (never l q)
  where
    no_out : (m : World) (n : Name) (p : Supertype) (a : Loading) → judged_supertype m n p a ≡ Some loading.Outside → ⊥
    no_out m n p loading.Loaded e = by (can_see n p.name (m p.name)) (same_bool (is_interface (m p.name)) p.is_class) e
      where
        by : (s t : Bool) → cond s (cond t (Some (loading.Fails LinkageError.Incompatible p.name)) None) (Some (loading.Fails LinkageError.IllegalAccess p.name)) ≡ Some loading.Outside → ⊥
        by true true e = cc
        by true false e = cc
        by false t e = cc
    no_out m n p loading.Outside e = cc
    no_out m n p (loading.Fails f x) e = cc

    never : {m : World} {n : Name} {ps : List Supertype} {a : Loading} → LoadEach m n ps a → a ≡ loading.Outside → ⊥
    never each.none q = cc
    never {m} {n} (each.stops {p = p} {a = a} {b = b} l e) q = no_out m n p a (e ∙ ap Some q)
    never (each.passes l e rest) q = never rest q

outside_inv : {m : World} {n : Name} {a : Loading} → defs.Load m n a → a ≡ loading.Outside → (m n ≡ stands.Outside) ⊎ Loadable m n
outside_inv h q = inl (outside_only h q)

good_of : (m : World) (n : Name) (p : Supertype) (a : Loading) → judged_supertype m n p a ≡ None → (a ≡ loading.Loaded) ⊎ (a ≡ loading.Outside)
good_of m n p loading.Loaded e = inl refl
good_of m n p loading.Outside e = inr refl
good_of m n p (loading.Fails f x) e = absurd cc

pub not_loaded : (m : World) (n : Name) (p : Supertype) (a : Loading) → judged_supertype m n p a ≡ Some loading.Loaded → ⊥
not_loaded m n p loading.Loaded e = by (can_see n p.name (m p.name)) (same_bool (is_interface (m p.name)) p.is_class) e
  where
    by : (s t : Bool) → cond s (cond t (Some (loading.Fails LinkageError.Incompatible p.name)) None) (Some (loading.Fails LinkageError.IllegalAccess p.name)) ≡ Some loading.Loaded → ⊥
    by true true e = cc
    by true false e = cc
    by false t e = cc
not_loaded m n p loading.Outside e = cc
not_loaded m n p (loading.Fails f x) e = cc

abbrev names_of : List Supertype → List Name
names_of ps = map (λ (p : Supertype). p.name) ps

-- each supertype of a class that loads
each_good : {m : World} {n : Name} {ps : List Supertype} {a : Loading} → LoadEach m n ps a → a ≡ loading.Loaded → (s : Name) → (k : ℕ) → k < length (names_of ps) → slice_index_or (names_of ps) k [] ≡ s → (b : Loading) × defs.Load m s b × ((b ≡ loading.Loaded) ⊎ (b ≡ loading.Outside))
each_good each.none q s k l i = absurd (omega arith)
each_good {m} {n} (each.stops {p = p} {a = a} h e) q s k l i = absurd (not_loaded m n p a (e ∙ ap Some q))
each_good {m} {n} (each.passes {p = p} {a = a} h e rest) q s zero l i = (a, subst (λ z. defs.Load m z a) i h, good_of m n p a e)
each_good (each.passes h e rest) q s (suc k) l i = each_good rest q s k (omega arith) i

good_load : (x : Indexed) (a : Load) → is_good a ≡ true → (loading_of x a ≡ loading.Loaded) ⊎ (loading_of x a ≡ loading.Outside)
good_load x Loaded e = inl refl
good_load x Outside e = inr refl
good_load x (Fails f v) e = absurd cc

load_good : (x : Indexed) (a : Load) → (loading_of x a ≡ loading.Loaded) ⊎ (loading_of x a ≡ loading.Outside) → is_good a ≡ true
load_good x Loaded e = refl
load_good x Outside e = refl
load_good x (Fails f v) e = ⊎_elim (λ q. absurd cc) (λ q. absurd cc) e

module _ (m : World) (count : ℕ) (x : Indexed) (graph : IsGraph count x) (index : IsIndexed m x)
    (flags : List Bool) (order ranks : List ℕ) (tells : TellsCircular x.supertypes count flags) (ordered : IsOrder x.supertypes count flags order) (ranked : TellsRank count order ranks)
    (loads : List Load) (told : TellsLoads m x count loads) where
  named : {v : ℕ} → v < count → v < length x.names
  named l = omega (arith, graph.names, l)

  -- a node that has a step has a record, so it is not outside
  no_step : (a b : ℕ) → a < count → Contains (x.supertypes a) b → m (indexed_name x a) ≡ stands.Outside → ⊥
  no_step a b l c e =
      let q = map_in (indexed_name x) (x.supertypes a) b c in
      let r : map (indexed_name x) (x.supertypes a) ≡ [] = index.supertypes a (named l) ∙ ap supertypes_of (sym (index.standing a (named l)) ∙ e) in
      let s = subst (λ z. Contains z (indexed_name x b)) r q in
      omega (arith, s.1)

  loadable : (a b : ℕ) → a < count → is_good (load_at loads a) ≡ true → Contains (x.supertypes a) b → Loadable m (indexed_name x a)
  loadable a b l g c = ⊎_elim
      (λ e. loaded_inv (told a l) e)
      (λ e. ⊎_elim (λ o. absurd (no_step a b l c o)) (λ y. y) (outside_inv (told a l) e))
      (good_load x (load_at loads a) g)

  flag_of : (a : ℕ) → a < count → (Above m (indexed_name x a) (indexed_name x a) → ⊥) → (b : Bool) → slice_index_or flags a false ≡ b → slice_index_or flags a false ≡ false
  flag_of a l not false e = e
  flag_of a l not true e = absurd (not (circular_there a l ((tells.tells a l).0 e)))
    where
      circular_there : (v : ℕ) → v < count → graphs.Above x.supertypes v v → Above m (indexed_name x v) (indexed_name x v)
      circular_there v k r = above_named m count x graph index k r

  pub falls : (a b : ℕ) → a < count → is_good (load_at loads a) ≡ true → Contains (x.supertypes a) b → rank_in ranks b < rank_in ranks a
  falls a b l g c =
      let y = loadable a b l g c in
      let f = flag_of a l y.not_above (slice_index_or flags a false) refl in
      let k = ordered.listed a l in
      let ka : rank_in order k.0 ≡ a = get_or_default order k.0 0 a k.1 ∙ k.2 in
      let p = ranked.places k.0 k.1 in
      let low : rank_in ranks a ≤ k.0 = subst (λ z. rank_in ranks z ≤ k.0) ka p.0 in
      let at : rank_in order (rank_in ranks a) ≡ a = subst (λ z. rank_in order (rank_in ranks z) ≡ z) ka p.1 in
      let in' : rank_in ranks a < length order = omega (arith, k.1) in
      let j = ordered.before (rank_in ranks a) b in' (ap (λ z. slice_index_or flags z false) at ∙ f) (subst (λ z. Contains (x.supertypes z) b) (sym at) c) in
      let r = ranked.places j.0 (omega (arith, j.1)) in
      let s : rank_in ranks b ≤ j.0 = subst (λ z. rank_in ranks z ≤ j.0) j.2 r.0 in
      omega (arith, j.1)

  pub stays : (a b : ℕ) → a < count → is_good (load_at loads a) ≡ true → Contains (x.supertypes a) b → is_good (load_at loads b) ≡ true
  stays a b l g c =
      let y = loadable a b l g c in
      let lb = graph.nodes a b c in
      let q = map_in (indexed_name x) (x.supertypes a) b c in
      let r : map (indexed_name x) (x.supertypes a) ≡ names_of (direct_supertypes y.class) = index.supertypes a (named l) ∙ ap supertypes_of (sym (index.standing a (named l)) ∙ y.record_is) ∙ sym (direct_supertypes_are y.class) in
      let s = subst (λ z. Contains z (indexed_name x b)) r q in
      let e = each_good y.each refl (indexed_name x b) s.0 s.1 (get_or_default (names_of (direct_supertypes y.class)) s.0 [] (indexed_name x b) s.1 ∙ s.2) in
      let same : e.0 ≡ loading_of x (load_at loads b) = load_one e.1 (told b lb) in
      load_good x (load_at loads b) (⊎_elim (λ i. inl (sym same ∙ i)) (λ i. inr (sym same ∙ i)) e.2)
