-- What the code computes of a node is how its name loads.
use Rattle.std.proofs.Common.{◌≡◌, ℕ, ◌+◌, ◌<◌, Bool, true, false, cond, is_some, zero, List, [], ◌∷◌, ◌++◌, map, option_map, length, set, Option, Some, None, refl, sym, ap, subst, ◌∙◌, arith, ◌⊎◌, ⊎_elim, get_or-set_same, get_or-set_other}
use Rattle.std.proofs.lemmas.List.{get_or_default}
use Rattle.std.proofs.lemmas.List.Elements.{Contains-append_right}
use Rattle.std.specs.Bool.{Decides}
use Rattle.std.specs.List.{Contains}
use Rattle.std.specs.Option.{option_to_list, option_map_or}
use Rattle.jc_classes.specs.Names.{Name}
use Rattle.jc_classes.specs.Facts.{Facts, is_faulty}
use Rattle.jc_classes.specs.Worlds.{World, Stands, Above, superclass_of, supertypes_of, is_interface}
use Rattle.jc_classes.specs.Worlds.{Stands as stands}
use Rattle.jc_classes.specs.Loading.{Supertype, direct_supertypes, LoadEach, can_see, same_bool, judged_supertype}
use Rattle.jc_classes.specs.Loading as defs
use Rattle.jc_classes.specs.Loading.{Load as load, LoadEach as each}
use Rattle.jc_classes.specs.declared.linkage_error.LinkageError.TheVariants as fault
use Rattle.jc_numbered.specs.declared.loads.Load.{Load}
use Rattle.jc_numbered.specs.declared.loads.Load.TheVariants.{Loaded, Outside, Fails}
use Rattle.jc_graph.specs.Graph.{Above as AboveNode, TellsCircular, IsOrder}
use Rattle.jc_numbered.specs.inside.Indexed.{Indexed, indexed_name, standing_of, IsGraph, IsIndexed}
use Rattle.jc_numbered.specs.inside.Loading.{load_at, sees, error_of, judged_each, first_error}
use Rattle.jc_resolve.specs.inside.Resolved.{loading_of}
use Rattle.jc_numbered.proofs.lookups.Bridge.{above_named, above_numbered, same_node, node_in}
use Rattle.jc_resolve.specs.inside.Loading.{load_by, load_of, has_superclass, IsTold, rank_in}

-- ---- one supertype

named_judged : (x : Indexed) (a : Load) (see wrong : Bool) (s : ℕ) → option_map (loading_of x) (error_of a see wrong s) ≡ defs.judged (loading_of x a) see wrong (indexed_name x s)
named_judged x Loaded true true s = refl
named_judged x Loaded true false s = refl
named_judged x Loaded false wrong s = refl
named_judged x Outside see wrong s = refl
named_judged x (Fails f v) see wrong s = refl

-- supertypes, of which the first is named as the superclass or not
direct_supertypes_of : Indexed → Bool → List ℕ → List Supertype
direct_supertypes_of x is_class [] = []
direct_supertypes_of x is_class (s ∷ more) = (record { is_class = is_class; name = indexed_name x s }) ∷ direct_supertypes_of x false more

interfaces_are : (x : Indexed) (direct : List ℕ) (ns : List Name) → map (indexed_name x) direct ≡ ns → direct_supertypes_of x false direct ≡ map (λ n. let p : Supertype = record { is_class = false; name = n } in p) ns
unfolding direct_supertypes_of
interfaces_are x [] [] e = refl
interfaces_are x [] (n ∷ ns) e = absurd cc
interfaces_are x (s ∷ direct) [] e = absurd cc
interfaces_are x (s ∷ direct) (n ∷ ns) e =
    let head : indexed_name x s ≡ n = cc in
    let rest : map (indexed_name x) direct ≡ ns = cc in
    ap (λ z. (let p : Supertype = record { is_class = false; name = z } in p) ∷ direct_supertypes_of x false direct) head
    ∙ ap (λ z. (let p : Supertype = record { is_class = false; name = n } in p) ∷ z) (interfaces_are x direct ns rest)

parents_by : (x : Indexed) (o : Option Name) (is : List Name) (direct : List ℕ) → map (indexed_name x) direct ≡ option_to_list o ++ is
    → direct_supertypes_of x (is_some o) direct ≡ option_map_or (λ n. (let p : Supertype = record { is_class = true; name = n } in p) ∷ []) o [] ++ map (λ n. let p : Supertype = record { is_class = false; name = n } in p) is
unfolding direct_supertypes_of
parents_by x None is direct e = interfaces_are x direct is e
parents_by x (Some n) is [] e = absurd cc
parents_by x (Some n) is (s ∷ direct) e =
    let head : indexed_name x s ≡ n = cc in
    let rest : map (indexed_name x) direct ≡ is = cc in
    ap (λ z. (let p : Supertype = record { is_class = true; name = z } in p) ∷ direct_supertypes_of x false direct) head
    ∙ ap (λ z. (let p : Supertype = record { is_class = true; name = n } in p) ∷ z) (interfaces_are x direct is rest)

contains_head : (s : ℕ) (ss : List ℕ) → Contains (s ∷ ss) s
contains_head s ss = (zero, omega arith, refl)

contains_later : (s : ℕ) (ss : List ℕ) (x : ℕ) → Contains ss x → Contains (s ∷ ss) x
contains_later s ss x h = Contains-append_right (s ∷ []) ss x h

module _ (m : World) (count : ℕ) (x : Indexed) (graph : IsGraph count x) (index : IsIndexed m x) where
  named : {v : ℕ} → v < count → v < length x.names
  named l = omega (arith, graph.names, l)

  record_same : (v : ℕ) → v < count → m (indexed_name x v) ≡ standing_of x v
  record_same v l = index.standing v (named l)

  pub sees_same : (v s : ℕ) → s < count → sees x v s ≡ can_see (indexed_name x v) (indexed_name x s) (m (indexed_name x s))
  sees_same v s l = ap (can_see (indexed_name x v) (indexed_name x s)) (sym (record_same s l))

  each_named : (loads : List Load) (v : ℕ) (is_class : Bool) (direct : List ℕ) → v < count → ((s : ℕ) → Contains direct s → (s < count) × defs.Load m (indexed_name x s) (loading_of x (load_at loads s)))
      → LoadEach m (indexed_name x v) (direct_supertypes_of x is_class direct) (loading_of x (judged_each x loads v is_class direct))
  unfolding direct_supertypes_of
  each_named loads v is_class [] k h = each.none
  each_named loads v is_class (s ∷ more) k h =
      let q = h s (contains_head s more) in
      let see = sees x v s in
      let wrong = same_bool (is_interface (standing_of x s)) is_class in
      let e : option_map (loading_of x) (error_of (load_at loads s) see wrong s) ≡ judged_supertype m (indexed_name x v) (record { is_class = is_class; name = indexed_name x s }) (loading_of x (load_at loads s)) =
      named_judged x (load_at loads s) see wrong s
      ∙ ap (λ b. defs.judged (loading_of x (load_at loads s)) b wrong (indexed_name x s)) (sees_same v s q.0)
      ∙ ap (λ r. defs.judged (loading_of x (load_at loads s)) (can_see (indexed_name x v) (indexed_name x s) (m (indexed_name x s))) (same_bool (is_interface r) is_class) (indexed_name x s)) (sym (record_same s q.0)) in
      by (error_of (load_at loads s) see wrong s) refl e q.1 (each_named loads v false more k (λ z c. h z (contains_later s more z c)))
    where
      by : (o : Option Load) → error_of (load_at loads s) (sees x v s) (same_bool (is_interface (standing_of x s)) is_class) s ≡ o
          → option_map (loading_of x) (error_of (load_at loads s) (sees x v s) (same_bool (is_interface (standing_of x s)) is_class) s) ≡ judged_supertype m (indexed_name x v) (record { is_class = is_class; name = indexed_name x s }) (loading_of x (load_at loads s))
          → defs.Load m (indexed_name x s) (loading_of x (load_at loads s))
          → LoadEach m (indexed_name x v) (direct_supertypes_of x false more) (loading_of x (judged_each x loads v false more))
          → LoadEach m (indexed_name x v) ((record { is_class = is_class; name = indexed_name x s }) ∷ direct_supertypes_of x false more) (loading_of x (first_error (error_of (load_at loads s) (sees x v s) (same_bool (is_interface (standing_of x s)) is_class) s) (judged_each x loads v false more)))
      by None i e l rest = subst (λ o. LoadEach m (indexed_name x v) ((record { is_class = is_class; name = indexed_name x s }) ∷ direct_supertypes_of x false more) (loading_of x (first_error o (judged_each x loads v false more)))) (sym i)
          (each.passes l (sym e ∙ ap (option_map (loading_of x)) i) rest)
      by (Some a) i e l rest = subst (λ o. LoadEach m (indexed_name x v) ((record { is_class = is_class; name = indexed_name x s }) ∷ direct_supertypes_of x false more) (loading_of x (first_error o (judged_each x loads v false more)))) (sym i)
          (each.stops l (sym e ∙ ap (option_map (loading_of x)) i))

  pub circular_same : (v : ℕ) → v < count → AboveNode x.supertypes v v → Above m (indexed_name x v) (indexed_name x v)
  circular_same v l a = above_named m count x graph index l a

  pub circular_back : (v : ℕ) → v < count → Above m (indexed_name x v) (indexed_name x v) → AboveNode x.supertypes v v
  circular_back v l a =
      let q = above_numbered m count x graph index l a in
      let e = same_node m count x graph index (node_in m count x graph index q.1) l q.2 in
      subst (AboveNode x.supertypes v) e q.1

  load_named : (loads : List Load) (v : ℕ) (flag : Bool) → v < count → Decides flag (AboveNode x.supertypes v v)
      → (flag ≡ false → (s : ℕ) → Contains (x.supertypes v) s → (s < count) × defs.Load m (indexed_name x s) (loading_of x (load_at loads s)))
      → defs.Load m (indexed_name x v) (loading_of x (load_by (standing_of x v) flag v (judged_each x loads v (has_superclass (standing_of x v)) (x.supertypes v))))
  load_named loads v flag l d h = by (standing_of x v) refl
    where
      each_of : (r : Facts) → standing_of x v ≡ stands.Class r → flag ≡ false → LoadEach m (indexed_name x v) (direct_supertypes r) (loading_of x (judged_each x loads v (has_superclass (standing_of x v)) (x.supertypes v)))
      each_of r e f =
          subst (λ ps. LoadEach m (indexed_name x v) ps (loading_of x (judged_each x loads v (has_superclass (standing_of x v)) (x.supertypes v))))
          (ap (λ z. direct_supertypes_of x (is_some (superclass_of z)) (x.supertypes v)) e ∙ parents_by x r.superclass r.interfaces (x.supertypes v) (index.supertypes v (named l) ∙ ap supertypes_of e))
          (each_named loads v (has_superclass (standing_of x v)) (x.supertypes v) l (h f))

      class_of : (r : Facts) → standing_of x v ≡ stands.Class r → (b : Bool) → is_faulty r ≡ b → (f : Bool) → flag ≡ f
          → defs.Load m (indexed_name x v) (loading_of x (cond b (Fails fault.Format v) (cond f (Fails fault.Circular v) (judged_each x loads v (has_superclass (standing_of x v)) (x.supertypes v)))))
      class_of r e true o f q = load.faulty (record_same v l ∙ e) o
      class_of r e false o true q = load.round (record_same v l ∙ e) o (circular_same v l (d.0 q))
      class_of r e false o false q = load.through (record_same v l ∙ e) o (λ a. let t : true ≡ false = sym (d.1 (circular_back v l a)) ∙ q in absurd cc) (each_of r e q)

      by : (o : Stands) → standing_of x v ≡ o → defs.Load m (indexed_name x v) (loading_of x (load_by (standing_of x v) flag v (judged_each x loads v (has_superclass (standing_of x v)) (x.supertypes v))))
      by stands.Absent e = subst (λ z. defs.Load m (indexed_name x v) (loading_of x (load_by z flag v (judged_each x loads v (has_superclass (standing_of x v)) (x.supertypes v))))) (sym e) (load.missing (record_same v l ∙ e))
      by stands.Outside e = subst (λ z. defs.Load m (indexed_name x v) (loading_of x (load_by z flag v (judged_each x loads v (has_superclass (standing_of x v)) (x.supertypes v))))) (sym e) (load.outside (record_same v l ∙ e))
      by (stands.Class r) e = subst (λ z. defs.Load m (indexed_name x v) (loading_of x (load_by z flag v (judged_each x loads v (has_superclass (standing_of x v)) (x.supertypes v))))) (sym e) (class_of r e (is_faulty r) refl flag refl)

same_or_not : (a b : ℕ) → (a ≡ b) ⊎ (a ≡ b → ⊥)
same_or_not a b = grind arith

module _ (count : ℕ) (x : Indexed) (graph : IsGraph count x) (flags : List Bool) (order : List ℕ) (tells : TellsCircular x.supertypes count flags) (ordered : IsOrder x.supertypes count flags order) where
  -- the next node of the order, where those before it are told
  pub next_told : (loads : List Load) (at : ℕ) → at < length order → ((k : ℕ) → k < at → IsTold x (rank_in order k) (load_at loads (rank_in order k)))
      → IsTold x (rank_in order at) (load_of x flags loads (rank_in order at))
  next_told loads at l h = λ m i.
      let v = rank_in order at in
      let k = ordered.nodes at 0 l in
      load_named m count x graph i loads v _ k (tells.tells v k)
      (λ f s c. let b = ordered.before at s l f c in (graph.nodes v s c, subst (λ z. defs.Load m (indexed_name x z) (loading_of x (load_at loads z))) b.2 (h b.0 b.1 m i)))

  pub more_told : (loads : List Load) (at : ℕ) (a : Load) → at < length order → length loads ≡ count → IsTold x (rank_in order at) a
      → ((k : ℕ) → k < at → IsTold x (rank_in order k) (load_at loads (rank_in order k))) → (k : ℕ) → k < at + 1 → IsTold x (rank_in order k) (load_at (set loads (rank_in order at) a) (rank_in order k))
  more_told loads at a l size new h k m = ⊎_elim
      (λ (e : rank_in order k ≡ rank_in order at).
      let in' : rank_in order at < length loads = omega (arith, size, ordered.nodes at 0 l) in
      subst (λ z. IsTold x z (load_at (set loads (rank_in order at) a) z)) (sym e) (subst (IsTold x (rank_in order at)) (sym (get_or-set_same loads (rank_in order at) a (Fails fault.NoClass 0) in')) new))
      (λ (n : rank_in order k ≡ rank_in order at → ⊥).
      let not : k ≡ at → ⊥ = λ i. n (ap (rank_in order) i) in
      subst (IsTold x (rank_in order k)) (sym (get_or-set_other loads (rank_in order at) (rank_in order k) a (Fails fault.NoClass 0) n)) (h k (omega arith)))
      (same_or_not (rank_in order k) (rank_in order at))

  pub all_told : (loads : List Load) → ((k : ℕ) → k < length order → IsTold x (rank_in order k) (load_at loads (rank_in order k))) → (v : ℕ) → v < count → IsTold x v (load_at loads v)
  all_told loads h v l =
      let c = ordered.listed v l in
      subst (λ z. IsTold x z (load_at loads z)) (get_or_default order c.0 0 v c.1 ∙ c.2) (h c.0 c.1)
