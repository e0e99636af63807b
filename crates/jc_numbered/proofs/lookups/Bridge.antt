-- From numbers to names.
use Rattle.std.proofs.Common.{◌≡◌, ℕ, ◌<◌, zero, suc, Bool, true, false, cond, List, [], ◌∷◌, Option, None, is_some, map, length, refl, sym, ap, subst, ◌∙◌, ◌⊎◌, inl, inr, ⊎_elim, arith}
use Rattle.std.proofs.lemmas.Bool.{false≢true}
use Rattle.std.specs.List.{Contains, filter}
use Rattle.std.proofs.lemmas.List.Elements.{Contains-append_right}
use Rattle.jc_classes.specs.Facts.{Key, Member}
use Rattle.jc_classes.specs.MethodLookup.{only_inheritable}
use Rattle.jc_classes.specs.Names.{Name}
use Rattle.jc_classes.specs.Worlds.{Stands, World, Above, member, methods_of, supertypes_of, Above as above}
use Rattle.jc_numbered.specs.inside.Indexed.{Indexed, indexed_name, standing_of, IsGraph, IsIndexed}
use Rattle.jc_numbered.specs.inside.Picks.{is_interface_at, offers}
use Rattle.jc_graph.specs.Graph.{Above as AboveNode}
use Rattle.jc_graph.specs.Graph.Above.{direct, further}

head_in : {X : Type 0} (x : X) (xs : List X) → Contains (x ∷ xs) x
head_in x xs = (zero, omega arith, refl)

tail_in : {X : Type 0} (x y : X) (xs : List X) → Contains xs y → Contains (x ∷ xs) y
tail_in x y xs h = Contains-append_right (x ∷ []) xs y h

cons_cases : {X : Type 0} (x y : X) (xs : List X) → Contains (x ∷ xs) y → (x ≡ y) ⊎ Contains xs y
cons_cases x y xs (zero, l, e) = inl e
cons_cases x y xs (suc k, l, e) = inr (k, omega arith, e)

none_in : {X A : Type 0} (y : X) → Contains [] y → A
none_in y h = absurd (let k = h.1 in omega arith)

pub map_in : (f : ℕ → Name) (vs : List ℕ) (v : ℕ) → Contains vs v → Contains (map f vs) (f v)
map_in f [] v h = none_in v h
map_in f (w ∷ vs) v h = ⊎_elim
    (λ e. subst (λ z. Contains (f w ∷ map f vs) (f z)) e (head_in (f w) (map f vs)))
    (λ t. tail_in (f w) (f v) (map f vs) (map_in f vs v t))
    (cons_cases w v vs h)

pub map_out : (f : ℕ → Name) (vs : List ℕ) (n : Name) → Contains (map f vs) n → (v : ℕ) × Contains vs v × (f v ≡ n)
map_out f [] n h = none_in n h
map_out f (w ∷ vs) n h = ⊎_elim
    (λ e. (w, head_in w vs, e))
    (λ t. let p = map_out f vs n t in (p.0, tail_in w p.0 vs p.1, p.2))
    (cons_cases (f w) n (map f vs) h)

pub filter_in : (p : ℕ → Bool) (vs : List ℕ) (v : ℕ) → Contains vs v → p v ≡ true → Contains (filter p vs) v
filter_in p [] v h e = none_in v h
filter_in p (w ∷ vs) v h e = elim (p w) as (λ b. p w ≡ b → Contains (cond b (w ∷ filter p vs) (filter p vs)) v) [
  | true ↦ λ t. ⊎_elim (λ q. subst (λ z. Contains (w ∷ filter p vs) z) q (head_in w (filter p vs))) (λ q. tail_in w v (filter p vs) (filter_in p vs v q e)) (cons_cases w v vs h)
  | false ↦ λ t. ⊎_elim (λ q. absurd (false≢true (sym t ∙ ap p q ∙ e))) (λ q. filter_in p vs v q e) (cons_cases w v vs h)
] refl

pub filter_out : (p : ℕ → Bool) (vs : List ℕ) (v : ℕ) → Contains (filter p vs) v → Contains vs v × (p v ≡ true)
filter_out p [] v = λ h. none_in v h
filter_out p (w ∷ vs) v = elim (p w) as (λ b. p w ≡ b → Contains (cond b (w ∷ filter p vs) (filter p vs)) v → Contains (w ∷ vs) v × (p v ≡ true)) [
  | true ↦ λ t h. ⊎_elim
      (λ q. (subst (λ z. Contains (w ∷ vs) z) q (head_in w vs), ap p (sym q) ∙ t))
      (λ q. let r = filter_out p vs v q in (tail_in w v vs r.0, r.1))
      (cons_cases w v (filter p vs) h)
  | false ↦ λ t h. let r = filter_out p vs v h in (tail_in w v vs r.0, r.1)
] refl

-- where what passes one test passes another, those that pass it are among those that pass the other
filter_twice : (p q : ℕ → Bool) → ((v : ℕ) → p v ≡ true → q v ≡ true) → (vs : List ℕ) → filter p (filter q vs) ≡ filter p vs
filter_twice p q h [] = refl
filter_twice p q h (w ∷ vs) = elim (q w) as (λ b. q w ≡ b → filter p (cond b (w ∷ filter q vs) (filter q vs)) ≡ cond (p w) (w ∷ filter p vs) (filter p vs)) [
  | true ↦ λ t. ap (λ z. cond (p w) (w ∷ z) z) (filter_twice p q h vs)
  | false ↦ λ t. filter_twice p q h vs ∙ left_out (p w) (w ∷ filter p vs) (filter p vs) (λ e. false≢true (sym t ∙ h w e))
] refl
  where
    left_out : (b : Bool) (us vs : List ℕ) → (b ≡ true → ⊥) → vs ≡ cond b us vs
    left_out true us vs never = absurd (never refl)
    left_out false us vs never = refl

-- only an interface offers a method
pub offers_interfaces : (x : Indexed) (k : Key) (vs : List ℕ) → filter (offers x k) (filter (is_interface_at x) vs) ≡ filter (offers x k) vs
offers_interfaces x k vs = filter_twice (offers x k) (is_interface_at x) (λ v e. is_one (is_interface_at x v) (only_inheritable (member (methods_of (standing_of x v)) k)) e) vs
  where
    is_one : (b : Bool) (o : Option Member) → is_some (cond b o None) ≡ true → b ≡ true
    is_one true o e = refl
    is_one false o e = absurd (false≢true e)

module _ (m : World) (count : ℕ) (x : Indexed) (graph : IsGraph count x) (index : IsIndexed m x) where
  pub named : {v : ℕ} → v < count → v < length x.names
  named l = let e = graph.names in omega arith

  pub node_in : {s v : ℕ} → AboveNode x.supertypes s v → v < count
  node_in {s} {v} (direct c) = graph.nodes s v c
  node_in {v = v} (further {mid} a c) = graph.nodes mid v c

  supertypes_at : {s : ℕ} → s < count → supertypes_of (m (indexed_name x s)) ≡ map (indexed_name x) (x.supertypes s)
  supertypes_at {s} l = ap supertypes_of (index.standing s (named l)) ∙ sym (index.supertypes s (named l))

  step_in : {s v : ℕ} → s < count → Contains (x.supertypes s) v → Contains (supertypes_of (m (indexed_name x s))) (indexed_name x v)
  step_in {s} {v} l c = subst (λ ns. Contains ns (indexed_name x v)) (sym (supertypes_at l)) (map_in (indexed_name x) (x.supertypes s) v c)

  step_out : {s : ℕ} {n : Name} → s < count → Contains (supertypes_of (m (indexed_name x s))) n → (v : ℕ) × Contains (x.supertypes s) v × (indexed_name x v ≡ n)
  step_out {s} {n} l c = map_out (indexed_name x) (x.supertypes s) n (subst (λ ns. Contains ns n) (supertypes_at l) c)

  pub above_named : {s v : ℕ} → s < count → AboveNode x.supertypes s v → Above m (indexed_name x s) (indexed_name x v)
  above_named l (direct c) = above.direct (step_in l c)
  above_named l (further a c) = above.further (above_named l a) (step_in (node_in a) c)

  pub above_numbered : {s : ℕ} {n : Name} → s < count → Above m (indexed_name x s) n → (v : ℕ) × AboveNode x.supertypes s v × (indexed_name x v ≡ n)
  above_numbered l (above.direct c) = let p = step_out l c in (p.0, direct p.1, p.2)
  above_numbered {s} {n} l (above.further a c) =
      let q = above_numbered l a in
      let p = step_out (node_in q.1) (subst (λ z. Contains (supertypes_of (m z)) n) (sym q.2) c) in
      (p.0, further q.1 p.1, p.2)

  pub same_node : {v w : ℕ} → v < count → w < count → indexed_name x v ≡ indexed_name x w → v ≡ w
  same_node {v} {w} k l e = index.once v w (named k) (named l) e

  pub record_is : {A : Type 0} (f : Stands → A) (v : ℕ) (a : A) → v < count → f (standing_of x v) ≡ a → f (m (indexed_name x v)) ≡ a
  record_is f v a l e = ap f (index.standing v (named l)) ∙ e
