-- The walks along the chain of superclasses.
use Rattle.std.proofs.Common.{◌≡◌, ℕ, ◌<◌, ◌≤◌, Bool, true, cond, List, [], ◌∷◌, ◌++◌, map, length, is_some, Option, Some, None, refl, sym, ap, subst, ◌∙◌, ◌⊎◌, inl, inr, ⊎_elim, arith}
use Rattle.std.specs.Option.{option_to_list}
use Rattle.std.specs.List.{Contains}
use Rattle.std.proofs.lemmas.List.Elements.{Contains-get_or}
use Rattle.jc_classes.specs.Names.{Name, object as java_lang_object}
use Rattle.jc_classes.specs.Access.{IsWithin}
use Rattle.std.specs.Bool.{Decides}
use Rattle.std.specs.Prelude.{◌==◌}
use Rattle.std.proofs.lemmas.Bool.Decides.{Decides-eqb}
use Rattle.jc_classes.specs.Worlds.{World, Extends, superclass_of, interfaces_of, Extends as extends}
use Rattle.jc_graph.specs.Seen.{node_at}
use Rattle.jc_numbered.specs.inside.Indexed.{Indexed, indexed_name, standing_of, rank_at, good_at, superclass_at, IsGraph, IsIndexed}
use Rattle.jc_numbered.specs.inside.Chain.{ExtendsNode, ExtendsNode as node}

no_some : {X A : Type 0} {x : X} → None ≡ Some x → A
no_some e = absurd cc

head_of : {a b : Name} {as1 bs : List Name} → a ∷ as1 ≡ b ∷ bs → a ≡ b
head_of e = cc

-- the superclass stands among the supertypes
super_place : (o : Option Name) (direct : List ℕ) (s : ℕ) → cond (is_some o) 1 0 ≤ length direct → cond (is_some o) (Some (node_at direct 0)) None ≡ Some s → Contains direct s
super_place None direct s l e = no_some e
super_place (Some n) direct s l e = subst (λ z. Contains direct z) (some_is e) (Contains-get_or direct 0 0 (omega arith))
  where
    some_is : {a b : ℕ} → Some a ≡ Some b → a ≡ b
    some_is e = cc

super_named : (f : ℕ → Name) (o : Option Name) (is : List Name) (direct : List ℕ) → map f direct ≡ option_to_list o ++ is → (s : ℕ) → cond (is_some o) (Some (node_at direct 0)) None ≡ Some s → o ≡ Some (f s)
super_named f None is direct e s h = no_some h
super_named f (Some n) is [] e s h = absurd cc
super_named f (Some n) is (v ∷ direct) e s h = ap Some (sym (head_of e) ∙ ap f (some_is h))
  where
    some_is : {a b : ℕ} → Some a ≡ Some b → a ≡ b
    some_is e = cc

none_named : (o : Option Name) (v : ℕ) → cond (is_some o) (Some v) None ≡ None → o ≡ None
none_named None v e = refl
none_named (Some n) v e = no_some (sym e)

module _ (count : ℕ) (x : Indexed) (graph : IsGraph count x) where
  pub super_in : (v s : ℕ) → superclass_at x v ≡ Some s → Contains (x.supertypes v) s
  super_in v s e = super_place (superclass_of (standing_of x v)) (x.supertypes v) s (graph.begins v) e

  pub super_node : (v s : ℕ) → superclass_at x v ≡ Some s → s < count
  super_node v s e = graph.nodes v s (super_in v s e)

  pub super_good : (v s : ℕ) → good_at x v ≡ true → superclass_at x v ≡ Some s → good_at x s ≡ true
  super_good v s g e = graph.stays v s g (super_in v s e)

  pub super_falls : (v s : ℕ) → good_at x v ≡ true → superclass_at x v ≡ Some s → rank_at x s < rank_at x v
  super_falls v s g e = graph.falls v s g (super_in v s e)

  module _ (m : World) (index : IsIndexed m x) where
    pub super_is : (v s : ℕ) → v < count → superclass_at x v ≡ Some s → superclass_of (m (indexed_name x v)) ≡ Some (indexed_name x s)
    super_is v s l e = let n : v < length x.names = let q = graph.names in omega arith in
        ap superclass_of (index.standing v n) ∙ super_named (indexed_name x) (superclass_of (standing_of x v)) (interfaces_of (standing_of x v)) (x.supertypes v) (index.supertypes v n) s e

    pub super_none : (v : ℕ) → v < count → superclass_at x v ≡ None → superclass_of (m (indexed_name x v)) ≡ None
    super_none v l e = let n : v < length x.names = let q = graph.names in omega arith in
        ap superclass_of (index.standing v n) ∙ none_named (superclass_of (standing_of x v)) _ e

    pub extends_named : {v w : ℕ} → v < count → ExtendsNode x v w → Extends m (indexed_name x v) (indexed_name x w)
    extends_named l node.itself = extends.itself
    extends_named {v} l (node.through {s = s} e h) = extends.through (super_is v s l e) (extends_named (super_node v s e) h)

-- what is on a chain is its first node or on the rest
extends_cases : {x : Indexed} {v w : ℕ} → ExtendsNode x v w → (v ≡ w) ⊎ ((s : ℕ) × (superclass_at x v ≡ Some s) × ExtendsNode x s w)
extends_cases node.itself = inl refl
extends_cases (node.through {s = s} e h) = inr (s, e, h)

some_same : {o : Option ℕ} {a b : ℕ} → o ≡ Some a → o ≡ Some b → a ≡ b
some_same e f = cc

pub extends_on : (x : Indexed) (v s w : ℕ) → (v ≡ w → ⊥) → superclass_at x v ≡ Some s → ExtendsNode x v w → ExtendsNode x s w
extends_on x v s w n e h = ⊎_elim (λ q. absurd (n q)) (λ p. subst (λ z. ExtendsNode x z w) (some_same p.1 e) p.2) (extends_cases h)

pub extends_not : (x : Indexed) (v w : ℕ) → (v ≡ w → ⊥) → superclass_at x v ≡ None → ExtendsNode x v w → ⊥
extends_not x v w n e h = ⊎_elim n (λ p. no_some (sym e ∙ p.1)) (extends_cases h)

-- from names back to numbers
super_numbered : (f : ℕ → Name) (o : Option Name) (is : List Name) (direct : List ℕ) (n : Name) → map f direct ≡ option_to_list o ++ is → o ≡ Some n → (s : ℕ) × (cond (is_some o) (Some (node_at direct 0)) None ≡ Some s) × (f s ≡ n)
super_numbered f None is direct n e h = no_some h
super_numbered f (Some p) is [] n e h = absurd cc
super_numbered f (Some p) is (v ∷ direct) n e h = (v, refl, head_of e ∙ name_is h)
  where
    name_is : {a b : Name} → Some a ≡ Some b → a ≡ b
    name_is e = cc

module _ (count : ℕ) (x : Indexed) (graph : IsGraph count x) (m : World) (index : IsIndexed m x) where
  -- the superclass of a node is a node
  pub super_above : (v : ℕ) (n : Name) → v < count → superclass_of (m (indexed_name x v)) ≡ Some n
      → (s : ℕ) × (superclass_at x v ≡ Some s) × (indexed_name x s ≡ n)
  super_above v n l e =
      let a : v < length x.names = let q = graph.names in omega arith in
      super_numbered (indexed_name x) (superclass_of (standing_of x v)) (interfaces_of (standing_of x v)) (x.supertypes v) n (index.supertypes v a)
      (ap superclass_of (sym (index.standing v a)) ∙ e)

  pub extends_numbered : (n c : Name) → Extends m n c → (v w : ℕ) → v < count → w < count → indexed_name x v ≡ n → indexed_name x w ≡ c → ExtendsNode x v w
  extends_numbered n c extends.itself v w l k e f =
      let a : v < length x.names = let q = graph.names in omega arith in
      let b : w < length x.names = let q = graph.names in omega arith in
      subst (λ z. ExtendsNode x v z) (index.once v w a b (e ∙ sym f)) node.itself
  extends_numbered n c (extends.through {s = s} h r) v w l k e f =
      let a : v < length x.names = let q = graph.names in omega arith in
      let o : superclass_of (standing_of x v) ≡ Some s = ap superclass_of (sym (index.standing v a)) ∙ ap (λ z. superclass_of (m z)) e ∙ h in
      let p = super_numbered (indexed_name x) (superclass_of (standing_of x v)) (interfaces_of (standing_of x v)) (x.supertypes v) s (index.supertypes v a) o in
      node.through p.1 (extends_numbered s c r p.0 w (super_node count x graph v p.0 p.1) k p.2 f)

  pub decides_within : (object : ℕ) (v w : ℕ) (b : Bool) → v < count → w < count → object < count → indexed_name x object ≡ java_lang_object → (w ≡ object → ⊥) → Decides b (ExtendsNode x v w) → Decides b (IsWithin m (indexed_name x v) (indexed_name x w))
  decides_within object v w b l k j o n d =
      let q = graph.names in
      let a : w < length x.names = omega arith in
      let c : object < length x.names = omega arith in (
        λ e. inl (extends_named count x graph m index l (d.0 e)),
        λ h. ⊎_elim (λ r. d.1 (extends_numbered (indexed_name x v) (indexed_name x w) r v w l k refl refl)) (λ r. absurd (n (index.once w object a c (r ∙ sym o)))) h,
      )

  pub decides_object : (object v : ℕ) → v < count → object < count → indexed_name x object ≡ java_lang_object → Decides (v == object) (indexed_name x v ≡ java_lang_object)
  decides_object object v l k o =
      let q = graph.names in
      let a : v < length x.names = omega arith in
      let c : object < length x.names = omega arith in
      (λ e. ap (indexed_name x) ((Decides-eqb v object).0 e) ∙ o, λ e. (Decides-eqb v object).1 (index.once v object a c (e ∙ sym o)))

  pub decides_home : (v w : ℕ) → v < count → w < count → Decides (v == w) (indexed_name x v ≡ indexed_name x w)
  decides_home v w l k =
      let q = graph.names in
      let a : v < length x.names = omega arith in
      let c : w < length x.names = omega arith in
      (λ e. ap (indexed_name x) ((Decides-eqb v w).0 e), λ e. (Decides-eqb v w).1 (index.once v w a c e))
