-- Selection of methods, from numbers to names.
use Rattle.std.proofs.Common.{◌≡◌, ◌∙◌, ℕ, ◌<◌, Bool, true, false, not, None, Option, Some, length, refl, sym, ap, subst, ⊎_elim, arith}
use Rattle.std.proofs.lemmas.Bool.{false≢true}
use Rattle.jc_file.specs.AccessFlags.{has, static}
use Rattle.jc_classes.specs.Facts.{Key, Member}
use Rattle.jc_classes.specs.MethodLookup.{only_inheritable}
use Rattle.jc_classes.specs.Overriding.{overridable}
use Rattle.jc_classes.specs.Worlds.{World, member, methods_of}
use Rattle.jc_numbered.specs.inside.Indexed.{Indexed, IsGraph, IsIndexed, indexed_name, standing_of, superclass_at}
use Rattle.jc_numbered.specs.inside.Overriding.{overridable_at}
use Rattle.jc_numbered.proofs.lookups.Chain.{super_is, super_none}
use Rattle.jc_classes.specs.Selection.{DeclaresInstance}
use Rattle.jc_resolve.specs.inside.Selection.{declares_at, is_instance}
use Rattle.jc_resolve.proofs.lookups.SelectionSteps.{OwnInstance, instance_cases, instance_own, instance_up}

some_is : {X : Type 0} {a b : X} → Some a ≡ Some b → a ≡ b
some_is e = cc

no_some : {X A : Type 0} {a : X} → None ≡ Some a → A
no_some e = absurd cc

not_is : (b : Bool) → not b ≡ true → b ≡ false
not_is true e = absurd (false≢true e)
not_is false e = refl

some_instance : (o : Option Member) → is_instance o ≡ true → (y : Member) × (o ≡ Some y) × (has y.flags static ≡ false)
some_instance None e = absurd (false≢true e)
some_instance (Some y) e = (y, refl, not_is (has y.flags static) e)

-- the method of a node with this key is declared and not STATIC, or DeclaresInstance passes on to the superclass
module _ (count : ℕ) (x : Indexed) (graph : IsGraph count x) (m : World) (index : IsIndexed m x) (k : Key) where
  named : (v : ℕ) → v < count → v < length x.names
  named v l = let q = graph.names in omega arith

  member_same : (v : ℕ) → v < count → member (methods_of (m (indexed_name x v))) k ≡ member (methods_of (standing_of x v)) k
  member_same v l = ap (λ r. member (methods_of r) k) (index.standing v (named v l))

  pub overridable_same : (v : ℕ) → v < count → overridable m k (indexed_name x v) ≡ overridable_at x k v
  overridable_same v l = ap only_inheritable (member_same v l)

  pub instance_yes : (v : ℕ) → v < count → declares_at x k v ≡ true → OwnInstance m k (indexed_name x v)
  instance_yes v l e = let p = some_instance _ e in (p.0, member_same v l ∙ p.1, p.2)

  pub instance_no : (v : ℕ) → v < count → declares_at x k v ≡ false → OwnInstance m k (indexed_name x v) → ⊥
  instance_no v l e o = false≢true (sym e ∙ ap is_instance (sym (member_same v l) ∙ o.1) ∙ ap not o.2)

  pub instance_here : (v : ℕ) → v < count → declares_at x k v ≡ true → DeclaresInstance m k (indexed_name x v)
  instance_here v l e = instance_own m k (indexed_name x v) (instance_yes v l e)

  -- the node does not declare one
  pub instance_on : (v s : ℕ) → v < count → declares_at x k v ≡ false → superclass_at x v ≡ Some s
      → DeclaresInstance m k (indexed_name x v) → DeclaresInstance m k (indexed_name x s)
  instance_on v s l e super d =
      let is = super_is count x graph m index v s l super in
      ⊎_elim (λ o. absurd (instance_no v l e o))
      (λ p. subst (λ z. DeclaresInstance m k z) (some_is (sym p.1 ∙ is)) p.2)
      (instance_cases m k (indexed_name x v) d)

  pub instance_back : (v s : ℕ) → v < count → superclass_at x v ≡ Some s
      → DeclaresInstance m k (indexed_name x s) → DeclaresInstance m k (indexed_name x v)
  instance_back v s l super d = instance_up m k (indexed_name x v) (indexed_name x s) (super_is count x graph m index v s l super) d

  pub instance_ends : (v : ℕ) → v < count → declares_at x k v ≡ false → superclass_at x v ≡ None → DeclaresInstance m k (indexed_name x v) → ⊥
  instance_ends v l e super d =
      let is = super_none count x graph m index v l super in
      ⊎_elim (instance_no v l e) (λ p. no_some (sym is ∙ p.1)) (instance_cases m k (indexed_name x v) d)
