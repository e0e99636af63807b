-- The walk along the chain of superclasses for a method.
use Rattle.std.proofs.Common.{◌≡◌, ℕ, ◌<◌, length, Option, Some, None, ap, ◌∙◌, arith}
use Rattle.jc_classes.specs.Worlds.{World}
use Rattle.jc_classes.specs.Facts.{Member, Key}
use Rattle.jc_classes.specs.MethodLookup.{declared, FindsInClasses, FindsInClasses as chain}
use Rattle.jc_numbered.specs.inside.Indexed.{Indexed, indexed_name, standing_of, superclass_at, IsGraph, IsIndexed}
use Rattle.jc_numbered.proofs.lookups.Chain.{super_is, super_none}
use Rattle.jc_resolve.specs.inside.Chain.{Leads}

module _ (count : ℕ) (x : Indexed) (graph : IsGraph count x) where
  declared_is : (m : World) → IsIndexed m x → (k : Key) (v : ℕ) (o : Option Member) → v < count → declared (indexed_name x v) (standing_of x v) k ≡ o → declared (indexed_name x v) (m (indexed_name x v)) k ≡ o
  declared_is m index k v o l e = let n : v < length x.names = let q = graph.names in omega arith in
      ap (λ r. declared (indexed_name x v) r k) (index.standing v n) ∙ e

  pub leads_on : (k : Key) (start v s : ℕ) → v < count → Leads x k start v → declared (indexed_name x v) (standing_of x v) k ≡ None → superclass_at x v ≡ Some s → Leads x k start s
  leads_on k start v s l g d e = λ m h a f. g m h a (chain.inherited (declared_is m h k v None l d) (super_is count x graph m h v s l e) f)

  pub leads_found : (k : Key) (start v : ℕ) (y : Member) → v < count → Leads x k start v → declared (indexed_name x v) (standing_of x v) k ≡ Some y → (m : World) → IsIndexed m x → FindsInClasses m k (indexed_name x start) (Some (record { home = indexed_name x v; member = y }))
  leads_found k start v y l g d m h = g m h _ (chain.own (declared_is m h k v (Some y) l d))

  pub leads_end : (k : Key) (start v : ℕ) → v < count → Leads x k start v → declared (indexed_name x v) (standing_of x v) k ≡ None → superclass_at x v ≡ None → (m : World) → IsIndexed m x → FindsInClasses m k (indexed_name x start) None
  leads_end k start v l g d e m h = g m h None (chain.nowhere (declared_is m h k v None l d) (super_none count x graph m h v l e))
