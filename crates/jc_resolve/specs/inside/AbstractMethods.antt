-- The ABSTRACT methods of numbered classes.
use Rattle.std.specs.Prelude.{◌≡◌, ◌⊎◌, ◌&&◌, ℕ, ◌<◌, Bool, true, List, [], length, Some, slice_get}
use Rattle.std.specs.List.{Contains}
use Rattle.std.specs.List.Sorted.{IsStrictlySortedBy}
use Rattle.std.specs.Ordering.{nat_cmp, ordering_then}
use Rattle.std.specs.declared.alloc.Global.{Global}
use Rattle.std.specs.declared.cmp.Ordering.{Ordering}
use Rattle.std.specs.declared.vec.Vec.{Vec}
use Rattle.jc_file.specs.AccessFlags.{abstract, has}
use Rattle.jc_classes.specs.Facts.{Key, Member}
use Rattle.jc_classes.specs.MemberOrder.{key_at}
use Rattle.jc_classes.specs.Names.{Name, name_cmp}
use Rattle.jc_classes.specs.Selection.{is_callable}
use Rattle.jc_classes.specs.Worlds.{Stands, methods_of}
use Rattle.jc_classes.specs.Worlds.{Stands as stands}
use Rattle.jc_graph.specs.Graph.{successors_of}
use Rattle.jc_numbered.specs.inside.Indexed.{Indexed, standing_of}
use Rattle.jc_numbered.specs.inside.Overriding.{overridable_at}
use Rattle.jc_resolve.specs.Methods.{inherited_of}
use Rattle.jc_resolve.specs.declared.abstract_methods.AbstractMethod.{AbstractMethod}
use Rattle.jc_resolve.specs.declared.abstract_methods.AbstractMethods.{AbstractMethods}

-- the method with its access flags
abbrev pub member_in : AbstractMethod → Member
member_in e = record { name = e.name.now; descriptor = e.descriptor.now; flags = e.flags }

abbrev pub key_in : AbstractMethod → Key
key_in e = (inherited_of e).key

-- by name, descriptor and class, and then by node and flags
abbrev pub entry_cmp : AbstractMethod → AbstractMethod → Ordering
entry_cmp a b =
    ordering_then (name_cmp a.name.now b.name.now) (ordering_then (name_cmp a.descriptor.now b.descriptor.now)
    (ordering_then (name_cmp a.class.now b.class.now) (ordering_then (nat_cmp a.node b.node) (nat_cmp a.flags b.flags))))

-- the name of the class in its facts
abbrev pub own_name : Stands → Name
own_name (stands.Class r) = r.name
own_name stands.Outside = []
own_name stands.Absent = []

-- the method with this key can be called and has no body
abbrev pub has_no_body : Key → Member → Bool
has_no_body k y = is_callable k && has y.flags abstract

-- the class of the node declares the method
pub record IsAbstract (x : Indexed) (e : AbstractMethod) : Type 0 where
  pub method : Member
  pub declared : overridable_at x (key_in e) e.node ≡ Some method
  pub flags : e.flags ≡ method.flags
  pub no_body : has_no_body (key_in e) method ≡ true
  pub home : e.class.now ≡ own_name (standing_of x e.node)

-- the list has the method of the node with this key
abbrev pub Has : List AbstractMethod → ℕ → Key → Type 0
Has all v k = (e : AbstractMethod) × Contains all e × (e.node ≡ v) × (key_in e ≡ k)

-- the ABSTRACT methods of the first `count` nodes that can be called
pub record AreAbstract (count : ℕ) (x : Indexed) (all : List AbstractMethod) : Type 0 where
  pub sound : (e : AbstractMethod) → Contains all e → (e.node < count) × IsAbstract x e
  pub complete : (v : ℕ) (k : Key) (y : Member) → v < count → overridable_at x k v ≡ Some y → has_no_body k y ≡ true → Has all v k

-- the method of the node with this key was appended, if it is ABSTRACT
pub record AddsAbstract (x : Indexed) (v : ℕ) (k : Key) (old new : List AbstractMethod) : Type 0 where
  pub kept : (e : AbstractMethod) → Contains old e → Contains new e
  pub sound : (e : AbstractMethod) → Contains new e → Contains old e ⊎ ((e.node ≡ v) × IsAbstract x e)
  pub complete : (y : Member) → overridable_at x k v ≡ Some y → has_no_body k y ≡ true → Has new v k

-- this for the first methods of the node
pub record AddsAbstracts (x : Indexed) (v count : ℕ) (old new : List AbstractMethod) : Type 0 where
  pub kept : (e : AbstractMethod) → Contains old e → Contains new e
  pub sound : (e : AbstractMethod) → Contains new e → Contains old e ⊎ ((e.node ≡ v) × IsAbstract x e)
  pub complete : (i : ℕ) (y : Member) → i < count → overridable_at x (key_at (methods_of (standing_of x v)) i) v ≡ Some y
      → has_no_body (key_at (methods_of (standing_of x v)) i) y ≡ true → Has new v (key_at (methods_of (standing_of x v)) i)

-- for each node, the numbers of its methods among the first `n` of the list
pub record AreNumbers (count n : ℕ) (all : List AbstractMethod) (of_class : List (Vec ℕ Global)) : Type 0 where
  pub size : length of_class ≡ count
  pub sound : (v i : ℕ) → Contains (successors_of of_class v) i → (e : AbstractMethod) × (slice_get all i ≡ Some e) × (e.node ≡ v)
  pub complete : (i : ℕ) (e : AbstractMethod) → i < n → slice_get all i ≡ Some e → e.node < count → Contains (successors_of of_class e.node) i

-- the ABSTRACT methods of all nodes, in order, each once
pub record AreMethods (count : ℕ) (x : Indexed) (m : AbstractMethods) : Type 0 where
  pub all : AreAbstract count x m.all.items
  pub rises : IsStrictlySortedBy entry_cmp m.all.items
  pub of_class : AreNumbers count (length m.all.items) m.all.items m.of_class.items
