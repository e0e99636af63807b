-- FINAL methods that a class overrides, among numbered classes.
use Rattle.std.specs.Prelude.{◌≡◌, ℕ, ◌⊎◌, true, ◌||◌, cond, nat_lt, Option, Some, None}
use Rattle.jc_file.specs.AccessFlags.{final, has, protected, public}
use Rattle.jc_classes.specs.Facts.{Key, Member}
use Rattle.jc_classes.specs.MethodLookup.{only_inheritable}
use Rattle.jc_classes.specs.Names.{Name, package_of}
use Rattle.jc_classes.specs.Overriding.{IsFinalAbove, IsSuperclass, Overrides, OverridesFinal, overridable}
use Rattle.jc_classes.specs.Worlds.{World, member, methods_of}
use Rattle.jc_numbered.specs.inside.Chain.{ExtendsNode}
use Rattle.jc_numbered.specs.inside.Indexed.{Indexed, IsIndexed, indexed_name, rank_at, standing_of}
use Rattle.jc_numbered.specs.inside.Slots.{Slot, open_slot, package_slot}

abbrev pub package_at : Indexed → ℕ → Name
package_at x v = package_of (indexed_name x v)

-- the method of a node that may be overridden
abbrev pub overridable_at : Indexed → Key → ℕ → Option Member
overridable_at x k v = only_inheritable (member (methods_of (standing_of x v)) k)

-- the slot of the method y with this key of v
abbrev pub slot_of : Indexed → Key → ℕ → Member → Slot
slot_of x k v y = cond (has y.flags public || has y.flags protected) (open_slot k) (package_slot (package_at x v) k)

-- v declares a method of the slot
abbrev pub Fits : Indexed → Slot → ℕ → Type 0
Fits x s v = (y : Member) × (overridable_at x s.key v ≡ Some y) × (slot_of x s.key v y ≡ s)

-- the nearest FINAL method that the method of c overrides, in every world that agrees with x
abbrev pub TellsFinal : Indexed → Key → ℕ → Option ℕ → Type 0
TellsFinal x k c None = (m : World) → IsIndexed m x → (a : Name) → IsFinalAbove m k (indexed_name x c) a → ⊥
TellsFinal x k c (Some v) = (m : World) → IsIndexed m x → OverridesFinal m k (indexed_name x c) (indexed_name x v)

-- a is c, or its method is overridden by that of c; and the method of a is FINAL
pub record IsFinalFrom (m : World) (k : Key) (c a : Name) : Type 0 where
  pub from : (a ≡ c) ⊎ Overrides m k c a
  pub method : Member
  pub declared : overridable m k a ≡ Some method
  pub final : has method.flags final ≡ true

-- a is the nearest such class
pub record IsNearestFrom (m : World) (k : Key) (c a : Name) : Type 0 where
  pub is : IsFinalFrom m k c a
  pub nearest : (b : Name) → IsFinalFrom m k c b → (b ≡ a) ⊎ IsSuperclass m a b

-- the nearest FINAL method among that of v and those that it overrides
abbrev pub TellsNearest : Indexed → Key → ℕ → Option ℕ → Type 0
TellsNearest x k v None = (m : World) → IsIndexed m x → (a : Name) → IsFinalFrom m k (indexed_name x v) a → ⊥
TellsNearest x k v (Some w) = ExtendsNode x v w × ((m : World) → IsIndexed m x → IsNearestFrom m k (indexed_name x v) (indexed_name x w))

-- of two superclasses of one class the nearer one, which has the greater rank
abbrev pub nearer : Indexed → (a b : Option ℕ) → Option ℕ
nearer x (Some a) (Some b) = cond (nat_lt (rank_at x a) (rank_at x b)) (Some b) (Some a)
nearer x (Some a) None = Some a
nearer x None b = b
