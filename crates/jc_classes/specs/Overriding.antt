-- Overriding of methods (JVMS 5.4.5). A virtual machine rejects a class that overrides a FINAL method or extends a
-- FINAL class (JVMS 4.10).
use Rattle.std.specs.Prelude.{◌≡◌, ◌⊎◌, ◌||◌, ◌&&◌, Bool, true, Option, Some}
use Rattle.jc_file.specs.AccessFlags.{final, has, protected, public}
use Rattle.jc_classes.specs.Access.{is_package_private}
use Rattle.jc_classes.specs.Facts.{Key, Member}
use Rattle.jc_classes.specs.MethodLookup.{only_inheritable}
use Rattle.jc_classes.specs.Names.{Name, package_of, same_name}
use Rattle.jc_classes.specs.Worlds.{Extends, World, flags_of, member, methods_of, superclass_of}

-- a is a superclass of c
abbrev pub IsSuperclass : World → (c a : Name) → Type 0
IsSuperclass m c a = (s : Name) × (superclass_of (m c) ≡ Some s) × Extends m s a

-- the method with this name and descriptor that a class declares, if it is neither STATIC nor PRIVATE
abbrev pub overridable : World → Key → Name → Option Member
overridable m k c = only_inheritable (member (methods_of (m c)) k)

-- a subclass c of a can override the method x of a: it is PUBLIC or PROTECTED, or package-private and c is in the
-- package of a (5.4.5)
abbrev pub is_open_to : (c a : Name) → Member → Bool
is_open_to c a x =
    (has x.flags public || has x.flags protected) || (is_package_private x && same_name (package_of c) (package_of a))

-- the method of c with this name and descriptor overrides that of its superclass a (5.4.5)
pub data Overrides (m : World) (k : Key) : (c a : Name) → Type 0 where
  directly : {c a : Name} {x y : Member} → IsSuperclass m c a
      → overridable m k c ≡ Some x → overridable m k a ≡ Some y → is_open_to c a y ≡ true → Overrides m k c a
  through : {c b a : Name} → Overrides m k c b → Overrides m k b a → Overrides m k c a

-- the method of c overrides that of a, which is FINAL
pub record IsFinalAbove (m : World) (k : Key) (c a : Name) : Type 0 where
  pub overrides : Overrides m k c a
  pub method : Member
  pub declared : overridable m k a ≡ Some method
  pub final : has method.flags final ≡ true

-- a is the nearest superclass with such a FINAL method
pub record OverridesFinal (m : World) (k : Key) (c a : Name) : Type 0 where
  pub above : IsFinalAbove m k c a
  pub nearest : (b : Name) → IsFinalAbove m k c b → (b ≡ a) ⊎ IsSuperclass m a b

-- the direct superclass is a FINAL class
abbrev pub ExtendsFinal : World → (c : Name) → Type 0
ExtendsFinal m c = (s : Name) × (superclass_of (m c) ≡ Some s) × (has (flags_of (m s)) final ≡ true)
