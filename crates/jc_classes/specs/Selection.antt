-- Selection of methods for which a class has no body (JVMS 6.5, invokevirtual and invokeinterface). A call of such a method
-- throws AbstractMethodError or IncompatibleClassChangeError.
use Rattle.std.specs.Prelude.{◌≡◌, Bool, codes, false, not, true, List, [], ◌∷◌, Some}
use Rattle.std.specs.List.{Contains}
use Rattle.std.specs.List.Sorted.{IsStrictlySortedBy}
use Rattle.std.specs.declared.cmp.Ordering.{Ordering}
use Rattle.std.specs.Ordering.{ordering_then}
use Rattle.jc_file.specs.AccessFlags.{abstract, has, static}
use Rattle.jc_classes.specs.Facts.{Facts, Key, Member}
use Rattle.jc_classes.specs.Inheritance.{Inherited}
use Rattle.jc_classes.specs.Loading.{Load, Loading as loading}
use Rattle.jc_classes.specs.MemberOrder.{key_cmp}
use Rattle.jc_classes.specs.MethodLookup.{IsCandidate, IsOnly}
use Rattle.jc_classes.specs.Names.{Name, name_cmp, name_less, same_name}
use Rattle.jc_classes.specs.Overriding.{Overrides, overridable}
use Rattle.jc_classes.specs.Resolution.{IsOutsideAbove}
use Rattle.jc_classes.specs.Worlds.{Extends, Found, Stands as stands, World, flags_of, is_interface, member, methods_of}

-- instructions can call the method: it is not named <clinit> (2.9)
abbrev pub is_callable : Key → Bool
is_callable k = not (same_name k.name (codes "<clinit>"))

-- invokevirtual selects the ABSTRACT method of a, which is c or a superclass: no class from c up to a overrides it
pub record SelectsAbstract (m : World) (k : Key) (c a : Name) : Type 0 where
  pub on_chain : Extends m c a
  pub method : Member
  pub declared : overridable m k a ≡ Some method
  pub is_abstract : has method.flags abstract ≡ true
  pub nearest : (b : Name) → Extends m c b → Overrides m k b a → ⊥

-- c or a superclass declares a method that is not STATIC
pub record DeclaresInstance (m : World) (k : Key) (c : Name) : Type 0 where
  pub home : Name
  pub on_chain : Extends m c home
  pub method : Member
  pub declared : member (methods_of (m home)) k ≡ Some method
  pub is_instance : has method.flags static ≡ false

-- invokeinterface selects no method for the ABSTRACT method of the superinterface a: no class declares one, and not
-- exactly one of the maximally-specific methods has a body. Of several such interfaces, a is the one with the least name
pub record SelectsNone (m : World) (k : Key) (c a : Name) : Type 0 where
  pub undeclared : DeclaresInstance m k c → ⊥
  pub method : Member
  pub candidate : IsCandidate m k c (record { home = a; member = method })
  pub is_abstract : has method.flags abstract ≡ true
  pub least : (g : Found) → IsCandidate m k c g → has g.member.flags abstract ≡ true → name_less g.home a ≡ false
  pub without_body : (f : Found) → IsOnly m k c f → ⊥

-- c has no body for the ABSTRACT method of a
pub data IsUnimplemented (m : World) (k : Key) (c a : Name) : Type 0 where
  of_class : SelectsAbstract m k c a → IsUnimplemented m k c a
  of_interface : SelectsNone m k c a → IsUnimplemented m k c a

-- c is a class that can have instances, and all its supertypes are known
pub record IsConcrete (m : World) (c : Name) : Type 0 where
  pub loads : Load m c loading.Loaded
  pub is_class : is_interface (m c) ≡ false
  pub not_abstract : has (flags_of (m c)) abstract ≡ false
  pub known : (n : Name) → IsOutsideAbove m c n → ⊥

-- each class has its own name
abbrev pub IsNamed : World → Type 0
IsNamed m = (n : Name) (r : Facts) → m n ≡ stands.Class r → r.name ≡ n

-- by name, then by descriptor, then by class
abbrev pub inherited_cmp : Inherited → Inherited → Ordering
inherited_cmp a b = ordering_then (key_cmp a.key b.key) (name_cmp a.home b.home)

-- the ABSTRACT methods for which c has no body and which instructions can call, in order. A class without instances, or of which a supertype is not known,
-- has none
pub record AreUnimplemented (m : World) (c : Name) (methods : List Inherited) : Type 0 where
  pub rises : IsStrictlySortedBy inherited_cmp methods
  pub sound : (i : Inherited) → Contains methods i → IsConcrete m c × (is_callable i.key ≡ true) × IsUnimplemented m i.key c i.home
  pub complete : (i : Inherited) → IsConcrete m c → is_callable i.key ≡ true → IsUnimplemented m i.key c i.home → Contains methods i

-- this for each of these classes
abbrev pub EachUnimplemented : World → List Name → List (List Inherited) → Type 0
EachUnimplemented m [] [] = Unit {0}
EachUnimplemented m (n ∷ ns) (l ∷ ls) = AreUnimplemented m n l × EachUnimplemented m ns ls
EachUnimplemented m [] (l ∷ ls) = ⊥
EachUnimplemented m (n ∷ ns) [] = ⊥
