-- Look-up of methods and of interface methods (JVMS 5.4.3.3, 5.4.3.4, 2.9).
use Rattle.std.specs.Prelude.{◌≡◌, ℕ, ◌+◌, ◌==◌, Bool, false, ◌&&◌}
use Rattle.std.specs.Prelude.{◌||◌, not, cond, List, [], ◌∷◌, Option, Some, None}
use Rattle.std.specs.Option.{option_or}
use Rattle.jc_classes.specs.Facts.{Key, Member}
use Rattle.jc_classes.specs.Names.{Name, same_name, name_less, object, method_handle, polymorphic_descriptor}
use Rattle.jc_file.specs.AccessFlags.{has, public, private, static, varargs, native, abstract}
use Rattle.jc_classes.specs.Worlds.{Stands, World, superclass_of, methods_of, is_interface, Above, member, Found}

-- the method has the descriptor and the flags of a signature polymorphic method (2.9)
abbrev pub is_polymorphic : Member → Bool
is_polymorphic x = same_name x.descriptor polymorphic_descriptor && (has x.flags varargs && has x.flags native)

abbrev pub if_polymorphic : Option Member → Option Member
if_polymorphic None = None
if_polymorphic (Some x) = cond (is_polymorphic x) (Some x) None

abbrev pub count_named : List Member → Name → ℕ
count_named [] name = 0
count_named (x ∷ xs) name = cond (same_name x.name name) 1 0 + count_named xs name

abbrev pub first_named : List Member → Name → Option Member
first_named [] name = None
first_named (x ∷ xs) name = cond (same_name x.name name) (Some x) (first_named xs name)

-- the method with this name, if exactly one method has it
abbrev pub sole_named : List Member → Name → Option Member
sole_named methods name = cond (count_named methods name == 1) (first_named methods name) None

-- the signature polymorphic method of the class c with this name, if c has no other method with it (2.9, 5.4.3.3)
abbrev pub polymorphic : Name → List Member → Name → Option Member
polymorphic c methods name = cond (same_name c method_handle) (if_polymorphic (sole_named methods name)) None

-- the method that look-up finds in the class itself: a signature polymorphic one, or one with this name and descriptor
abbrev pub declared : Name → Stands → Key → Option Member
declared c r k = option_or (polymorphic c (methods_of r) k.name) (member (methods_of r) k)

-- what look-up finds in a class, and then in its superclasses in turn
pub data FindsInClasses (m : World) (k : Key) : Name → Option Found → Type 0 where
  own : {c : Name} {x : Member} → declared c (m c) k ≡ Some x → FindsInClasses m k c (Some (record { home = c; member = x }))
  inherited : {c s : Name} {a : Option Found} → declared c (m c) k ≡ None → superclass_of (m c) ≡ Some s
      → FindsInClasses m k s a → FindsInClasses m k c a
  nowhere : {c : Name} → declared c (m c) k ≡ None → superclass_of (m c) ≡ None → FindsInClasses m k c None

abbrev pub unless_private_or_static : Member → Option Member
unless_private_or_static x = cond (has x.flags private || has x.flags static) None (Some x)

-- the method, if there is one and it is neither PRIVATE nor STATIC
abbrev pub only_inheritable : Option Member → Option Member
only_inheritable None = None
only_inheritable (Some x) = unless_private_or_static x

-- the method with this name and descriptor that an interface declares, if it is neither PRIVATE nor STATIC
abbrev pub given_by : Stands → Key → Option Member
given_by r k = cond (is_interface r) (only_inheritable (member (methods_of r) k)) None

-- such a method of a transitive superinterface of the class
pub record IsCandidate (m : World) (k : Key) (c : Name) (f : Found) : Type 0 where
  pub above : Above m c f.home
  pub given : given_by (m f.home) k ≡ Some f.member

-- a maximally-specific candidate: no candidate is declared by a subinterface of its interface
pub record IsMaximal (m : World) (k : Key) (c : Name) (f : Found) : Type 0 where
  pub candidate : IsCandidate m k c f
  pub lowest : (g : Found) → IsCandidate m k c g → Above m g.home f.home → ⊥

-- the only maximally-specific candidate that is not ABSTRACT
pub record IsOnly (m : World) (k : Key) (c : Name) (f : Found) : Type 0 where
  pub maximal : IsMaximal m k c f
  pub concrete : has f.member.flags abstract ≡ false
  pub only : (g : Found) → IsMaximal m k c g → has g.member.flags abstract ≡ false → g.home ≡ f.home

-- the candidate whose interface has the least name
pub record IsLeast (m : World) (k : Key) (c : Name) (f : Found) : Type 0 where
  pub candidate : IsCandidate m k c f
  pub least : (g : Found) → IsCandidate m k c g → name_less g.home f.home ≡ false

-- what look-up in the superinterfaces finds: the method of IsOnly if there is one, or else that of IsLeast. In the
-- second case the standard lets a virtual machine choose any candidate
pub data FindsAbove (m : World) (k : Key) (c : Name) : Option Found → Type 0 where
  only : {f : Found} → IsOnly m k c f → FindsAbove m k c (Some f)
  least : {f : Found} → ((g : Found) → IsOnly m k c g → ⊥) → IsLeast m k c f → FindsAbove m k c (Some f)
  nowhere : ((g : Found) → IsCandidate m k c g → ⊥) → FindsAbove m k c None

-- what look-up of a method finds (5.4.3.3)
pub data FindsMethod (m : World) (k : Key) (c : Name) : Option Found → Type 0 where
  in_class : {f : Found} → FindsInClasses m k c (Some f) → FindsMethod m k c (Some f)
  in_interface : {a : Option Found} → FindsInClasses m k c None → FindsAbove m k c a → FindsMethod m k c a

abbrev pub if_open : Member → Option Member
if_open x = cond (has x.flags public && not (has x.flags static)) (Some x) None

abbrev pub only_open : Option Member → Option Member
only_open None = None
only_open (Some x) = if_open x

-- the method of java/lang/Object with this name and descriptor, if it is PUBLIC and not STATIC
abbrev pub of_object : Stands → Key → Option Member
of_object r k = only_open (member (methods_of r) k)

-- what look-up of an interface method finds (5.4.3.4)
pub data FindsInterfaceMethod (m : World) (k : Key) (c : Name) : Option Found → Type 0 where
  own : {x : Member} → member (methods_of (m c)) k ≡ Some x → FindsInterfaceMethod m k c (Some (record { home = c; member = x }))
  in_object : {x : Member} → member (methods_of (m c)) k ≡ None → of_object (m object) k ≡ Some x
      → FindsInterfaceMethod m k c (Some (record { home = object; member = x }))
  in_interface : {a : Option Found} → member (methods_of (m c)) k ≡ None → of_object (m object) k ≡ None
      → FindsAbove m k c a → FindsInterfaceMethod m k c a
