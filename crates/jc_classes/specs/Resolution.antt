-- Resolution of references (JVMS 5.4.3.1 to 5.4.3.4).
use Rattle.std.specs.Prelude.{◌≡◌, ℕ, Bool, true, false, cond, Option, Some, None}
use Rattle.jc_classes.specs.Facts.{Key, Member, Named}
use Rattle.jc_classes.specs.Names.{Name, name_less, object}
use Rattle.jc_classes.specs.Worlds.{World, Stands as stands, Above, is_interface, flags_of, Found, text_of}
use Rattle.jc_classes.specs.Facts.Named.{Class, Array}
use Rattle.jc_classes.specs.FieldLookup.{FindsField}
use Rattle.jc_classes.specs.MethodLookup.{FindsMethod, FindsInterfaceMethod}
use Rattle.jc_classes.specs.Loading.{Load, Loading, can_see}
use Rattle.jc_classes.specs.Loading.{Loading as loading}
use Rattle.jc_classes.specs.declared.linkage_error.LinkageError.{LinkageError}
use Rattle.jc_classes.specs.declared.linkage_error.LinkageError.TheVariants.{Incompatible, IllegalAccess, NoField, NoMethod}
use Rattle.jc_classes.specs.Access.{CanUse}

-- the answer to a reference: what it resolves to, or why it does not resolve
pub data Answer : Type 0 where
  -- a class or an array, by its text, and its access flags; those of an array are 0
  ToClass : (text : Name) (flags : ℕ) → Answer
  -- the class that declares a member, and the member as it is declared
  ToMember : (home : Name) (found : Member) → Answer
  -- the outside name that the answer depends on
  Outside : Name → Answer
  -- the class that contains the reference does not load
  NotLoaded : Answer
  -- an error, and the class or the array at fault
  Error : LinkageError → Name → Answer

-- the answer to the class or array t with these flags, by how its class c loads and whether c is accessible (5.4.3.1)
abbrev pub class_answer : Name → Name → Loading → Bool → ℕ → Answer
class_answer t c loading.Loaded sees flags = cond sees (ToClass t flags) (Error IllegalAccess c)
class_answer t c loading.Outside sees flags = Outside c
class_answer t c (loading.Fails e x) sees flags = Error e x

-- the answer to a reference of the class d to a class or an array (5.4.3.1)
pub data ResolvesClass (m : World) (d : Name) : Named → Answer → Type 0 where
  class : {c : Name} {l : Loading} {a : Answer} → Load m c l
      → a ≡ class_answer c c l (can_see d c (m c)) (flags_of (m c)) → ResolvesClass m d (Class c) a
  primitives : {t : Name} → ResolvesClass m d (Array t None) (ToClass t 0)
  array : {t e : Name} {l : Loading} {a : Answer} → Load m e l
      → a ≡ class_answer t e l (can_see d e (m e)) 0 → ResolvesClass m d (Array t (Some e)) a

-- the class in which look-up of a member begins, or the answer if there is no look-up
pub data Start : Type 0 where
  At : Name → Start
  Ends : Answer → Start

-- for an array look-up begins in java/lang/Object, if that loads
abbrev pub object_start : Loading → Start
object_start loading.Loaded = At object
object_start loading.Outside = Ends (Outside object)
object_start (loading.Fails e x) = Ends (Error e x)

-- where look-up begins, by the answer to what the reference names, and by how java/lang/Object loads
abbrev pub start_of : Named → Answer → Loading → Start
start_of (Class c) (ToClass x f) l = At c
start_of (Class c) (ToMember h x) l = Ends (ToMember h x)
start_of (Class c) (Outside x) l = Ends (Outside x)
start_of (Class c) NotLoaded l = Ends NotLoaded
start_of (Class c) (Error e x) l = Ends (Error e x)
start_of (Array t n) (ToClass x f) l = object_start l
start_of (Array t n) (ToMember h x) l = object_start l
start_of (Array t n) (Outside x) l = object_start l
start_of (Array t n) NotLoaded l = object_start l
start_of (Array t n) (Error e x) l = Ends (Error e x)

-- where look-up of a member begins if a reference of the class d names the class or the array t
pub data Starts (m : World) (d : Name) (t : Named) (s : Start) : Type 0 where
  starts : {a : Answer} {l : Loading} → ResolvesClass m d t a → Load m object l → s ≡ start_of t a l → Starts m d t s

-- an outside name among the transitive supertypes of a class
pub record IsOutsideAbove (m : World) (c n : Name) : Type 0 where
  pub above : Above m c n
  pub outside : m n ≡ stands.Outside

-- the answer to a reference of the class d that names t, by what look-up from c finds: the member if it is accessible,
-- else IllegalAccess. If look-up finds none, the answer is the least outside transitive supertype of c. Without one it
-- is the error `missing`
pub data Settles (m : World) (d : Name) (t : Named) (c : Name) (missing : LinkageError) : Option Found → Answer → Type 0 where
  found : {f : Found} → CanUse m d t f → Settles m d t c missing (Some f) (ToMember f.home f.member)
  hidden : {f : Found} → (CanUse m d t f → ⊥) → Settles m d t c missing (Some f) (Error IllegalAccess f.home)
  outside : {n : Name} → IsOutsideAbove m c n → ((j : Name) → IsOutsideAbove m c j → name_less j n ≡ false)
      → Settles m d t c missing None (Outside n)
  nowhere : ((j : Name) → IsOutsideAbove m c j → ⊥) → Settles m d t c missing None (Error missing (text_of t))

-- the answer to a reference to a field (5.4.3.2)
pub data ResolvesField (m : World) (d : Name) (t : Named) (k : Key) (a : Answer) : Type 0 where
  ends : Starts m d t (Ends a) → ResolvesField m d t k a
  looks : {c : Name} {f : Option Found} → Starts m d t (At c) → FindsField m k c f
      → Settles m d t c NoField f a → ResolvesField m d t k a

-- the answer to a reference to a method; Incompatible if it names an interface (5.4.3.3)
pub data ResolvesMethod (m : World) (d : Name) (t : Named) (k : Key) (a : Answer) : Type 0 where
  ends : Starts m d t (Ends a) → ResolvesMethod m d t k a
  interface : {c : Name} → Starts m d t (At c) → is_interface (m c) ≡ true → a ≡ Error Incompatible c → ResolvesMethod m d t k a
  looks : {c : Name} {f : Option Found} → Starts m d t (At c) → is_interface (m c) ≡ false → FindsMethod m k c f
      → Settles m d t c NoMethod f a → ResolvesMethod m d t k a

-- the answer to a reference to an interface method; Incompatible if it names a class or an array (5.4.3.4)
pub data ResolvesInterfaceMethod (m : World) (d : Name) (t : Named) (k : Key) (a : Answer) : Type 0 where
  ends : Starts m d t (Ends a) → ResolvesInterfaceMethod m d t k a
  no_interface : {c : Name} → Starts m d t (At c) → is_interface (m c) ≡ false
      → a ≡ Error Incompatible (text_of t) → ResolvesInterfaceMethod m d t k a
  looks : {c : Name} {f : Option Found} → Starts m d t (At c) → is_interface (m c) ≡ true → FindsInterfaceMethod m k c f
      → Settles m d t c NoMethod f a → ResolvesInterfaceMethod m d t k a
