-- Errors of inheritance: the class loads, and a virtual machine still rejects it (JVMS 4.10).
use Rattle.std.specs.Prelude.{◌≡◌, ℕ, Bool, false, List, [], ◌∷◌, map}
use Rattle.std.specs.Bool.{Decides}
use Rattle.jc_classes.specs.Facts.{Key}
use Rattle.jc_classes.specs.Loading.{Load, Loading}
use Rattle.jc_classes.specs.Loading.{Loading as loading}
use Rattle.jc_classes.specs.MemberOrder.{IsOrder, key_at}
use Rattle.jc_classes.specs.Names.{Name}
use Rattle.jc_classes.specs.Overriding.{ExtendsFinal, IsFinalAbove, OverridesFinal}
use Rattle.jc_classes.specs.Worlds.{World, methods_of}

-- a method, and the class that declares it
pub record Inherited : Type 0 where
  pub home : Name
  pub key : Key

pub record InheritanceErrors : Type 0 where
  -- the superclass is FINAL
  pub extends_final : Bool
  -- the FINAL methods that are overridden
  pub overridden : List Inherited

abbrev pub no_errors : InheritanceErrors
no_errors = record { extends_final = false; overridden = [] }

-- for each of these methods of c, the nearest FINAL method that it overrides, if there is one
pub data AreOverridden (m : World) (c : Name) : List Key → List Inherited → Type 0 where
  none : AreOverridden m c [] []
  some : {k : Key} {a : Name} {ks : List Key} {more : List Inherited} → OverridesFinal m k c a → AreOverridden m c ks more
      → AreOverridden m c (k ∷ ks) (record { home = a; key = k } ∷ more)
  passes : {k : Key} {ks : List Key} {more : List Inherited} → ((a : Name) → IsFinalAbove m k c a → ⊥)
      → AreOverridden m c ks more → AreOverridden m c (k ∷ ks) more

-- the errors of a class that loads: whether its superclass is FINAL, and the FINAL methods that its methods override,
-- in the order of names and descriptors
pub record AreErrors (m : World) (c : Name) (e : InheritanceErrors) : Type 0 where
  pub extends_final : Decides e.extends_final (ExtendsFinal m c)
  pub order : List ℕ
  pub is_order : IsOrder (methods_of (m c)) order
  pub overridden : AreOverridden m c (map (key_at (methods_of (m c))) order) e.overridden

-- a class that does not load has no errors of inheritance
abbrev pub AreErrorsOf : World → (c : Name) → Loading → InheritanceErrors → Type 0
AreErrorsOf m c loading.Loaded e = AreErrors m c e
AreErrorsOf m c loading.Outside e = e ≡ no_errors
AreErrorsOf m c (loading.Fails error fault) e = e ≡ no_errors

-- the errors of inheritance of the class c
abbrev pub IsInheritance : World → (c : Name) → InheritanceErrors → Type 0
IsInheritance m c e = (l : Loading) → Load m c l → AreErrorsOf m c l e

-- each of these classes has its own errors of inheritance
abbrev pub AreInherited : World → List Name → List InheritanceErrors → Type 0
AreInherited m [] [] = Unit {0}
AreInherited m (n ∷ ns) (e ∷ es) = IsInheritance m n e × AreInherited m ns es
AreInherited m [] (e ∷ es) = ⊥
AreInherited m (n ∷ ns) [] = ⊥
