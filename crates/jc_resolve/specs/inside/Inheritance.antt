-- Errors of inheritance of a node, in every world that agrees with the nodes.
use Rattle.std.specs.Prelude.{◌≡◌, ℕ, ◌⊎◌, List, [], ◌∷◌, ◌++◌, map, Option, Some, slice_get}
use Rattle.jc_classes.specs.Facts.{Key}
use Rattle.jc_classes.specs.Inheritance.{AreErrors, AreOverridden, Inherited, InheritanceErrors, no_errors}
use Rattle.jc_classes.specs.MemberOrder.{IsOrder, key_at}
use Rattle.jc_classes.specs.Names.{Name}
use Rattle.jc_classes.specs.Overriding.{IsFinalAbove, OverridesFinal}
use Rattle.jc_classes.specs.Worlds.{World, methods_of}
use Rattle.jc_numbered.specs.declared.loads.Load.{Load}
use Rattle.jc_numbered.specs.declared.loads.Load.TheVariants.{Loaded}
use Rattle.jc_numbered.specs.inside.Loading.{load_at}
use Rattle.jc_numbered.specs.inside.Indexed.{Indexed, IsIndexed, indexed_name, standing_of}

abbrev pub TellsErrors : Indexed → ℕ → InheritanceErrors → Type 0
TellsErrors x c e = (m : World) → IsIndexed m x → AreErrors m (indexed_name x c) e

-- the errors of a node by how it loads: a class that does not load has none
pub record TellsErrorsOf (x : Indexed) (load : Load) (c : ℕ) (e : InheritanceErrors) : Type 0 where
  pub loaded : load ≡ Loaded → TellsErrors x c e
  pub others : (load ≡ Loaded → ⊥) → e ≡ no_errors

-- the errors of each of these nodes
abbrev pub TellErrors : Indexed → List Load → List ℕ → List InheritanceErrors → Type 0
TellErrors x loads [] [] = Unit {0}
TellErrors x loads (v ∷ vs) (e ∷ es) = TellsErrorsOf x (load_at loads v) v e × TellErrors x loads vs es
TellErrors x loads [] (e ∷ es) = ⊥
TellErrors x loads (v ∷ vs) [] = ⊥

-- the errors of the nodes that have errors in the list
abbrev pub AreFound : Indexed → List Load → List (Option InheritanceErrors) → Type 0
AreFound x loads found = (v : ℕ) (e : InheritanceErrors) → slice_get found v ≡ Some (Some e) → TellsErrorsOf x (load_at loads v) v e

-- the FINAL methods that the methods of c override, in the order of the methods of c
pub record TellsOverridden (x : Indexed) (c : ℕ) (found : List Inherited) : Type 0 where
  pub order : List ℕ
  pub is_order : IsOrder (methods_of (standing_of x c)) order
  pub are : (m : World) → IsIndexed m x
      → AreOverridden m (indexed_name x c) (map (key_at (methods_of (standing_of x c))) order) found

-- the FINAL method that the method of c overrides was appended, or there is none
abbrev pub AddsOverridden : Indexed → ℕ → Key → (old new : List Inherited) → Type 0
AddsOverridden x c k old new =
    ((a : Name) × ((m : World) → IsIndexed m x → OverridesFinal m k (indexed_name x c) a) × (new ≡ old ++ (record { home = a; key = k } ∷ [])))
    ⊎ (((m : World) → IsIndexed m x → (a : Name) → IsFinalAbove m k (indexed_name x c) a → ⊥) × (new ≡ old))
